-- The divisors of the reference's series beyond those of the working ones, and the lower number of a fraction by the quarter. Assumes nothing.
use mathlib.Core.List.{List, [], ◌∷◌, ◌++◌}
use Prim.Native.Nat.{ℕ, zero, suc, ◌*◌}
use lib.IntN.{ℤ}
use Rattle.cosine.specs.Cosine.{evens, odds}

abbrev more_evens : List ℕ
more_evens = 13 * 14 ∷ 15 * 16 ∷ 17 * 18 ∷ 19 * 20 ∷ []

abbrev pub more_odds : List ℕ
more_odds = 14 * 15 ∷ 16 * 17 ∷ 18 * 19 ∷ 20 * 21 ∷ []

abbrev pub all_evens : List ℕ
all_evens = evens ++ more_evens

abbrev pub all_odds : List ℕ
all_odds = odds ++ more_odds

unfoldable pub low_by_quarter : ℕ → ℤ → ℤ → ℤ
low_by_quarter zero e o = e
low_by_quarter (suc zero) e o = o
low_by_quarter (suc (suc zero)) e o = e
low_by_quarter (suc (suc (suc k))) e o = o
