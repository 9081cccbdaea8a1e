-- The sums that L, B and R stand for, worked in exact fractions, in parts (RULES, "Working cosine and sums"), and what being near them means.
use Rattle.std.specs.Prelude.{List, [], ◌∷◌, ℕ, suc, ℤ, pos}
use Rattle.integers.specs.Fractions.{Fraction, Apart, ◌*ᶠ◌, ◌+ᶠ◌, wholeᶠ, overᶠ, powerᶠ}
use Rattle.units.specs.Units.{millennium}
use Rattle.units.specs.declared.Coordinates.{Coordinates}
use Rattle.reference_cosine.specs.Terms.{term_reference}
use Rattle.limits.specs.declared.Term.{Term}
use Rattle.series.specs.Sums.{longitude_blocks, latitude_blocks, radius_blocks}

-- tau = t/T
abbrev pub tau : ℤ → Fraction
tau t = overᶠ t millennium

-- A term of power i is a tau^i times the reference cosine of b + c tau.
unfoldable pub exact_term : ℤ → ℕ → Term → Fraction
exact_term t i x = wholeᶠ x.a *ᶠ powerᶠ (tau t) i *ᶠ term_reference x.b x.c t

-- The sum of a block of power i, and of the blocks of a coordinate from power i on.
unfoldable pub exact_block : ℤ → ℕ → List Term → Fraction
exact_block t i [] = wholeᶠ (pos 0)
exact_block t i (x ∷ xs) = exact_term t i x +ᶠ exact_block t i xs

unfoldable pub exact_sum : ℤ → ℕ → List (List Term) → Fraction
exact_sum t i [] = wholeᶠ (pos 0)
exact_sum t i (b ∷ bs) = exact_block t i b +ᶠ exact_sum t (suc i) bs

-- The exact L, B and R of a series at t.
unfoldable pub exact_longitude : ℤ → List (List Term) → Fraction
exact_longitude t blocks = exact_sum t 0 (longitude_blocks blocks)

unfoldable pub exact_latitude : ℤ → List (List Term) → Fraction
exact_latitude t blocks = exact_sum t 0 (latitude_blocks blocks)

unfoldable pub exact_radius : ℤ → List (List Term) → Fraction
exact_radius t blocks = exact_sum t 0 (radius_blocks blocks)

-- 10^-6 radian or AU.
abbrev pub millionth : Fraction
millionth = wholeᶠ (pos 100000)

-- The whole numbers c are within 10^-6 of the exact L, B and R of the blocks at t.
pub record NearExact (c : Coordinates) (t : ℤ) (blocks : List (List Term)) : Type 0 where
  pub longitude : Apart millionth (wholeᶠ c.longitude) (exact_longitude t blocks)
  pub latitude : Apart millionth (wholeᶠ c.latitude) (exact_latitude t blocks)
  pub radius : Apart millionth (wholeᶠ c.radius) (exact_radius t blocks)
