-- The plain series is the nested one. Assumes nothing.
use mathlib.Core.Path.{◌≡◌}
use mathlib.Core.List.{List, [], ◌∷◌}
use Prim.Native.Nat.{ℕ, zero, suc, ◌*◌, ◌+◌, ◌-◌, ◌/◌}
use lib.IntN.{ℤ, pos, ◌*ℤ◌}
use Rattle.integers.proofs.Ring.{E, v, #, ◌⊕◌, ◌⊖◌, ◌⊗◌, ⊝, ring}
use Rattle.reference_cosine.specs.Reference.{power, factorial, sum, alternate, even_series, odd_series}
use Rattle.reference_cosine.proofs.Divisors.{all_evens, all_odds}
use Rattle.reference_cosine.proofs.NestedSeries.{low, up}
use Rattle.reference_cosine.proofs.Lipschitz.{C_up, C_low, S_up, S_low}

-- the same as expressions
abbrev lowᴱ : E → List ℕ → E
lowᴱ D [] = # 1
lowᴱ D (d ∷ ds) = # d ⊗ D ⊗ lowᴱ D ds

abbrev upᴱ : E → E → List ℕ → E
upᴱ D Z [] = # 1
upᴱ D Z (d ∷ ds) = # d ⊗ D ⊗ lowᴱ D ds ⊖ Z ⊗ upᴱ D Z ds

abbrev powerᴱ : E → ℕ → E
powerᴱ x zero = # 1
powerᴱ x (suc m) = x ⊗ powerᴱ x m

abbrev sumᴱ : ℕ → (ℕ → E) → E
sumᴱ zero t = t 0
sumᴱ (suc m) t = sumᴱ m t ⊕ t (suc m)

abbrev alternateᴱ : ℕ → E → E
alternateᴱ zero x = x
alternateᴱ (suc m) x = ⊝ (alternateᴱ m x)

pub C_low_is : (N : ℤ) → C_low N ≡ pos (factorial 20) *ℤ power N 20
unfolding C_low low power factorial
C_low_is N = ring (N ∷ []) (lowᴱ (v 0 ⊗ v 0) all_evens) (# (factorial 20) ⊗ powerᴱ (v 0) 20) tt

pub C_up_is : (n N : ℤ) → C_up n N ≡ (even_series n N).upper
unfolding C_up low up even_series power factorial sum alternate
C_up_is n N =
    ring (n ∷ N ∷ []) (upᴱ (v 1 ⊗ v 1) (v 0 ⊗ v 0) all_evens)
    (sumᴱ 10 (λ m. alternateᴱ m (# (factorial 20 / factorial (2 * m)) ⊗ powerᴱ (v 0) (2 * m) ⊗ powerᴱ (v 1) (20 - 2 * m)))) tt

pub S_low_is : (N : ℤ) → S_low N ≡ pos (factorial 21) *ℤ power N 21
unfolding S_low low power factorial
S_low_is N = ring (N ∷ []) (v 0 ⊗ lowᴱ (v 0 ⊗ v 0) all_odds) (# (factorial 21) ⊗ powerᴱ (v 0) 21) tt

pub S_up_is : (n N : ℤ) → S_up n N ≡ (odd_series n N).upper
unfolding S_up low up odd_series power factorial sum alternate
S_up_is n N =
    ring (n ∷ N ∷ []) (v 0 ⊗ upᴱ (v 1 ⊗ v 1) (v 0 ⊗ v 0) all_odds)
    (sumᴱ 10 (λ m. alternateᴱ m (# (factorial 21 / factorial (2 * m + 1)) ⊗ powerᴱ (v 0) (2 * m + 1) ⊗ powerᴱ (v 1) (21 - (2 * m + 1))))) tt
