-- The table: one test over k from 60 to 2,702, computed, and the row at each k that it gives. Assumes nothing.
use mathlib.Core.Path.{◌≡◌, subst}
use mathlib.Core.Bool.{Bool, ◌&&◌}
use Prim.Native.Nat.{ℕ, ◌+◌, ◌*◌, ◌-◌, ◌^◌, ◌≤◌}
use native.Mathlib.Omega.{arith}
use native.Mathlib.Decide.{dec_le}
use lib.Dec.{T}
use lib.IntN.{ℤ, pos, ◌+ℤ◌, ◌-ℤ◌, ◌*ℤ◌}
use lib.Signed.{le_z, lt_z}
use Rattle.integers.specs.Division.{floor, rounded, modulo}
use Rattle.integers.specs.Fractions.{Fraction}
use Rattle.units.specs.Units.{U, turn, two_pi, four_radians}
use Rattle.cosine.specs.Cosine.{q_of, r_of, w_of, y_of, horner, even_part, odd_part, cosine_by, sine_by, working_sine, sine}
use Rattle.reference_cosine.specs.Reference.{ref_q, ref_r}
use Rattle.reference_cosine.proofs.Divisors.{low_by_quarter}
use Rattle.reference_cosine.proofs.NestedSeries.{low, up}
use Rattle.reference_cosine.proofs.Lipschitz.{C_up, C_low, S_up, S_low, f_up, f_low}
use Rattle.reference_cosine.proofs.QuarterShift.{nested, reference_is}
use Rattle.separation.specs.Arcminutes.{arcminutes, least_keep_out, greatest_keep_out}
use Rattle.separation.specs.Exact.{cosine_of_arcminutes}
use Rattle.separation.specs.Listed.{threshold}
use Rattle.separation.proofs.Row.{eps, Row}
use Rattle.integers.proofs.Tests.{and_left, and_right, all, all_at}

-- U times the sine of k arcminutes, and a 500th more: a witness, of which only the row's bound is used.
unfoldable pub witness : ℕ → ℤ
witness k = let j = sine (rounded (pos (k * turn)) arcminutes) in j +ℤ floor j 500

-- The reference cosine by its nested series, which is quicker to compute than the plain one.
unfoldable quick : ℕ → Fraction
quick k = let n = pos (k * two_pi) in let N = arcminutes * 10 ^ 30 in nested (modulo (ref_q n N +ℤ pos 0) 4) (ref_r n N) (pos four_radians *ℤ pos N)

quick_is : (k : ℕ) → quick k ≡ cosine_of_arcminutes k
unfolding quick cosine_of_arcminutes
quick_is k = reference_is (pos (k * two_pi)) (arcminutes * 10 ^ 30)

-- ---- One row: six comparisons.

unfoldable sines : Fraction → ℤ → Bool
sines c g =
    le_z (pos 1001 *ℤ pos (U * U) *ℤ (c.lower *ℤ c.lower -ℤ c.upper *ℤ c.upper) +ℤ pos 7000 *ℤ eps *ℤ eps *ℤ c.lower *ℤ c.lower)
    (pos 1000 *ℤ g *ℤ g *ℤ c.lower *ℤ c.lower)

unfoldable reached : Fraction → ℤ → ℤ → Bool
reached c g t =
    le_z (pos 2 *ℤ (c.lower -ℤ c.upper) *ℤ pos (2 * U * U + 8 * U) +ℤ (pos 7 *ℤ eps *ℤ g +ℤ pos 20 *ℤ eps *ℤ eps) *ℤ c.lower) (pos 2 *ℤ t *ℤ c.lower)

unfoldable cleared : Fraction → ℤ → ℤ → Bool
cleared c g t = le_z ((pos 2 *ℤ t +ℤ pos 7 *ℤ eps *ℤ g +ℤ pos 20 *ℤ eps *ℤ eps) *ℤ c.lower) (pos 2 *ℤ (c.lower -ℤ c.upper) *ℤ pos (2 * U * U - 8 * U))

unfoldable range : Fraction → ℤ → Bool
range c g = lt_z (pos 0) c.upper && (le_z (pos 0) g && le_z c.upper c.lower)

unfoldable limits : Fraction → ℤ → ℤ → ℤ → Bool
limits c g t t' = sines c g && (reached c g t && cleared c g t')

unfoldable row : Fraction → ℤ → ℤ → ℤ → Bool
row c g t t' = range c g && limits c g t t'

unfoldable row_at : ℕ → Bool
row_at k = row (quick k) (witness k) (threshold k) (threshold (k - 2))

row_of : (c : Fraction) (g t t' : ℤ) → T (row c g t t') → Row c g t t'
unfolding row range limits sines reached cleared
row_of c g t t' h =
    let r = and_left (range c g) (limits c g t t') h in
    let r' = and_right (lt_z (pos 0) c.upper) (le_z (pos 0) g && le_z c.upper c.lower) r in
    let l = and_right (range c g) (limits c g t t') h in
    let l' = and_right (sines c g) (reached c g t && cleared c g t') l in
    record {
      positive = record { lt = and_left (lt_z (pos 0) c.upper) (le_z (pos 0) g && le_z c.upper c.lower) r };
      some = record { le = and_left (le_z (pos 0) g) (le_z c.upper c.lower) r' };
      at_most = record { le = and_right (le_z (pos 0) g) (le_z c.upper c.lower) r' };
      sines = record { le = and_left (sines c g) (reached c g t && cleared c g t') l };
      reached = record { le = and_left (reached c g t) (cleared c g t') l' };
      cleared = record { le = and_right (reached c g t) (cleared c g t') l' };
    }

-- ---- The test itself, in three parts: one declaration may take only so many steps.

test₁ : T (all row_at 900 60)
unfolding floor rounded modulo q_of r_of w_of y_of horner even_part odd_part cosine_by sine_by working_sine sine ref_q ref_r low_by_quarter low up
    C_up C_low S_up S_low f_up f_low quick threshold witness sines reached cleared range limits row row_at
test₁ = tt

test₂ : T (all row_at 900 960)
unfolding floor rounded modulo q_of r_of w_of y_of horner even_part odd_part cosine_by sine_by working_sine sine ref_q ref_r low_by_quarter low up
    C_up C_low S_up S_low f_up f_low quick threshold witness sines reached cleared range limits row row_at
test₂ = tt

test₃ : T (all row_at 843 1860)
unfolding floor rounded modulo q_of r_of w_of y_of horner even_part odd_part cosine_by sine_by working_sine sine ref_q ref_r low_by_quarter low up
    C_up C_low S_up S_low f_up f_low quick threshold witness sines reached cleared range limits row row_at
test₃ = tt

passed : (k : ℕ) → least_keep_out ≤ k → k ≤ greatest_keep_out + 2 → T (row_at k)
passed k h l = go (dec_le 960 k) (dec_le 1860 k)
  where
    go : Dec (960 ≤ k) → Dec (1860 ≤ k) → T (row_at k)
    go a (yes g) = all_at row_at 843 1860 k test₃ g (omega arith)
    go (yes g) (no f) = all_at row_at 900 960 k test₂ g (omega arith)
    go (no e) (no f) = all_at row_at 900 60 k test₁ h (omega arith)

pub table : (k : ℕ) → least_keep_out ≤ k → k ≤ greatest_keep_out + 2 → Row (cosine_of_arcminutes k) (witness k) (threshold k) (threshold (k - 2))
unfolding row_at
table k h l =
    subst (λ (c : Fraction). Row c (witness k) (threshold k) (threshold (k - 2))) (quick_is k)
    (row_of (quick k) (witness k) (threshold k) (threshold (k - 2)) (passed k h l))
