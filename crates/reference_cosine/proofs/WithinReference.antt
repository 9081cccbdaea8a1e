-- How far the working cosine and sine of a whole angle are from the reference's of a fraction near it, for any turn. Assumes nothing.
use mathlib.Core.Path.{subst₂}
use mathlib.Core.List.{[], ◌∷◌}
use Prim.Native.Nat.{ℕ, ◌*◌, ◌+◌, ◌-◌}
use native.Mathlib.Omega.{arith}
use lib.IntN.{ℤ, pos, ◌+ℤ◌, ◌-ℤ◌, ◌*ℤ◌, neg_ℤ}
use Rattle.integers.specs.Order.{◌≼◌, ◌≺◌}
use Rattle.integers.proofs.Auto.{polys, gap, ◌⊞◌, ◌⊛◌, ◌·◌}
use Rattle.integers.proofs.Order.{≺-≼, cert*!, product_pos, ≺-nat}
use Rattle.integers.specs.Division.{modulo}
use Rattle.units.specs.Units.{U, quarter, angle_step, two_pi, four_radians as F}
use Rattle.cosine.specs.Cosine.{q_of, w_of, working_cosine, working_sine}
use Rattle.reference_cosine.specs.Reference.{ref_q, ref_r, reference_cosine, reference_sine, Within}
use Rattle.reference_cosine.proofs.Lipschitz.{f_up, f_low, f_low_pos}
use Rattle.reference_cosine.proofs.WorkingSeries.{working}
use Rattle.reference_cosine.proofs.Reductions.{Y, B}
use Rattle.reference_cosine.proofs.AnyAngle.{Turn, CloseAngles, all_errors, near_any}
use Rattle.reference_cosine.proofs.QuarterShift.{cosine_is, sine_is, reference_is, reference_sine_is}

within_law : (k g E x u l : ℤ) → pos 0 ≺ g → pos 0 ≺ l → E ≼ pos 1000 *ℤ k *ℤ g *ℤ pos B
    → pos 1000 *ℤ pos U *ℤ g *ℤ pos B *ℤ (x *ℤ l -ℤ u *ℤ pos U) ≼ E *ℤ (pos U *ℤ l) → x *ℤ l -ℤ pos U *ℤ u ≼ k *ℤ l
within_law k g E x u l hg hl h e =
    cert*! (k ∷ g ∷ E ∷ x ∷ u ∷ l ∷ []) (pos 100000000000000000000000000000000000 *ℤ g)
    (product_pos (pos 100000000000000000000000000000000000) g (record { lt = tt }) hg) (gap e ⊞ 1000000000 · (≺-≼ hl ⊛ gap h))
    (search polys depth 60 fits 100000) tt

within_law⁻ : (k g E x u l : ℤ) → pos 0 ≺ g → pos 0 ≺ l → E ≼ pos 1000 *ℤ k *ℤ g *ℤ pos B
    → pos 1000 *ℤ pos U *ℤ g *ℤ pos B *ℤ (u *ℤ pos U -ℤ x *ℤ l) ≼ E *ℤ (pos U *ℤ l) → neg_ℤ (k *ℤ l) ≼ x *ℤ l -ℤ pos U *ℤ u
within_law⁻ k g E x u l hg hl h e =
    cert*! (k ∷ g ∷ E ∷ x ∷ u ∷ l ∷ []) (pos 100000000000000000000000000000000000 *ℤ g)
    (product_pos (pos 100000000000000000000000000000000000) g (record { lt = tt }) hg) (gap e ⊞ 1000000000 · (≺-≼ hl ⊛ gap h))
    (search polys depth 60 fits 100000) tt

-- at the shift j of the quarters: 0 for the cosine, 3 for the sine
within_shift : {Q step G : ℕ} → Turn Q step G → (j X n : ℤ) (N : ℕ) (m e : ℤ) → CloseAngles Q step G X n N m e → (k : ℕ)
    → all_errors (pos step *ℤ pos U) (pos N) (pos G) (e +ℤ m *ℤ pos G *ℤ pos N) ≼ pos 1000 *ℤ pos k *ℤ (pos Y *ℤ (pos step *ℤ pos U) *ℤ pos N) *ℤ pos B
    → Within k (working (modulo (q_of Q X +ℤ j) 4) (w_of Q step X))
    (record { upper = f_up (modulo (ref_q n N +ℤ j) 4) (ref_r n N) (pos F *ℤ pos N); lower = f_low (modulo (ref_q n N +ℤ j) 4) (pos F *ℤ pos N) })
within_shift {Q} {step} {G} t j X n N m e c k h =
    let g = pos Y *ℤ (pos step *ℤ pos U) *ℤ pos N in
    let x = working (modulo (q_of Q X +ℤ j) 4) (w_of Q step X) in
    let k' = modulo (ref_q n N +ℤ j) 4 in
    let u = f_up k' (ref_r n N) (pos F *ℤ pos N) in
    let l = f_low k' (pos F *ℤ pos N) in
    let hN = ≺-nat N c.N_pos in
    let hg : pos 0 ≺ g = product_pos (pos Y *ℤ (pos step *ℤ pos U)) (pos N)
    (product_pos (pos Y) (pos step *ℤ pos U) (record { lt = tt }) (product_pos (pos step) (pos U) (≺-nat step t.step_pos) (record { lt = tt })))
    hN in
    let hl : pos 0 ≺ l = f_low_pos k' (pos F *ℤ pos N) (product_pos (pos F) (pos N) (record { lt = tt }) hN) in
    let E = all_errors (pos step *ℤ pos U) (pos N) (pos G) (e +ℤ m *ℤ pos G *ℤ pos N) in
    let a = near_any t j X n N m e c in
    record { positive = hl; most = within_law (pos k) g E x u l hg hl h a.hi; least = within_law⁻ (pos k) g E x u l hg hl h a.lo }

-- the working cosine of X and the reference cosine of n/N
pub within_any : {Q step G : ℕ} → Turn Q step G → (X n : ℤ) (N : ℕ) (m e : ℤ) → CloseAngles Q step G X n N m e → (k : ℕ)
    → all_errors (pos step *ℤ pos U) (pos N) (pos G) (e +ℤ m *ℤ pos G *ℤ pos N) ≼ pos 1000 *ℤ pos k *ℤ (pos Y *ℤ (pos step *ℤ pos U) *ℤ pos N) *ℤ pos B
    → Within k (working_cosine Q step X) (reference_cosine n N)
within_any {Q} {step} {G} t X n N m e c k h =
    subst₂ (λ x z. Within k x z) (cosine_is Q step X) (reference_is n N) (within_shift t (pos 0) X n N m e c k h)

-- and the sines
pub within_any_sine : {Q step G : ℕ} → Turn Q step G → (X n : ℤ) (N : ℕ) (m e : ℤ) → CloseAngles Q step G X n N m e → (k : ℕ)
    → all_errors (pos step *ℤ pos U) (pos N) (pos G) (e +ℤ m *ℤ pos G *ℤ pos N) ≼ pos 1000 *ℤ pos k *ℤ (pos Y *ℤ (pos step *ℤ pos U) *ℤ pos N) *ℤ pos B
    → Within k (working_sine Q step X) (reference_sine n N)
within_any_sine {Q} {step} {G} t X n N m e c k h =
    subst₂ (λ x z. Within k x z) (sine_is Q step X) (reference_sine_is n N) (within_shift t (pos 3) X n N m e c k h)

-- ---- the turn of the rules. G is how far its quarter lies from the reference's, in 1/(Y angle_step U) radian.
abbrev pub G : ℕ
G = (quarter * Y - 2 * two_pi * angle_step * U) + (2 * two_pi * angle_step * U - quarter * Y)

pub the_turn : Turn quarter angle_step G
the_turn = record { Q_pos = omega arith; step_pos = omega arith; eighth = record { le = tt }; gap_most = record { le = tt }; gap_least = record { le = tt } }
