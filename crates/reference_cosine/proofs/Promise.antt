-- P1: an allowed term has its working cosine within 3/U of the reference, and equal to it if the term is constant. Assumes nothing.
use mathlib.Core.Path.{◌≡◌, sym, ap, subst, subst₂}
use mathlib.Core.List.{[], ◌∷◌}
use Prim.Native.Nat.{ℕ, ◌*◌, ◌+◌, ◌/◌}
use native.Mathlib.Omega.{arith}
use lib.IntN.{ℤ, pos, ◌+ℤ◌, ◌*ℤ◌, neg_ℤ, zero-*ℤ}
use Rattle.integers.specs.Order.{◌≼◌}
use Rattle.integers.proofs.Pairs.{nonneg}
use Rattle.integers.proofs.Auto.{cert!, polys, gap, gap<, ◌⊞◌, ◌·◌}
use Rattle.integers.proofs.Order.{nat_abs_low, nat_abs_high}
use Rattle.integers.proofs.Bounds.{Bd, bd-*}
use Rattle.integers.specs.Division.{rounded, modulo, floor}
use Rattle.integers.proofs.Division.{rounded_low, rounded_high}
use Rattle.integers.specs.Fractions.{Fraction, negᶠ}
use Rattle.units.specs.Units.{parts, millennium as T, tau_limit, t_limit, turn as P, quarter, angle_step, angle_per_part, b_limit, c_limit, four_radians as F}
use Rattle.cosine.specs.Cosine.{horner, y_of, cosine_by, even_part, odd_part, q_of, r_of, w_of, working_cosine, cosine}
use Rattle.reference_cosine.specs.Reference.{power, factorial, sum, alternate, ref_q, ref_r, even_series, odd_series, reference_cosine, Within}
use Rattle.cosine.specs.Terms.{term_angle, term_cosine}
use Rattle.reference_cosine.specs.Terms.{Allowed, term_reference, Promised}
use Rattle.reference_cosine.proofs.WorkingSeries.{rounded_most, rounded_least}
use Rattle.reference_cosine.proofs.AnyAngle.{CloseAngles}
use Rattle.cosine.proofs.WholeTurns.{cosine_mod}
use Rattle.reference_cosine.proofs.WithinReference.{within_any, the_turn, G}

-- |ct| is at most its limits' product, so that the drift is at most `drift_limit`: angle_per_part·c_limit·t_limit/T
product : {b : ℕ} {c t : ℤ} → Allowed b c t → Bd (pos c_limit *ℤ pos t_limit) (c *ℤ t)
product {b} {c} {t} h =
    bd-* (pos c_limit) (pos t_limit) c t
    (record { low = nat_abs_low c c_limit (omega (arith, h.c_in)); high = nat_abs_high c c_limit (omega (arith, h.c_in)) })
    (record { low = nat_abs_low t t_limit h.t_in; high = nat_abs_high t t_limit h.t_in })

abbrev drift_limit : ℕ
drift_limit = angle_per_part * c_limit * tau_limit

-- no quarter of a term is greater: the drift and b_limit, in quarters, rounded up
abbrev quarter_limit : ℕ
quarter_limit = (angle_per_part * b_limit + drift_limit) / quarter + 1

drift_most : {b : ℕ} {c t : ℤ} → Allowed b c t → rounded (pos angle_per_part *ℤ c *ℤ t) T ≼ pos drift_limit
drift_most {b} {c} {t} h =
    rounded_most (pos angle_per_part *ℤ c *ℤ t) (pos drift_limit) T (omega arith)
    (cert! (c ∷ t ∷ []) 0 (angle_per_part · gap (product h).high) (search polys depth 60 fits 100000) tt)

drift_least : {b : ℕ} {c t : ℤ} → Allowed b c t → neg_ℤ (pos drift_limit) ≼ rounded (pos angle_per_part *ℤ c *ℤ t) T
drift_least {b} {c} {t} h =
    rounded_least (pos angle_per_part *ℤ c *ℤ t) (neg_ℤ (pos drift_limit)) T (omega arith)
    (cert! (c ∷ t ∷ []) 0 (angle_per_part · gap (product h).low) (search polys depth 60 fits 100000) tt)

-- the angle before it is reduced
abbrev angle : ℕ → ℤ → ℤ → ℤ
angle b c t = pos (angle_per_part * b) +ℤ rounded (pos angle_per_part *ℤ c *ℤ t) T

angles : {b : ℕ} {c t : ℤ} → Allowed b c t
    → CloseAngles quarter angle_step G (angle b c t) (pos b *ℤ pos T +ℤ c *ℤ t) (parts * T) (pos quarter_limit) (pos F *ℤ pos (parts * T))
unfolding q_of
angles {b} {c} {t} h =
    let d = rounded (pos angle_per_part *ℤ c *ℤ t) T in
    let ρ = pos b ∷ c ∷ t ∷ d ∷ [] in
    let few : pos b ≼ pos b_limit = nat_abs_high (pos b) b_limit (omega (arith, h.b_in)) in
    record {
      N_pos = omega arith;
      m_pos = record { le = tt };
      e_pos = record { le = tt };
      q_most = rounded_most (angle b c t) (pos quarter_limit) quarter (omega arith)
          (cert! ρ 0 (angle_per_part · gap few ⊞ gap (drift_most h)) (search polys depth 60 fits 100000) tt);
      q_least = rounded_least (angle b c t) (neg_ℤ (pos quarter_limit)) quarter (omega arith)
          (cert! ρ 0 (angle_per_part · nonneg b ⊞ gap (drift_least h)) (search polys depth 60 fits 100000) tt);
      e_most = cert! ρ 0 ((F * parts) · gap (rounded_low (pos angle_per_part *ℤ c *ℤ t) T (omega arith)))
          (search polys depth 60 fits 100000) tt;
      e_least = cert! ρ 0 ((F * parts) · gap< (rounded_high (pos angle_per_part *ℤ c *ℤ t) T (omega arith)))
          (search polys depth 60 fits 100000) tt;
      near_enough = record { lt = tt };
    }

at_turns : {k : ℕ} {z : Fraction} (x : ℤ) → Within k (cosine x) z → Within k (cosine (pos (modulo x P))) z
at_turns {k} {z} x h = subst (λ y. Within k y z) (sym (cosine_mod x)) h

-- P1: the working and the reference cosine of every allowed term differ by at most 3/U
pub P1 : (b : ℕ) (c t : ℤ) → Allowed b c t → Promised b c t
unfolding term_cosine term_angle term_reference cosine
P1 b c t h =
    at_turns (angle b c t)
    (within_any the_turn (angle b c t) (pos b *ℤ pos T +ℤ c *ℤ t) (parts * T) (pos quarter_limit) (pos F *ℤ pos (parts * T)) (angles h)
    _ (record { le = tt }))

-- ---- a constant term
zero_angle : (t : ℤ) → term_angle 0 (pos 0) t ≡ 0
unfolding term_angle rounded floor modulo
zero_angle t = ap (λ z. modulo (pos 0 +ℤ rounded z T) P) (zero-*ℤ t)

zero_reference : (t : ℤ) → term_reference 0 (pos 0) t ≡ reference_cosine (pos 0) (parts * T)
unfolding term_reference
zero_reference t = ap (λ z. reference_cosine (pos 0 +ℤ z) (parts * T)) (zero-*ℤ t)

at_zero : Within 0 (cosine (pos 0)) (reference_cosine (pos 0) (parts * T))
unfolding cosine working_cosine reference_cosine even_series odd_series power factorial sum alternate cosine_by negᶠ q_of r_of w_of ref_q ref_r rounded
    floor modulo even_part odd_part horner y_of
at_zero = record { positive = record { lt = tt }; most = record { le = tt }; least = record { le = tt } }

pub P1_constant : (t : ℤ) → Within 0 (term_cosine 0 (pos 0) t) (term_reference 0 (pos 0) t)
unfolding term_cosine
P1_constant t = subst₂ (λ x z. Within 0 (cosine (pos x)) z) (sym (zero_angle t)) (sym (zero_reference t)) at_zero
