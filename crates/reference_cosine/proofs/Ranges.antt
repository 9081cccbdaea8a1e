-- The reference cosine and sine lie from −1 to 1, the working ones from −U to U, and the working even part is at least 0.69·U. Assumes nothing.
use mathlib.Core.Path.{subst}
use mathlib.Core.List.{[], ◌∷◌}
use Prim.Native.Nat.{ℕ, zero, suc, ◌*◌, ◌≤◌, ◌<◌}
use native.Mathlib.Omega.{arith}
use lib.IntN.{ℤ, pos, nat_abs, ◌+ℤ◌, ◌*ℤ◌, neg_ℤ}
use Rattle.integers.specs.Order.{◌≼◌, ◌≺◌}
use Rattle.integers.proofs.Auto.{cert!, polys, gap, ◌⊞◌, ◌⊛◌, ◌·◌}
use Rattle.integers.proofs.Order.{≺-≼, ≺-nat}
use Rattle.integers.specs.Division.{rounded, modulo}
use Rattle.integers.specs.Fractions.{Fraction}
use Rattle.units.specs.Units.{U}
use Rattle.cosine.specs.Cosine.{cosine_by, horner, y_of, even_part, odd_part, evens, odds, q_of, working_cosine, working_sine, cosine, sine}
use Rattle.reference_cosine.specs.Reference.{ref_q, ref_r, reference_cosine, reference_sine}
use Rattle.reference_cosine.proofs.Divisors.{low_by_quarter, all_evens, all_odds}
use Rattle.reference_cosine.proofs.NestedSeries.{low, up, range'}
use Rattle.integers.proofs.Order.{product_pos, nat_abs_le}
use Rattle.reference_cosine.proofs.Lipschitz.{Angle, angle_small, C_up, C_low, S_up, S_low, f_up, f_low, good_evens, good_odds}
use Rattle.reference_cosine.proofs.WorkingSeries.{rounded_most, rounded_least, horner_range, y_range, working}
use Rattle.reference_cosine.proofs.Reductions.{R'_angle}
use Rattle.reference_cosine.proofs.AnyAngle.{Turn, ref_most, ref_least, w_angle}
use Rattle.reference_cosine.proofs.WithinReference.{the_turn}
use Rattle.reference_cosine.proofs.QuarterShift.{reference_is, reference_sine_is, cosine_is, sine_is}

-- the fraction lies from −1 to 1
pub record UnitFraction (z : Fraction) : Type 0 where
  pub positive : pos 0 ≺ z.lower
  pub most : z.upper ≼ z.lower
  pub least : neg_ℤ z.lower ≼ z.upper

even_fraction : {n N : ℤ} → Angle n N → UnitFraction (record { upper = C_up n N; lower = C_low N })
unfolding C_up C_low
even_fraction {n} {N} a =
    let r = range' all_evens good_evens (angle_small a) in
    record {
      positive = r.above;
      most = r.most;
      least = cert! (up (N *ℤ N) (n *ℤ n) all_evens ∷ low (N *ℤ N) all_evens ∷ []) 0 (r.least ⊞ ≺-≼ r.above) (search polys depth 60 fits 100000) tt;
    }

odd_fraction : {n N : ℤ} → Angle n N → UnitFraction (record { upper = S_up n N; lower = S_low N })
unfolding S_up S_low
odd_fraction {n} {N} a =
    let r = range' all_odds good_odds (angle_small a) in
    let u = up (N *ℤ N) (n *ℤ n) all_odds in
    let l = low (N *ℤ N) all_odds in
    let ρ = n ∷ N ∷ u ∷ l ∷ [] in
    record {
      positive = product_pos N l a.positive r.above;
      most = cert! ρ 4999 (gap a.most ⊛ r.least ⊞ 1073 · (≺-≼ a.positive ⊛ r.least) ⊞ 5000 · (≺-≼ a.positive ⊛ gap r.most))
          (search polys depth 60 fits 100000) tt;
      least = cert! ρ 4999 (gap a.least ⊛ r.least ⊞ 1073 · (≺-≼ a.positive ⊛ r.least) ⊞ 5000 · (≺-≼ a.positive ⊛ gap r.most))
          (search polys depth 60 fits 100000) tt;
    }

turn_sign : {u l : ℤ} → UnitFraction (record { upper = u; lower = l }) → UnitFraction (record { upper = neg_ℤ u; lower = l })
turn_sign {u} {l} h = record {
  positive = h.positive;
  most = cert! (u ∷ l ∷ []) 0 (gap h.least) (search polys depth 60 fits 100000) tt;
  least = cert! (u ∷ l ∷ []) 0 (gap h.most) (search polys depth 60 fits 100000) tt;
}

f_unit : (k : ℕ) {n N : ℤ} → Angle n N → UnitFraction (record { upper = f_up k n N; lower = f_low k N })
unfolding f_up f_low cosine_by low_by_quarter
f_unit zero a = even_fraction a
f_unit (suc zero) a = turn_sign (odd_fraction a)
f_unit (suc (suc zero)) a = turn_sign (even_fraction a)
f_unit (suc (suc (suc k))) a = odd_fraction a

pub cosine_unit : (n : ℤ) (N : ℕ) → 0 < N → UnitFraction (reference_cosine n N)
cosine_unit n N h = subst (λ z. UnitFraction z) (reference_is n N)
    (f_unit (modulo (ref_q n N +ℤ pos 0) 4) (R'_angle (pos N) (ref_r n N) (≺-nat N h) (ref_most n N h) (ref_least n N h)))

pub sine_unit : (n : ℤ) (N : ℕ) → 0 < N → UnitFraction (reference_sine n N)
sine_unit n N h = subst (λ z. UnitFraction z) (reference_sine_is n N)
    (f_unit (modulo (ref_q n N +ℤ pos 3) 4) (R'_angle (pos N) (ref_r n N) (≺-nat N h) (ref_most n N h) (ref_least n N h)))

-- ---- the working ones
pub record InU (x : ℤ) : Type 0 where
  pub most : x ≼ pos U
  pub least : neg_ℤ (pos U) ≼ x

even_in : {w : ℤ} → Angle w (pos U) → InU (even_part w)
unfolding even_part
even_in {w} a =
    let r = horner_range (y_of w) evens (omega arith) (y_range w a) in
    record { most = r.most; least = cert! (horner (y_of w) evens ∷ []) 0 r.least (search polys depth 60 fits 100000) tt }

odd_in : {w : ℤ} → Angle w (pos U) → InU (odd_part w)
unfolding odd_part
odd_in {w} a =
    let h = horner (y_of w) odds in
    let r = horner_range (y_of w) odds (omega arith) (y_range w a) in
    record {
      most = rounded_most (w *ℤ h) (pos U) U (omega arith)
          (cert! (w ∷ h ∷ []) 4999 (gap a.most ⊛ r.least ⊞ 3927000000000 · gap r.most) (search polys depth 60 fits 100000) tt);
      least = rounded_least (w *ℤ h) (neg_ℤ (pos U)) U (omega arith)
          (cert! (w ∷ h ∷ []) 4999 (gap a.least ⊛ r.least ⊞ 3927000000000 · gap r.most) (search polys depth 60 fits 100000) tt);
    }

neg_in : {x : ℤ} → InU x → InU (neg_ℤ x)
neg_in {x} h = record {
  most = cert! (x ∷ []) 0 (gap h.least) (search polys depth 60 fits 100000) tt;
  least = cert! (x ∷ []) 0 (gap h.most) (search polys depth 60 fits 100000) tt;
}

working_in : (k : ℕ) {w : ℤ} → Angle w (pos U) → InU (working k w)
unfolding working cosine_by
working_in zero a = even_in a
working_in (suc zero) a = neg_in (odd_in a)
working_in (suc (suc zero)) a = neg_in (even_in a)
working_in (suc (suc (suc k))) a = odd_in a

cosine_in : {Q step G : ℕ} → Turn Q step G → (X : ℤ) → InU (working_cosine Q step X)
cosine_in {Q} {step} t X = subst (λ x. InU x) (cosine_is Q step X) (working_in (modulo (q_of Q X +ℤ pos 0) 4) (w_angle t X))

sine_in : {Q step G : ℕ} → Turn Q step G → (X : ℤ) → InU (working_sine Q step X)
sine_in {Q} {step} t X = subst (λ x. InU x) (sine_is Q step X) (working_in (modulo (q_of Q X +ℤ pos 3) 4) (w_angle t X))

-- the even part is at least 0.69·U
pub even_large : {w : ℤ} → Angle w (pos U) → pos 690000000 ≼ even_part w
unfolding even_part horner y_of
even_large {w} a =
    let y = rounded (w *ℤ w) U in
    let p = horner y (3 * 4 ∷ 5 * 6 ∷ 7 * 8 ∷ 9 * 10 ∷ 11 * 12 ∷ []) in
    let r = horner_range y (3 * 4 ∷ 5 * 6 ∷ 7 * 8 ∷ 9 * 10 ∷ 11 * 12 ∷ []) (omega arith) (y_range w a) in
    let s = y_range w a in
    let few : y ≼ pos 617000000 = rounded_most (w *ℤ w) (pos 617000000) U (omega arith)
    (cert! (w ∷ []) 999 (gap (angle_small a).small) (search polys depth 60 fits 100000) tt) in
    let b : rounded (y *ℤ p) (U * (1 * 2)) ≼ pos 308500000 =
    rounded_most (y *ℤ p) (pos 308500000) (U * (1 * 2)) (omega arith)
    (cert! (y ∷ p ∷ []) 0 (s.least ⊛ gap r.most ⊞ 1000000000 · gap few) (search polys depth 60 fits 100000) tt) in
    cert! (rounded (y *ℤ p) (U * (1 * 2)) ∷ []) 0 (gap b) (search polys depth 60 fits 100000) tt

-- At the turn of the rules.
pub cosine_range : (x : ℤ) → InU (cosine x)
unfolding cosine
cosine_range x = cosine_in the_turn x

pub sine_range : (x : ℤ) → InU (sine x)
unfolding sine
sine_range x = sine_in the_turn x

pub cosine_size : (x : ℤ) → nat_abs (cosine x) ≤ U
cosine_size x = nat_abs_le (cosine x) U (cosine_range x).least (cosine_range x).most

pub sine_size : (x : ℤ) → nat_abs (sine x) ≤ U
sine_size x = nat_abs_le (sine x) U (sine_range x).least (sine_range x).most
