-- What the cosine and the sine give for places: of each angle one of the two is at least 0.69 in size, and those of working coordinates
-- are near the reference's of exact ones. Assumes nothing.
use mathlib.Core.Logic.{inl, inr}
use mathlib.Core.List.{[], ◌∷◌}
use Prim.Native.Nat.{ℕ, zero, suc, ◌*◌, ◌≤◌, ◌<◌}
use native.Mathlib.Omega.{arith}
use lib.Dec.{leb→le}
use lib.IntN.{ℤ, pos, negsuc, neg_ℤ, nat_abs, ◌-ℤ◌, ◌*ℤ◌}
use Rattle.integers.specs.Order.{◌≺◌}
use Rattle.integers.specs.Division.{modulo}
use Rattle.integers.specs.Fractions.{Fraction, wholeᶠ, Apart}
use Rattle.integers.proofs.Auto.{polys, cert!, gap, ◌·◌}
use Rattle.integers.proofs.Bounds.{Bd}
use Rattle.units.specs.Units.{U, parts, quarter, angle_step, angle_per_part}
use Rattle.cosine.specs.Cosine.{q_of, w_of, even_part, odd_part, cosine_by, sine_by, working_cosine, working_sine, cosine, sine}
use Rattle.reference_cosine.specs.Reference.{Within}
use Rattle.reference_cosine.proofs.Lipschitz.{Angle}
use Rattle.reference_cosine.proofs.AnyAngle.{w_angle}
use Rattle.reference_cosine.proofs.WithinReference.{the_turn}
use Rattle.reference_cosine.proofs.Ranges.{UnitFraction, InU, cosine_unit, sine_unit, cosine_range, sine_range, even_large}
use Rattle.reference_cosine.proofs.Longitude.{NearLongitude, Q1_cosine, Q1_sine}
use Rattle.separation.specs.Exact.{cosᶠ, sinᶠ}
use Rattle.separation.specs.Machine.Near.{tolerance, angle_limit}
use Rattle.separation.proofs.Places.{Far, OneFar}
use Rattle.separation.proofs.Whole.{Near}
use Rattle.separation.proofs.Apart.{apart_bd}

-- ---- One of the two is large.

far_even : (w : ℤ) → Angle w (pos U) → Far (pos 1) (pos 690000000) (even_part w)
far_even w a = inl (cert! (even_part w ∷ []) 0 (gap (even_large a)) (search polys depth 60 fits 100000) tt)

far_minus : (w : ℤ) → Angle w (pos U) → Far (pos 1) (pos 690000000) (neg_ℤ (even_part w))
far_minus w a = inr (cert! (even_part w ∷ []) 0 (gap (even_large a)) (search polys depth 60 fits 100000) tt)

far_by : (k : ℕ) (w : ℤ) → Angle w (pos U) → OneFar (cosine_by neg_ℤ k (even_part w) (odd_part w)) (sine_by neg_ℤ k (even_part w) (odd_part w))
unfolding cosine_by sine_by
far_by zero w a = inl (far_even w a)
far_by (suc zero) w a = inr (far_even w a)
far_by (suc (suc zero)) w a = inl (far_minus w a)
far_by (suc (suc (suc k))) w a = inr (far_minus w a)

pub one_far : (x : ℤ) → OneFar (cosine x) (sine x)
unfolding cosine sine working_cosine working_sine
one_far x = far_by (modulo (q_of quarter x) 4) (w_of quarter angle_step x) (w_angle the_turn x)

-- ---- A working coordinate x and the exact one f.

natural : (x n : ℤ) (d : ℕ) → 0 < d → nat_abs x ≤ angle_limit → Bd (pos tolerance *ℤ pos d) (pos d *ℤ x -ℤ n) → NearLongitude x n (parts * d)
natural x n d hd hx b = record {
  N_pos = omega arith;
  limit = hx;
  most = cert! (x ∷ n ∷ pos d ∷ []) 0 (100000000000 · gap b.high) (search polys depth 60 fits 100000) tt;
  least = cert! (x ∷ n ∷ pos d ∷ []) 0 (100000000000 · gap b.low) (search polys depth 60 fits 100000) tt;
}

longitude : (x n l : ℤ) → pos 0 ≺ l → nat_abs x ≤ angle_limit → Bd (pos tolerance *ℤ l) (l *ℤ x -ℤ n) → NearLongitude x n (parts * nat_abs l)
longitude x n (pos d) h hx b = natural x n d (leb→le 1 d h.lt) hx b
longitude x n (negsuc d) h hx b = absurd h.lt

near_of : (x : ℤ) (f : Fraction) → InU x → UnitFraction f → Within 2460 x f → Near x f
near_of x f i u w = record {
  low_pos = u.positive;
  working = record { low = i.least; high = i.most };
  size = record { low = u.least; high = u.most };
  near = record { low = w.least; high = w.most };
}

module _ (x : ℤ) (f : Fraction) (hx : nat_abs x ≤ angle_limit) (h : Apart (wholeᶠ (pos tolerance)) (wholeᶠ x) f) where
  angle : NearLongitude x f.upper (parts * nat_abs f.lower)
  angle = longitude x f.upper f.lower h.lower_g hx (apart_bd (pos tolerance) x f h)

  pub cosine_near : Near (cosine (pos angle_per_part *ℤ x)) (cosᶠ f)
  unfolding cosᶠ
  cosine_near = near_of _ _ (cosine_range _) (cosine_unit _ _ angle.N_pos) (Q1_cosine x f.upper (parts * nat_abs f.lower) angle)

  pub sine_near : Near (sine (pos angle_per_part *ℤ x)) (sinᶠ f)
  unfolding sinᶠ
  sine_near = near_of _ _ (sine_range _) (sine_unit _ _ angle.N_pos) (Q1_sine x f.upper (parts * nat_abs f.lower) angle)
