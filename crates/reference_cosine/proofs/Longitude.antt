-- The working cosine and sine of a longitude L in parts, against the reference's of an angle within 2·10^5 parts of it: at most 2460/U. Assumes nothing.
use mathlib.Core.List.{[], ◌∷◌}
use Prim.Native.Nat.{ℕ, ◌*◌, ◌+◌, ◌-◌, ◌/◌, ◌≤◌, ◌<◌}
use native.Mathlib.Omega.{arith}
use lib.IntN.{ℤ, pos, nat_abs, ◌+ℤ◌, ◌-ℤ◌, ◌*ℤ◌, neg_ℤ}
use Rattle.integers.specs.Order.{◌≼◌}
use Rattle.integers.proofs.Pairs.{nonneg}
use Rattle.integers.proofs.Auto.{cert!, cert<!, polys, gap, gap<, ◌⊛◌, ◌·◌}
use Rattle.integers.proofs.Order.{nat_abs_low, nat_abs_high, ≺-nat}
use Rattle.units.specs.Units.{U, parts, quarter, angle_step, angle_per_part, two_pi}
use Rattle.cosine.specs.Cosine.{q_of, cosine, sine}
use Rattle.reference_cosine.specs.Reference.{reference_cosine, reference_sine, Within}
use Rattle.reference_cosine.specs.Machine.Angles.{angle_limit}
use Rattle.reference_cosine.proofs.WorkingSeries.{rounded_most, rounded_least}
use Rattle.reference_cosine.proofs.Reductions.{Y, B}
use Rattle.reference_cosine.proofs.AnyAngle.{CloseAngles, all_errors}
use Rattle.reference_cosine.proofs.WithinReference.{within_any, within_any_sine, the_turn, G}

-- how far in parts a fraction may lie from L; and no quarter of a longitude is greater: the greatest |L|, in quarters, rounded up
abbrev pub away : ℕ
away = 200000

abbrev quarter_limit : ℕ
quarter_limit = angle_per_part * angle_limit / quarter + 1

-- L parts and the fraction n/N (in radians) differ by at most so many parts
pub record NearLongitude (L n : ℤ) (N : ℕ) : Type 0 where
  pub N_pos : 0 < N
  pub limit : nat_abs L ≤ angle_limit
  pub most : L *ℤ pos N -ℤ pos parts *ℤ n ≼ pos away *ℤ pos N
  pub least : neg_ℤ (pos away *ℤ pos N) ≼ L *ℤ pos N -ℤ pos parts *ℤ n

-- e and all that the turn adds to it, for N = 1; what all errors together leave of 2460/U
abbrev spread : ℕ
spread = angle_per_part * away * Y + (quarter_limit + 1) * G

abbrev room : ℕ
room = 1000 * 2460 * (Y * (angle_step * U)) * B - (1613 * (Y * (angle_step * U)) * B + 1220 * U * B * spread + 1000 * U * (Y * (angle_step * U)))

abbrev e_of : ℕ → ℤ
e_of N = pos (angle_per_part * away) *ℤ pos Y *ℤ pos N

angles : {L n : ℤ} {N : ℕ} → NearLongitude L n N → CloseAngles quarter angle_step G (pos angle_per_part *ℤ L) n N (pos quarter_limit) (e_of N)
unfolding q_of
angles {L} {n} {N} h =
    let ρ = L ∷ n ∷ pos N ∷ [] in
    let hi = nat_abs_high L angle_limit h.limit in
    let lo = nat_abs_low L angle_limit h.limit in
    record {
      N_pos = h.N_pos;
      m_pos = record { le = tt };
      e_pos = nonneg (angle_per_part * away * Y) ⊛ nonneg N;
      q_most = rounded_most (pos angle_per_part *ℤ L) (pos quarter_limit) quarter (omega arith)
          (cert! ρ 0 (angle_per_part · gap hi) (search polys depth 60 fits 100000) tt);
      q_least = rounded_least (pos angle_per_part *ℤ L) (neg_ℤ (pos quarter_limit)) quarter (omega arith)
          (cert! ρ 0 (angle_per_part · gap lo) (search polys depth 60 fits 100000) tt);
      e_most = cert! ρ 0 ((Y * angle_per_part) · gap h.most) (search polys depth 60 fits 100000) tt;
      e_least = cert! ρ 0 ((Y * angle_per_part) · gap h.least) (search polys depth 60 fits 100000) tt;
      near_enough = cert<! ρ 0 ((2 * two_pi * (angle_step * U) - spread) · gap< (≺-nat N h.N_pos)) (search polys depth 60 fits 100000) tt;
    }

errors : (N : ℤ) → pos 0 ≼ N → all_errors (pos angle_step *ℤ pos U) N (pos G) (pos (angle_per_part * away) *ℤ pos Y *ℤ N +ℤ pos quarter_limit *ℤ pos G *ℤ N)
    ≼ pos 1000 *ℤ pos 2460 *ℤ (pos Y *ℤ (pos angle_step *ℤ pos U) *ℤ N) *ℤ pos B
errors N h = cert! (N ∷ []) 0 (room · h) (search polys depth 60 fits 100000) tt

pub Q1_cosine : (L n : ℤ) (N : ℕ) → NearLongitude L n N → Within 2460 (cosine (pos angle_per_part *ℤ L)) (reference_cosine n N)
unfolding cosine
Q1_cosine L n N h = within_any the_turn (pos angle_per_part *ℤ L) n N (pos quarter_limit) (e_of N) (angles h) 2460 (errors (pos N) (nonneg N))

pub Q1_sine : (L n : ℤ) (N : ℕ) → NearLongitude L n N → Within 2460 (sine (pos angle_per_part *ℤ L)) (reference_sine n N)
unfolding sine
Q1_sine L n N h = within_any_sine the_turn (pos angle_per_part *ℤ L) n N (pos quarter_limit) (e_of N) (angles h) 2460 (errors (pos N) (nonneg N))
