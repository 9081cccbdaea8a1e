-- From the error of the running sum to a distance in parts, for each coordinate of a series that may be asked at t. Assumes nothing.
use mathlib.Core.List.{List, [], ◌∷◌}
use Prim.Native.Nat.{ℕ, ◌+◌, ◌*◌, ◌≤◌, ◌<◌}
use native.Mathlib.Nat.{pow-zero}
use native.Mathlib.Omega.{arith}
use lib.Dec.{le→leb}
use lib.IntN.{ℤ, pos}
use lib.ListN.{length, take, drop, length-take}
use Rattle.integers.specs.Order.{◌≼◌}
use Rattle.integers.specs.Fractions.{Fraction, ◌+ᶠ◌, negᶠ, wholeᶠ, powerᶠ, Apart}
use Rattle.integers.proofs.Auto.{polys, cert!, gap, ◌⊞◌, ◌⊛◌}
use Rattle.integers.proofs.Order.{≺-≼}
use Rattle.units.specs.Units.{U, powers, coarse_share, coarse_limit}
use Rattle.limits.specs.declared.Term.{Term}
use Rattle.limits.specs.Allowed.{coarseness_by, coordinate}
use Rattle.series.specs.Sums.{running_sum}
use Rattle.series.specs.Exact.{exact_sum, millionth}
use Rattle.series.proofs.Close.{Close}
use Rattle.series.proofs.Ladder.{ladder, ladder_most}
use Rattle.series.proofs.Accepted.{BlocksIn, in_take, in_drop}
use Rattle.series.proofs.Reach.{InReach}
use Rattle.series.proofs.Accuracy.{roundings, error, sum_close}

-- six blocks have five roundings: 1 + m + m^2 + m^3 + m^4
five_roundings : (m : ℕ) (bs : List (List Term)) → roundings m 0 (take powers bs) ≤ ladder m 5
unfolding roundings
five_roundings m [] = omega arith
five_roundings m (b ∷ bs) =
    let n : length (take 5 bs) ≤ 5 = simp length-take (omega arith) in
    let l = ladder_most m (length (take 5 bs)) 5 n in
    rw (pow-zero m) (omega arith)

-- 2U·|x − f| ≤ m with m at most 2·10^14 puts x within 10^5 of f
within : (m : ℕ) (x : ℤ) (f : Fraction) → m ≤ coarse_limit → Close (pos U) (pos m) (pos 1) (pos 1) x f → Apart millionth (wholeᶠ x) f
unfolding ◌+ᶠ◌ negᶠ
within m x f h c =
    let l : pos m ≼ pos coarse_limit = record { le = le→leb m coarse_limit h } in
    record {
      lower_e = record { lt = tt };
      lower_f = record { lt = tt };
      lower_g = c.lower;
      most = cert! (pos m ∷ x ∷ f.upper ∷ f.lower ∷ []) 1999999999 (gap c.bound.high ⊞ gap l ⊛ ≺-≼ c.lower) (search polys depth 60 fits 100000) tt;
      least = cert! (pos m ∷ x ∷ f.upper ∷ f.lower ∷ []) 1999999999 (gap c.bound.low ⊞ gap l ⊛ ≺-≼ c.lower) (search polys depth 60 fits 100000) tt;
    }

-- at power 0 the error is that of the sum itself
whole_close : (t : ℤ) (bs : List (List Term)) (r : InReach t bs) (from : List (List Term)) → BlocksIn from
    → Close (pos U) (pos (error r.most_tau 0 from)) (pos 1) (pos 1) (running_sum t from) (exact_sum t 0 from)
unfolding powerᶠ
whole_close t bs r from h = sum_close r.most_tau t r.in_limit r.in_time 0 from h

pub distance : (t : ℤ) (bs : List (List Term)) → InReach t bs → (q : ℕ) → q < 3
    → Apart millionth (wholeᶠ (running_sum t (coordinate q bs))) (exact_sum t 0 (coordinate q bs))
distance t bs r q l =
    let m = r.most_tau in
    let from = drop (powers * q) bs in
    within (error m 0 (coordinate q bs)) (running_sum t (coordinate q bs)) (exact_sum t 0 (coordinate q bs))
    (small (coarseness_by m coarse_share 0 (coordinate q bs)) (roundings m 0 (coordinate q bs)) (ladder m 5) (r.coarse q l) (five_roundings m from))
    (whole_close t bs r (coordinate q bs) (in_take powers from (in_drop (powers * q) bs r.inside)))
  where
    small : (c r n : ℕ) → c + U * n ≤ coarse_limit → r ≤ n → c + U * r ≤ coarse_limit
    small c r n h k = omega arith
