-- How large the running sum can be where |tau| is at most m; with it every step stays within 64 bits. Assumes nothing.
use mathlib.Core.Path.{◌≡◌}
use mathlib.Core.Bool.{true}
use mathlib.Core.List.{List, [], ◌∷◌}
use Prim.Native.Nat.{ℕ, ◌+◌, ◌*◌, ◌≤◌}
use native.Mathlib.Omega.{arith}
use native.Mathlib.Nat.{mul-le-mul_left}
use lib.IntN.{ℤ, pos, nat_abs, ◌*ℤ◌}
use lib.ListN.{length, take, drop, length-take, length-drop}
use Rattle.integers.specs.Division.{rounded}
use Rattle.integers.proofs.Auto.{polys, nat-ring! }
use Rattle.integers.proofs.Order.{nat_abs-*, nat_abs-+}
use Rattle.arith.proofs.Ranges.{rounded_within}
use Rattle.units.specs.Units.{millennium, t_limit, powers, wide_total}
use Rattle.units.specs.declared.Coordinates.{Coordinates}
use Rattle.limits.specs.declared.Term.{Term}
use Rattle.limits.specs.Allowed.{Allowed}
use Rattle.limits.specs.Wide.{reaches}
use Rattle.pieces.specs.Sums.{block_sum}
use Rattle.pieces.proofs.Sizes.{block_size}
use Rattle.series.specs.Sums.{running_sum, coordinates, longitude_blocks, latitude_blocks, radius_blocks}
use Rattle.series.proofs.Accuracy.{running_step, running_one}
use Rattle.series.proofs.Accepted.{TotalsIn, in_head, in_tail, in_take, in_drop}
use Rattle.series.proofs.Ladder.{ladder, ladder_next, ladder_most}
use Rattle.series.proofs.Reach.{InReach, in_reach}

-- what is carried from one power to the next is at most m times as large
pub carried_size : (m : ℕ) (v t : ℤ) → nat_abs t ≤ m * millennium → nat_abs (rounded (v *ℤ t) millennium) ≤ m * nat_abs v
carried_size m v t h =
    rounded_within (v *ℤ t) millennium (m * nat_abs v) (omega arith)
    (let e = nat_abs-* v t in
    let n = mul-le-mul_left (nat_abs v) h in
    let o : nat_abs v * (m * millennium) ≡ m * nat_abs v * millennium =
    nat-ring! (pos m ∷ pos (nat_abs v) ∷ pos millennium ∷ []) (search polys depth 60 fits 100000) tt in
    omega arith)

-- |V| is at most total·(1 + m + m^2 ..), a power for each block
pub running_size : (m total : ℕ) (t : ℤ) → nat_abs t ≤ m * millennium → (bs : List (List Term)) → TotalsIn total bs →
    nat_abs (running_sum t bs) ≤ total * ladder m (length bs)
running_size m total t ht [] h = unfold running_sum in omega arith
running_size m total t ht (b ∷ []) h = rw (running_one t b) (let l = in_head b [] h in let s = block_size t b in unfold ladder in omega arith)
running_size m total t ht (b ∷ c ∷ bs) h =
    let v = running_sum t (c ∷ bs) in
    let n = ladder m (length (c ∷ bs)) in
    let l = in_head b (c ∷ bs) h in
    let s = block_size t b in
    let r = carried_size m v t ht in
    let i = mul-le-mul_left m (running_size m total t ht (c ∷ bs) (in_tail b (c ∷ bs) h)) in
    let o : total * (1 + m * n) ≡ total + m * (total * n) =
    nat-ring! (pos m ∷ pos total ∷ pos n ∷ []) (search polys depth 60 fits 100000) tt in
    rw (running_step t b c bs, ladder_next m (length (c ∷ bs)))
    (omega (arith, nat_abs-+ (block_sum t b) (rounded (v *ℤ t) millennium)))

-- no more blocks than k
few_size : (m total k : ℕ) (t : ℤ) → nat_abs t ≤ m * millennium → (bs : List (List Term)) → TotalsIn total bs → length bs ≤ k →
    nat_abs (running_sum t bs) ≤ total * ladder m k
few_size m total k t ht bs h l =
    let s = running_size m total t ht bs h in
    let n = mul-le-mul_left total (ladder_most m (length bs) k l) in
    omega arith

-- ---- a series that may be asked at t

module _ (t : ℤ) (bs : List (List Term)) (r : InReach t bs) where
  -- the six blocks from any block on
  six_totals : (first : ℕ) → TotalsIn r.most_total (take powers (drop first bs))
  six_totals first = in_take powers (drop first bs) (in_drop first bs r.totals)

  pub five_size : (first k : ℕ) → 1 ≤ k → nat_abs (running_sum t (drop k (take powers (drop first bs)))) ≤ 341 * wide_total
  five_size first k l =
      let s = few_size r.most_tau r.most_total 5 t r.in_time (drop k (take powers (drop first bs)))
      (in_drop k (take powers (drop first bs)) (six_totals first)) (simp (length-drop, length-take) (omega arith)) in
      let n = r.five in
      omega arith

  six_size : (first : ℕ) → nat_abs (running_sum t (take powers (drop first bs))) ≤ 1365 * wide_total
  six_size first =
      let s = few_size r.most_tau r.most_total 6 t r.in_time (take powers (drop first bs)) (six_totals first)
      (simp length-take (omega arith)) in
      let n = r.six in
      omega arith

-- L, B and R are no more than 1365 totals of a series that is good for the wide range
pub record Small (c : Coordinates) : Type 0 where
  pub longitude : nat_abs c.longitude ≤ 1365 * wide_total
  pub latitude : nat_abs c.latitude ≤ 1365 * wide_total
  pub radius : nat_abs c.radius ≤ 1365 * wide_total

-- wherever they may be asked
pub coordinates_small : (t : ℤ) (bs : List (List Term)) → Allowed bs → nat_abs t ≤ t_limit → reaches bs t ≡ true → Small (coordinates t bs)
unfolding coordinates longitude_blocks latitude_blocks radius_blocks
coordinates_small t bs a h e =
    let r = in_reach t bs a h e in
    record { longitude = six_size t bs r 0; latitude = six_size t bs r powers; radius = six_size t bs r (2 * powers) }
