-- Coarseness, judged block by block and for each coordinate: each follows from the other. The greatest |tau| and what a coordinate begins with are
-- parameters: the rule of acceptance has coarse_tau and coarse_base, the wide rule wide_tau and wide_base. Assumes nothing.
use mathlib.Core.Path.{◌≡◌}
use mathlib.Core.Bool.{Bool, true, false, cond}
use mathlib.Core.List.{List, [], ◌∷◌}
use Prim.Native.Nat.{ℕ, zero, suc, ◌+◌, ◌*◌, ◌-◌, ◌%◌, ◌^◌, ◌≤◌, ◌<◌}
use native.Mathlib.Omega.{arith}
use borrow.Author.Tests.{eq-eqb, ne_eqb}
use lib.Dec.{eqb}
use lib.ListN.{length, take, drop, drop_of_length-le}
use lib.Seq.{drop-drop}
use Rattle.units.specs.Units.{powers, block_count, coarse_share, coarse_limit}
use Rattle.limits.specs.declared.Term.{Term}
use Rattle.limits.specs.Allowed.{coarseness_by, coordinate}
use Rattle.limits.specs.Machine.Widened.{start}
use Rattle.limits.proofs.Terms.{burden}

start_new : (base k c : ℕ) → k % powers ≡ 0 → start base k c ≡ base
unfolding start
start_new base k c e = rw (eq-eqb (k % powers) 0 e)

start_old : (base k c p : ℕ) → k % powers ≡ suc p → start base k c ≡ c
unfolding start
start_old base k c p e = rw (ne_eqb (k % powers) 0 (λ (z : k % powers ≡ 0). omega (arith, z, e)))

pub start_within : (base k c : ℕ) → base ≤ coarse_limit → c ≤ coarse_limit → start base k c ≤ coarse_limit
unfolding start
start_within base k c b h = go (eqb (k % powers) 0)
  where
    go : (t : Bool) → cond t base c ≤ coarse_limit
    go true = b
    go false = h

module _ (tau base : ℕ) where
  -- Block by block.
  pub data Coarse : ℕ → ℕ → List (List Term) → Type 0 where
    no_blocks : {k c : ℕ} → Coarse k c []
    a_block : {k c : ℕ} {ts : List Term} {bs : List (List Term)}
        → start base k c + burden (tau ^ (k % powers)) ts ≤ coarse_limit → Coarse (k + 1) (start base k c + burden (tau ^ (k % powers)) ts) bs
        → Coarse k c (ts ∷ bs)

  -- The first block of some.
  first_block : (k p : ℕ) (ts : List Term) (bs : List (List Term))
      → k % powers ≡ p → coarseness_by tau coarse_share p (ts ∷ bs) ≡ burden (tau ^ (k % powers)) ts + coarseness_by tau coarse_share (suc p) bs
  unfolding coarseness_by burden
  first_block k p ts bs e = rw e

  -- Blocks of one coordinate, from the judgement block by block.
  coarse_part : (j p k c : ℕ) (bs : List (List Term))
      → Coarse k c bs → k % powers ≡ p → p + j ≤ powers → start base k c ≤ coarse_limit
      → start base k c + coarseness_by tau coarse_share p (take j bs) ≤ coarse_limit
  unfolding coarseness_by
  coarse_part zero p k c bs h e l b = omega arith
  coarse_part (suc j) p k c [] h e l b = omega arith
  coarse_part (suc zero) p k c (ts ∷ bs) (a_block w r) e l b = rw (first_block k p ts [] e) (omega arith)
  coarse_part (suc (suc j)) p k c (ts ∷ bs) (a_block w r) e l b =
      let n : (k + 1) % powers ≡ suc p = omega arith in
      let o = start_old base (k + 1) (start base k c + burden (tau ^ (k % powers)) ts) p n in
      let i = coarse_part (suc j) (suc p) (k + 1) (start base k c + burden (tau ^ (k % powers)) ts) bs r n (omega arith) (rw o w) in
      let m : start base k c + burden (tau ^ (k % powers)) ts + coarseness_by tau coarse_share (suc p) (take (suc j) bs) ≤ coarse_limit = rw o at i in
      rw (first_block k p ts (take (suc j) bs) e) (omega arith)

  record From (k : ℕ) (bs : List (List Term)) : Type 0 where
    sum : ℕ
    is : Coarse k sum bs

  coarse_drop : (j k c : ℕ) (bs : List (List Term)) → Coarse k c bs → From (k + j) (drop j bs)
  coarse_drop zero k c bs h = let e : k + 0 ≡ k = omega arith in rw e (record { sum = c; is = h })
  coarse_drop (suc j) k c [] h = record { sum = c; is = no_blocks }
  coarse_drop (suc j) k c (ts ∷ bs) (a_block w r) = let e : k + suc j ≡ k + 1 + j = omega arith in rw e (coarse_drop j (k + 1) _ bs r)

  pub coarse_coordinate : base ≤ coarse_limit → (c q : ℕ) (bs : List (List Term)) → Coarse 0 c bs
      → coarseness_by tau coarse_share 0 (coordinate q bs) + base ≤ coarse_limit
  coarse_coordinate low c q bs h =
      let d = coarse_drop (powers * q) 0 c bs h in
      let n : (0 + powers * q) % powers ≡ 0 = omega arith in
      let o = start_new base (0 + powers * q) d.sum n in
      let b : start base (0 + powers * q) d.sum ≤ coarse_limit = rw o (omega arith) in
      let i = coarse_part powers 0 (0 + powers * q) d.sum (drop (powers * q) bs) d.is n (omega arith) b in
      let m : base + coarseness_by tau coarse_share 0 (take powers (drop (powers * q) bs)) ≤ coarse_limit = rw o at i in
      omega arith

  -- And back: the blocks up to the end of a coordinate, if those after it are judged so from any sum.
  coarse_group : (j p k c : ℕ) (bs : List (List Term))
      → k % powers ≡ p → p + suc j ≡ powers → start base k c + coarseness_by tau coarse_share p (take (suc j) bs) ≤ coarse_limit
      → ((d : ℕ) → Coarse (k + suc j) d (drop (suc j) bs)) → Coarse k c bs
  coarse_group j p k c [] e l w r = no_blocks
  coarse_group zero p k c (ts ∷ bs) e l w r =
      let z : k + 1 ≡ k + suc zero = omega arith in
      let s : start base k c + (burden (tau ^ (k % powers)) ts + coarseness_by tau coarse_share (suc p) []) ≤ coarse_limit =
      rw (first_block k p ts [] e) at w in
      a_block {k = k} {c = c} {ts = ts} {bs = bs} (omega arith) (rw z (r _))
  coarse_group (suc j) p k c (ts ∷ bs) e l w r =
      let s : start base k c + (burden (tau ^ (k % powers)) ts + coarseness_by tau coarse_share (suc p) (take (suc j) bs)) ≤ coarse_limit =
      rw (first_block k p ts (take (suc j) bs) e) at w in
      let n : (k + 1) % powers ≡ suc p = omega arith in
      let z : k + 1 + suc j ≡ k + suc (suc j) = omega arith in
      let o = start_old base (k + 1) (start base k c + burden (tau ^ (k % powers)) ts) p n in
      a_block {k = k} {c = c} {ts = ts} {bs = bs} (omega arith)
      (coarse_group j (suc p) (k + 1) (start base k c + burden (tau ^ (k % powers)) ts) bs n (omega arith) (rw o (omega arith))
      (λ (d : ℕ). rw z (r d)))

  pub coarse_blocks : (c : ℕ) (bs : List (List Term))
      → length bs ≡ block_count → ((q : ℕ) → q < 3 → coarseness_by tau coarse_share 0 (coordinate q bs) + base ≤ coarse_limit) → Coarse 0 c bs
  coarse_blocks c bs e h =
      let z : drop powers (drop powers (drop powers bs)) ≡ [] =
      rw (drop-drop powers powers bs, drop-drop powers (powers + powers) bs) (drop_of_length-le bs {i = block_count} (omega arith)) in
      let t : coarseness_by tau coarse_share 0 (take powers (drop powers (drop powers bs))) + base ≤ coarse_limit =
      rw (drop-drop powers powers bs) (h 2 (omega arith)) in
      group 0 c bs (h 0 (omega arith)) (λ c.
      group 1 c (drop powers bs) (h 1 (omega arith)) (λ c.
      group 2 c (drop powers (drop powers bs)) t (λ c. rw z no_blocks)))
    where
      group : (q c : ℕ) (l : List (List Term)) → coarseness_by tau coarse_share 0 (take powers l) + base ≤ coarse_limit
          → ((d : ℕ) → Coarse (powers * q + powers) d (drop powers l)) → Coarse (powers * q) c l
      group q c l w r =
          let n : powers * q % powers ≡ 0 = omega arith in
          coarse_group (powers - 1) 0 (powers * q) c l n (omega arith) (rw (start_new base (powers * q) c n) (omega arith)) r
