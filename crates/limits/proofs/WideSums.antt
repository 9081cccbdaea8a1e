-- The wide rule, judged block by block from the tallies of the walk, is the rule over the whole series. Assumes nothing.
use mathlib.Core.Path.{◌≡◌, refl, sym, ap, ap₂, ◌∙◌}
use mathlib.Core.Bool.{Bool, true, false, cond, ◌&&◌}
use mathlib.Core.List.{List, [], ◌∷◌}
use Prim.Native.Nat.{ℕ, zero, suc, ◌+◌, ◌*◌, ◌-◌, ◌%◌, ◌^◌, ◌≤◌, ◌<◌}
use native.Mathlib.Nat.{mul_assoc}
use native.Mathlib.Omega.{arith}
use borrow.Author.Tests.{leb-true, le-leb}
use lib.Dec.{leb}
use lib.ListN.{length}
use Rattle.std.proofs.Common.{Option, Some, None}
use Rattle.integers.proofs.Tests.{both}
use Rattle.units.specs.Units.{U, powers, block_count, coarse_tau, coarse_share, coarse_base, coarse_limit, wide_tau, wide_base, wide_total}
use Rattle.limits.specs.declared.Term.{Term}
use Rattle.limits.specs.declared.Tally.{Tally}
use Rattle.limits.specs.Limits.{factor, opened, after_block}
use Rattle.limits.specs.Allowed.{total_of, moving_total, moving_count, coarseness_by, coordinate}
use Rattle.limits.specs.Wide.{totals_within, fine_enough, good_for_wide}
use Rattle.limits.specs.Machine.Widened.{start, no_wide, judged, widened, with_block, wide_from}
use Rattle.limits.proofs.Terms.{burden, summed_total}
use Rattle.limits.proofs.Coarseness.{start_within, Coarse, no_blocks, a_block, coarse_coordinate, coarse_blocks}
use Rattle.limits.proofs.Series.{opened_total, after_coarse}

-- ---- sizes

pub held_small : (k c r : ℕ) → r ≡ start wide_base k c → c ≤ coarse_limit → r ≤ coarse_limit
held_small k c r e h = rw e (start_within wide_base k c (omega arith) h)

-- ---- one block

-- A power of wide_tau is the same power of coarse_tau twice.
twice : (p : ℕ) → p < powers → coarse_tau ^ p * coarse_tau ^ p ≡ wide_tau ^ p
twice zero h = refl
twice (suc zero) h = refl
twice (suc (suc zero)) h = refl
twice (suc (suc (suc zero))) h = refl
twice (suc (suc (suc (suc zero)))) h = refl
twice (suc (suc (suc (suc (suc zero))))) h = refl
twice (suc (suc (suc (suc (suc (suc p)))))) h = absurd (omega arith)

after_total : (k : ℕ) (s : Tally) (ts : List Term) → (after_block k s ts).total ≡ total_of ts
unfolding after_block
after_total k s ts = summed_total (factor k) (opened k (length ts) s) ts ∙ rw (opened_total k (length ts) s) (omega arith)

-- What a block has added to the coarseness sum, times its factor, is what it adds to the wide one.
grown : (k : ℕ) (s : Tally) (ts : List Term)
    → factor k * ((after_block k s ts).coarse - start coarse_base k s.coarse)
    ≡ wide_tau ^ (k % powers) * (coarse_share * moving_total ts + U * moving_count ts)
unfolding factor burden
grown k s ts =
    ap (λ (c : ℕ). coarse_tau ^ (k % powers) * (c - start coarse_base k s.coarse)) (after_coarse k s ts)
    ∙ ap (λ (c : ℕ). coarse_tau ^ (k % powers) * c) (less (start coarse_base k s.coarse) _)
    ∙ sym (mul_assoc (coarse_tau ^ (k % powers)) (coarse_tau ^ (k % powers)) _)
    ∙ ap (λ (f : ℕ). f * (coarse_share * moving_total ts + U * moving_count ts)) (twice (k % powers) (omega arith))
  where
    less : (a b : ℕ) → a + b - a ≡ b
    less a b = omega arith

pub widened_block : (k : ℕ) (w : Option ℕ) (s : Tally) (ts : List Term) → widened k w s (after_block k s ts) ≡ with_block k w ts
unfolding widened with_block
widened_block k None s ts = refl
widened_block k (Some sum) s ts = ap₂ (λ (a b : ℕ). judged (start wide_base k sum + a) b) (grown k s ts) (after_total k s ts)

-- While nothing has failed the sum is the one that was judged, and within its limit.
record Passed (s total : ℕ) : Type 0 where
  slight : leb total wide_total ≡ true
  small : leb s coarse_limit ≡ true

judged_some : (s total n : ℕ) → judged s total ≡ Some n → (s ≡ n) × Passed s total
unfolding judged
judged_some s total n = go (leb total wide_total) refl (leb s coarse_limit) refl
  where
    go : (a : Bool) → leb total wide_total ≡ a → (b : Bool) → leb s coarse_limit ≡ b
        → ◌≡◌ {A = Option ℕ} (cond (a && b) (Some s) None) (Some n) → (s ≡ n) × Passed s total
    go true p true q e = (cc, record { slight = p; small = q })
    go true p false q e = cc
    go false p b q e = cc

pub sum_small : (k : ℕ) (w : Option ℕ) (s a : Tally) (n : ℕ) → widened k w s a ≡ Some n → n ≤ coarse_limit
unfolding widened
sum_small k None s a n e = cc
sum_small k (Some sum) s a n e = let p = judged_some _ _ n e in rw (sym p.0) (leb-true _ _ p.1.small)

-- ---- all blocks

-- What has failed stays.
failed : (k : ℕ) (bs : List (List Term)) → wide_from k None bs ≡ false
unfolding wide_from with_block
failed k [] = refl
failed k (ts ∷ bs) = failed (k + 1) bs

-- The blocks one by one: each total, and the sum block by block.
record Kept (k c : ℕ) (bs : List (List Term)) : Type 0 where
  totals : totals_within wide_total bs ≡ true
  coarse : Coarse wide_tau wide_base k c bs

-- A block more, while nothing has failed.
module _ (k sum : ℕ) (ts : List Term) (bs : List (List Term)) where
  abbrev with_ts : ℕ
  with_ts = start wide_base k sum + burden (wide_tau ^ (k % powers)) ts

  step : wide_from k (Some sum) (ts ∷ bs) ≡ wide_from (k + 1) (judged with_ts (total_of ts)) bs
  unfolding wide_from with_block burden
  step = refl

  kept_more : (wide_from (k + 1) (Some with_ts) bs ≡ true → Kept (k + 1) with_ts bs) → wide_from k (Some sum) (ts ∷ bs) ≡ true → Kept k sum (ts ∷ bs)
  unfolding judged totals_within
  kept_more rest e = go (leb (total_of ts) wide_total) refl (leb with_ts coarse_limit) refl (sym step ∙ e)
    where
      none : {A : Type 0} → wide_from (k + 1) None bs ≡ true → A
      none f = let z : false ≡ true = sym (failed (k + 1) bs) ∙ f in cc

      go : (a : Bool) → leb (total_of ts) wide_total ≡ a → (b : Bool) → leb with_ts coarse_limit ≡ b
          → wide_from (k + 1) (cond (a && b) (Some with_ts) None) bs ≡ true → Kept k sum (ts ∷ bs)
      go true p true q f = let r = rest f in record { totals = rw p r.totals; coarse = a_block (leb-true _ _ q) r.coarse }
      go true p false q f = none f
      go false p b q f = none f

  more_kept : (Kept (k + 1) with_ts bs → wide_from (k + 1) (Some with_ts) bs ≡ true) → Kept k sum (ts ∷ bs) → wide_from k (Some sum) (ts ∷ bs) ≡ true
  unfolding judged totals_within
  more_kept rest h = go h.totals h.coarse
    where
      go : totals_within wide_total (ts ∷ bs) ≡ true → Coarse wide_tau wide_base k sum (ts ∷ bs) → wide_from k (Some sum) (ts ∷ bs) ≡ true
      go t (a_block l r) =
          let p = both (leb (total_of ts) wide_total) (totals_within wide_total bs) t in
          step ∙ rw (p.0, le-leb _ _ l) (rest (record { totals = p.1; coarse = r }))

kept_of : (k sum : ℕ) (bs : List (List Term)) → wide_from k (Some sum) bs ≡ true → Kept k sum bs
kept_of k sum [] e = record { totals = unfold totals_within in refl; coarse = no_blocks }
kept_of k sum (ts ∷ bs) e = kept_more k sum ts bs (kept_of (k + 1) _ bs) e

of_kept : (k sum : ℕ) (bs : List (List Term)) → Kept k sum bs → wide_from k (Some sum) bs ≡ true
of_kept k sum [] h = unfold wide_from in refl
of_kept k sum (ts ∷ bs) h = more_kept k sum ts bs (of_kept (k + 1) _ bs) h

-- ---- the whole series

same : (a b : Bool) → (a ≡ true → b ≡ true) → (b ≡ true → a ≡ true) → a ≡ b
same true b f g = sym (f refl)
same false true f g = g refl
same false false f g = refl

-- What makes a series good: each total, and each coordinate.
pub good_totals : (blocks : List (List Term)) → good_for_wide blocks ≡ true → totals_within wide_total blocks ≡ true
unfolding good_for_wide
good_totals blocks e = (both (totals_within wide_total blocks) _ e).0

pub good_coarse : (blocks : List (List Term)) → good_for_wide blocks ≡ true
    → (q : ℕ) → q < 3 → coarseness_by wide_tau coarse_share 0 (coordinate q blocks) + wide_base ≤ coarse_limit
unfolding good_for_wide fine_enough
good_coarse blocks e q l =
    let p = both (totals_within wide_total blocks) _ e in
    let a = both (fine_enough 0 blocks) _ p.1 in
    let b = both (fine_enough 1 blocks) _ a.1 in
    each q l a.0 b.0 b.1
  where
    each : (q : ℕ) → q < 3 → fine_enough 0 blocks ≡ true → fine_enough 1 blocks ≡ true → fine_enough 2 blocks ≡ true
        → coarseness_by wide_tau coarse_share 0 (coordinate q blocks) + wide_base ≤ coarse_limit
    each zero l x y z = leb-true _ _ x
    each (suc zero) l x y z = leb-true _ _ y
    each (suc (suc zero)) l x y z = leb-true _ _ z
    each (suc (suc (suc q))) l x y z = absurd (omega arith)

kept_good : (blocks : List (List Term)) → Kept 0 wide_base blocks → good_for_wide blocks ≡ true
unfolding good_for_wide fine_enough
kept_good blocks h = rw (h.totals, fine 0, fine 1, fine 2)
  where
    fine : (q : ℕ) → leb (coarseness_by wide_tau coarse_share 0 (coordinate q blocks) + wide_base) coarse_limit ≡ true
    fine q = le-leb _ _ (coarse_coordinate wide_tau wide_base (omega arith) wide_base q blocks h.coarse)

-- Judged block by block from the first, a series of 18 blocks is good where the rule says so of the whole.
pub wide_is : (blocks : List (List Term)) → length blocks ≡ block_count → wide_from 0 no_wide blocks ≡ good_for_wide blocks
wide_is blocks n =
    same (wide_from 0 no_wide blocks) (good_for_wide blocks)
    (λ e. kept_good blocks (kept_of 0 wide_base blocks e))
    (λ e.
    of_kept 0 wide_base blocks
    (record { totals = good_totals blocks e; coarse = coarse_blocks wide_tau wide_base wide_base blocks n (good_coarse blocks e) }))
