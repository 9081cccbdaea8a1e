-- Where a block of a term table starts, and the running sum over the six blocks of a coordinate. Assumes nothing.
use mathlib.Core.Path.{◌≡◌, refl, sym, ap, ap₂, ◌∙◌, subst}
use mathlib.Core.List.{List, [], ◌∷◌}
use Prim.Native.Nat.{ℕ, zero, suc, ◌+◌, ◌-◌, ◌*◌, ◌≤◌, ◌<◌}
use native.Mathlib.Omega.{arith}
use lib.IntN.{ℤ, pos, nat_abs, ◌+ℤ◌, ◌*ℤ◌, +ℤ_idr}
use lib.ListN.{length, get_or, take, drop, length-take, length-drop}
use lib.Seq.{drop-cons, get_or-take, get_or-drop}
use Rattle.integers.specs.Division.{rounded}
use Rattle.units.specs.Units.{millennium, wide_total}
use Rattle.limits.specs.declared.Term.{Term}
use Rattle.pieces.specs.Sums.{block_sum}
use Rattle.pieces.proofs.Sizes.{no_share}
use Rattle.series.specs.Sums.{running_sum}
use Rattle.series.proofs.Accuracy.{running_step, running_one}
use Rattle.series.proofs.Reach.{InReach}
use Rattle.series.proofs.Sizes.{five_size}

-- past block 0, a block starts where the one before ends
pub start_later : (ends : List ℕ) (j : ℕ) → (j ≡ 0 → ⊥) → get_or ends (j - 1) 0 ≡ get_or (0 ∷ ends) j 0
start_later ends zero h = absurd (h refl)
start_later ends (suc j) h = ap (λ (k : ℕ). get_or ends k 0) (before j)
  where
    before : (j : ℕ) → suc j - 1 ≡ j
    before j = omega arith

-- ---- the running sum

running_none : (t : ℤ) → running_sum t [] ≡ pos 0
unfolding running_sum
running_none t = refl

-- a step, at the highest power too: there 0 is carried
running_cons : (t : ℤ) (b : List Term) (bs : List (List Term)) → running_sum t (b ∷ bs) ≡ block_sum t b +ℤ rounded (running_sum t bs *ℤ t) millennium
running_cons t b [] = running_one t b ∙
    sym (ap (λ (z : ℤ). block_sum t b +ℤ z) (ap (λ (v : ℤ). rounded (v *ℤ t) millennium) (running_none t) ∙ no_share t millennium (omega arith)) ∙
    +ℤ_idr (block_sum t b))
running_cons t b (c ∷ bs) = running_step t b c bs

abbrev pub six : List (List Term) → ℕ → List (List Term)
six bs first = take 6 (drop first bs)

-- v is the running sum from power k on
pub record Running (t : ℤ) (bs : List (List Term)) (first : ℕ) (v : ℤ) (k : ℕ) : Type 0 where
  pub few : k ≤ 6
  pub is : v ≡ running_sum t (drop k (six bs first))

module _ (t : ℤ) (bs : List (List Term)) (first : ℕ) (enough : first + 6 ≤ length bs) where
  six_long : length (six bs first) ≡ 6
  six_long = simp (length-take, length-drop) (omega arith)

  six_at : (k : ℕ) → k < 6 → get_or (six bs first) k [] ≡ get_or bs (first + k) []
  six_at k h = rw (get_or-take, get_or-drop)

  pub running_start : Running t bs first (pos 0) 6
  running_start = record { few = omega arith; is = sym (ap (running_sum t) (all_dropped (six bs first) six_long) ∙ running_none t) }
    where
      all_dropped : (l : List (List Term)) → length l ≡ 6 → drop 6 l ≡ []
      all_dropped l e = ap (λ (n : ℕ). drop n l) (sym e) ∙ drop_all l
        where
          drop_all : (l : List (List Term)) → drop (length l) l ≡ []
          drop_all [] = refl
          drop_all (x ∷ l) = drop_all l

  pub running_more : (v w : ℤ) (k : ℕ) → Running t bs first v (suc k) → w ≡ block_sum t (get_or bs (first + k) []) +ℤ rounded (v *ℤ t) millennium →
      Running t bs first w k
  running_more v w k r e = record {
    few = let h = r.few in omega arith;
    is =
        e ∙ ap₂ (λ (x : List Term) (z : ℤ). block_sum t x +ℤ rounded (z *ℤ t) millennium) (sym (six_at k (let h = r.few in omega arith))) r.is
        ∙ sym (ap (running_sum t) (drop-cons (six bs first) k [] (let h = r.few in let l = six_long in omega arith)) ∙
        running_cons t (get_or (six bs first) k []) (drop (suc k) (six bs first)));
  }

  pub running_whole : (v : ℤ) (k : ℕ) → Running t bs first v k → k ≤ 0 → v ≡ running_sum t (six bs first)
  running_whole v k r h = r.is ∙ ap (λ (n : ℕ). running_sum t (drop n (six bs first))) (zero_is k h)
    where
      zero_is : (k : ℕ) → k ≤ 0 → k ≡ 0
      zero_is k h = omega arith

  -- before power 0 it is at most 341 totals
  pub running_small : InReach t bs → (v : ℤ) (k : ℕ) → Running t bs first v (suc k) → nat_abs v ≤ 341 * wide_total
  running_small h v k r =
      subst (λ (z : ℤ). nat_abs z ≤ 341 * wide_total) (sym r.is)
      (five_size t bs h first (suc k) (omega arith))

  -- the same with the number of the power that the loop holds
  powered : (k : ℕ) → 0 < k → k ≡ suc (k - 1)
  powered k h = omega arith

  pub running_next : (v w : ℤ) (k : ℕ) → 0 < k → Running t bs first v k → w ≡ block_sum t (get_or bs (first + (k - 1)) []) +ℤ rounded
      (v *ℤ t) millennium → Running t bs first w (k - 1)
  running_next v w k h r e = running_more v w (k - 1) (subst (λ (n : ℕ). Running t bs first v n) (powered k h) r) e

  pub running_within : InReach t bs → (v : ℤ) (k : ℕ) → 0 < k → Running t bs first v k → nat_abs v ≤ 341 * wide_total
  running_within i v k h r = running_small i v (k - 1) (subst (λ (n : ℕ). Running t bs first v n) (powered k h) r)
