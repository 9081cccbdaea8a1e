-- Whether a series is good for the wide range, from the tallies after its blocks. Assumes nothing.
use mathlib.Core.Path.{◌≡◌, refl, sym, ap, ap₂, ◌∙◌, subst}
use mathlib.Core.List.{List, [], ◌∷◌}
use Prim.Native.Nat.{ℕ, ◌+◌, ◌≤◌, ◌<◌}
use native.Mathlib.Omega.{arith}
use lib.ListN.{length, drop, get_or}
use Rattle.std.proofs.Common.{Option, Some, is_some}
use Rattle.units.specs.Units.{block_count, coarse_limit, wide_base}
use Rattle.limits.specs.declared.Term.{Term}
use Rattle.limits.specs.declared.Tally.{Tally}
use Rattle.limits.specs.Limits.{no_tally, after_block}
use Rattle.limits.specs.Wide.{good_for_wide}
use Rattle.limits.specs.Machine.Widened.{no_wide, widened, wide_from, Grown}
use Rattle.limits.proofs.Series.{GoodBlock, GoodBlocks, more, allowed_good, coarse_rises, coarse_stays}
use Rattle.limits.proofs.WideSums.{widened_block, sum_small, wide_is}
use Rattle.packed.specs.Machine.Tallies.{tally_rows, wide_rows, Tallied}
use Rattle.packed.proofs.Tabling.{head_is, tail_one}

-- What stands past the last tally, where none is asked.
abbrev nothing : Tally
nothing = record { terms = 0; total = 0; coarse = 0 }

-- The tallies of blocks say what the blocks say.
rows_say : (k : ℕ) (w : Option ℕ) (s : Tally) (blocks : List (List Term)) → wide_rows k w s (tally_rows k s blocks) ≡ wide_from k w blocks
unfolding wide_rows tally_rows wide_from
rows_say k w s [] = refl
rows_say k w s (ts ∷ blocks) =
    ap (λ (v : Option ℕ). wide_rows (k + 1) v (after_block k s ts) (tally_rows (k + 1) (after_block k s ts) blocks)) (widened_block k w s ts)
    ∙ rows_say (k + 1) _ (after_block k s ts) blocks

pub tallies_say : (rows : List Tally) (blocks : List (List Term)) → rows ≡ tally_rows 0 no_tally blocks → length blocks ≡ block_count
    → wide_rows 0 no_wide no_tally rows ≡ good_for_wide blocks
tallies_say rows blocks e n = ap (wide_rows 0 no_wide no_tally) e ∙ rows_say 0 no_wide no_tally blocks ∙ wide_is blocks n

-- The loop's invariant over the rows, after k of them; the blocks that are left are good.
pub record Judging (rows : List Tally) (w : Option ℕ) (tally : Tally) (k : ℕ) : Type 0 where
  pub left : List (List Term)
  pub many : k + length left ≡ block_count
  pub tallies : drop k rows ≡ tally_rows k tally left
  pub good : GoodBlocks k tally left
  pub coarse : tally.coarse ≤ coarse_limit
  pub small : (sum : ℕ) → w ≡ Some sum → sum ≤ coarse_limit
  pub whole : wide_rows 0 no_wide no_tally rows ≡ wide_rows k w tally (drop k rows)

pub judging_none : (rows : List Tally) → Tallied rows → Judging rows no_wide no_tally 0
judging_none rows t =
    record {
      left = t.blocks;
      many = omega (arith, t.allowed.eighteen);
      tallies = t.are;
      good = allowed_good t.blocks t.allowed;
      coarse = omega arith;
      small = λ sum e. first sum e;
      whole = refl;
    }
  where
    first : (sum : ℕ) → no_wide ≡ Some sum → sum ≤ coarse_limit
    first sum e = let f : wide_base ≡ sum = cc in omega arith

-- The next block: its tally is in its row, and it is good.
record Next (rows : List Tally) (tally : Tally) (k : ℕ) (left : List (List Term)) : Type 0 where
  ts : List Term
  rest : List (List Term)
  count : length left ≡ 1 + length rest
  is : get_or rows k nothing ≡ after_block k tally ts
  block : GoodBlock k tally ts
  blocks : GoodBlocks (k + 1) (get_or rows k nothing) rest
  here : drop k rows ≡ get_or rows k nothing ∷ drop (k + 1) rows
  rows_left : drop (k + 1) rows ≡ tally_rows (k + 1) (get_or rows k nothing) rest

next : (rows : List Tally) (tally : Tally) (k : ℕ) (left : List (List Term)) → k < block_count → k + length left ≡ block_count
    → drop k rows ≡ tally_rows k tally left → GoodBlocks k tally left → Next rows tally k left
next rows tally k [] h m e g = absurd (omega arith)
next rows tally k (ts ∷ rest) h m e (more b bs) =
    let row : drop k rows ≡ after_block k tally ts ∷ tally_rows (k + 1) (after_block k tally ts) rest = e ∙ unfold tally_rows in refl in
    let p : get_or rows k nothing ≡ after_block k tally ts = head_is k rows (after_block k tally ts) nothing _ row in
    let q = tail_one k rows (after_block k tally ts) _ row in
    record {
      ts = ts;
      rest = rest;
      count = omega arith;
      is = p;
      block = b;
      blocks = subst (λ (t : Tally). GoodBlocks (k + 1) t rest) (sym p) bs;
      here = row ∙ ap₂ (λ (t : Tally) (l : List Tally). t ∷ l) (sym p) (sym q);
      rows_left = q ∙ ap (λ (t : Tally). tally_rows (k + 1) t rest) (sym p);
    }

module _ (rows : List Tally) (w : Option ℕ) (tally : Tally) (k : ℕ) (j : Judging rows w tally k) where
  module _ (h : k < block_count) where
    n : Next rows tally k j.left
    n = next rows tally k j.left h j.many j.tallies j.good

    grows : Grown k w tally (get_or rows k nothing)
    grows = rw n.is (record { rising = coarse_rises k tally n.ts; within = coarse_stays k tally n.ts j.coarse n.block; small = j.small })

    pub judging_grows : (after : Tally) → after ≡ get_or rows k nothing → Grown k w tally after
    judging_grows after e = rw e grows

    step : Judging rows (widened k w tally (get_or rows k nothing)) (get_or rows k nothing) (k + 1)
    step =
        record {
          left = n.rest;
          many = omega (arith, j.many, n.count);
          tallies = n.rows_left;
          good = n.blocks;
          coarse = grows.within;
          small = sum_small k w tally (get_or rows k nothing);
          whole = j.whole ∙ ap (wide_rows k w tally) n.here ∙ unfold wide_rows in refl;
        }

    pub judging_more : (after : Tally) → after ≡ get_or rows k nothing → (v : Option ℕ) → v ≡ widened k w tally after → Judging rows v after (k + 1)
    judging_more after e v f = rw (f, e) step

  pub judging_done : block_count ≤ k → is_some w ≡ wide_rows 0 no_wide no_tally rows
  judging_done h = go j.left j.many j.tallies
    where
      go : (l : List (List Term)) → k + length l ≡ block_count → drop k rows ≡ tally_rows k tally l → is_some w ≡ wide_rows 0 no_wide no_tally rows
      go [] m e =
          let d : drop k rows ≡ [] = e ∙ unfold tally_rows in refl in
          sym (j.whole ∙ ap (wide_rows k w tally) d ∙ unfold wide_rows in refl)
      go (x ∷ l) m e = absurd (omega arith)
