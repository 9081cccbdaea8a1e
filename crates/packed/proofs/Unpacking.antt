-- The walk over the 18 blocks: what is left, after the blocks done, gives what the whole gives. Assumes nothing.
use mathlib.Core.Path.{◌≡◌, refl, sym, ap, ap₂, ◌∙◌}
use mathlib.Core.Bool.{Bool}
use mathlib.Core.List.{List, [], ◌∷◌, ◌++◌, map, append-nil}
use Prim.Native.Nat.{ℕ, suc, ◌+◌, ◌-◌, ◌≤◌, ◌<◌}
use native.Mathlib.Numerals.{add-one}
use native.Mathlib.Omega.{arith}
use lib.ListN.{length, take, drop, set, length-append, length-set, drop_of_length-le}
use lib.Seq.{sets, length-sets, take-suc-set, take_all, drop-cons}
use Rattle.units.specs.declared.Refusal.{Refusal}
use Rattle.units.specs.declared.Refusal.TheVariants.{ByteAfterEnd}
use Rattle.packed_numbers.specs.Numbers.{Read, got, bad, next}
use Rattle.units.specs.Units.{series_limit, block_count}
use Rattle.limits.specs.declared.Term.{Term}
use Rattle.limits.specs.declared.Tally.{Tally}
use Rattle.std.specs.Prelude.{Err, Ok}
use Rattle.limits.specs.Limits.{no_tally, after_block}
use Rattle.packed.specs.Series.{read_block, read_blocks, read_series, accepted, refused, ended, parse, checked}
use Rattle.limits.specs.Allowed.{term_count}
use Rattle.limits.specs.Machine.Widened.{no_wide}
use Rattle.limits.specs.Wide.{good_for_wide}
use Rattle.limits.proofs.Series.{good_allowed}
use Rattle.packed.specs.declared.table.Table.{Table}
use Rattle.packed.specs.Machine.Table.{Holds, ends, block_ends, unpacked}
use Rattle.packed.specs.Machine.Tallies.{tally_rows, wide_rows, Tallied}
use Rattle.packed_numbers.specs.declared.quick.PackedTerm.{PackedTerm}
use Rattle.packed.specs.Machine.Answers.{packed_term, filled}
use Rattle.packed_numbers.specs.declared.Found.{Found}
use Rattle.packed.proofs.Walking.{Stepped, joined, joined_none, joined_more}
use Rattle.packed.proofs.Blocks.{block_accepted, block_sums, blocks_are_good}
use Rattle.packed.proofs.Widening.{tallies_say}
use Rattle.packed.proofs.Tabling.{all_rows, rows_more, count_more, ends_more, table_law, rows_stored}
use Rattle.packed.proofs.Tabling.{tally_upto, upto_more, tallies_more}

-- The loop's invariant, with the blocks that are done.
pub record Unpacking (s : List ℕ) (rows : List PackedTerm) (places : List ℕ) (sums : List Tally) (tally : Tally) (i k : ℕ) : Type 0 where
  pub done : List (List Term)
  pub place : k ≡ length done
  pub bound : k ≤ block_count
  pub whole : read_series 0 s ≡ joined done (read_blocks (block_count - k) k tally i (drop i s))
  pub terms : tally.terms ≡ term_count done
  pub held : take tally.terms rows ≡ all_rows done
  pub held_ends : take k places ≡ block_ends 0 done
  pub tally_is : tally ≡ tally_upto 0 no_tally done
  pub tallies : take k sums ≡ tally_rows 0 no_tally done
  pub sums_many : length sums ≡ block_count
  pub terms_many : length rows ≡ series_limit
  pub ends_many : length places ≡ block_count

pub unpacking_none : (s : List ℕ) (rows : List PackedTerm) (places : List ℕ) (sums : List Tally) → length rows ≡ series_limit
    → length places ≡ block_count → length sums ≡ block_count → Unpacking s rows places sums no_tally 0 0
unfolding read_series term_count block_ends all_rows tally_upto tally_rows
unpacking_none s rows places sums z e m =
    record {
      done = [];
      place = refl;
      bound = omega arith;
      whole = sym (joined_none (read_blocks block_count 0 no_tally 0 s));
      terms = refl;
      held = refl;
      held_ends = refl;
      tally_is = refl;
      tallies = refl;
      sums_many = m;
      terms_many = z;
      ends_many = e;
    }

-- The terms of the table after a block.
block_rows : (n : ℕ) (r : Read (List Term)) (rows after : List PackedTerm) {ts : List Term} {to : ℕ} {rest : List ℕ} → r ≡ got ts to rest
    → filled n r rows after → after ≡ sets rows n (map packed_term ts)
unfolding filled
block_rows n r rows after e f = rw e at f

-- Its terms are there.
rows_block : (rows after : List PackedTerm) (n m : ℕ) (done : List (List Term)) (ts : List Term) → m ≤ series_limit → m ≡ n + length ts
    → length rows ≡ series_limit → after ≡ sets rows n (map packed_term ts) → take n rows ≡ all_rows done
    → take m after ≡ all_rows (done ++ ts ∷ [])
rows_block rows after n m done ts f p z stored w = rw (stored, p, rows_stored rows n ts (omega arith), w) (sym (rows_more done ts))

-- And then its end is too.
ends_block : (places : List ℕ) (m k : ℕ) (done : List (List Term)) (ts : List Term) → length places ≡ block_count → k < block_count
    → m ≡ 0 + term_count done + length ts → take k places ≡ block_ends 0 done → take (k + 1) (set places k m) ≡ block_ends 0 (done ++ ts ∷ [])
ends_block places m k done ts z b c w = rw (add-one, take-suc-set places k m (omega arith), w, ends_more 0 done ts, c)

at_k : {k n : ℕ} → k ≡ n → 0 + n ≡ k
at_k e = omega arith

module _ (s : List ℕ) (rows : List PackedTerm) (places : List ℕ) (sums : List Tally) (tally : Tally) (i k : ℕ)
    (l : Unpacking s rows places sums tally i k) where
  some : (n : ℕ) → k < block_count → n ≡ block_count - (k + 1) → block_count - k ≡ suc n
  some n h e = omega arith

  left_got : (ts : List Term) (to : ℕ) → k < block_count → read_block k tally i (drop i s) ≡ got ts to (drop to s)
      → read_series 0 s ≡ joined (l.done ++ ts ∷ []) (read_blocks (block_count - (k + 1)) (k + 1) (after_block k tally ts) to (drop to s))
  unfolding read_blocks next
  left_got ts to h e =
      l.whole
      ∙ rw (some (block_count - (k + 1)) h refl, e)
      (joined_more l.done ts (read_blocks (block_count - (k + 1)) (k + 1) (after_block k tally ts) to (drop to s)))

  pub unpacking_stop : (q : Refusal) → k < block_count → read_block k tally i (drop i s) ≡ bad q → parse s ≡ refused q
  unfolding read_blocks next joined parse ended
  unpacking_stop q h e =
      let w : read_series 0 s ≡ bad q = l.whole ∙ rw (some (block_count - (k + 1)) h refl, e) in
      rw w

  unpacking_last : block_count ≤ k → read_series 0 s ≡ got l.done i (drop i s)
  unfolding read_blocks next joined
  unpacking_last h = let z : block_count - k ≡ 0 = omega arith in l.whole ∙ rw z (ap (λ (d : List (List Term)). got d i (drop i s)) (append-nil l.done))

  pub unpacking_over : block_count ≤ k → i < length s → parse s ≡ refused (ByteAfterEnd i)
  unfolding parse ended
  unpacking_over h b = rw (unpacking_last h, drop-cons s i 0 b)

  pub unpacking_done : block_count ≤ k → length s ≤ i → parse s ≡ accepted l.done
  unfolding parse ended
  unpacking_done h b = rw (unpacking_last h, drop_of_length-le s b)

  pub unpacking_more : (read : Found Tally) (after : List PackedTerm) → k < block_count
      → Stepped (after_block k tally) s (read_block k tally i (drop i s)) read
      → filled tally.terms (read_block k tally i (drop i s)) rows after
      → Unpacking s after (set places k read.value.terms) (set sums k read.value) read.value read.next (k + 1)
  unpacking_more read after h w f =
      let to = read.next in
      let more = read.value in
      let ts = w.x in
      let g = block_sums k tally ts (block_accepted k tally i (drop i s) ts to (drop to s) w.is).fits in
      let n : more.terms ≡ tally.terms + length ts = ap (λ (z : Tally). z.terms) w.with ∙ g.terms in
      let m : more.terms ≡ 0 + term_count l.done + length ts = n ∙ rw l.terms (omega arith) in
      let few : more.terms ≤ series_limit = rw w.with g.few in
      let new = block_rows tally.terms _ rows after w.is f in
      record {
        done = l.done ++ ts ∷ [];
        place = rw (length-append l.done (ts ∷ [])) (omega (arith, l.place));
        bound = omega arith;
        whole = left_got ts to h w.is ∙ rw w.with;
        terms = n ∙ rw (count_more l.done ts, l.terms);
        held = rows_block rows after tally.terms more.terms l.done ts few n l.terms_many new l.held;
        held_ends = ends_block places more.terms k l.done ts l.ends_many h m l.held_ends;
        tally_is = w.with ∙ here ts;
        tallies = rw (add-one, take-suc-set sums k more (rw l.sums_many h), l.tallies, w.with) (sym (here_rows ts));
        sums_many = length-set sums k more ∙ l.sums_many;
        terms_many = ap length new ∙ length-sets rows tally.terms (map packed_term ts) ∙ l.terms_many;
        ends_many = length-set places k more.terms ∙ l.ends_many;
      }
    where
      here : (ts : List Term) → after_block k tally ts ≡ tally_upto 0 no_tally (l.done ++ ts ∷ [])
      here ts = sym (upto_more 0 no_tally l.done ts ∙ ap₂ (λ (j : ℕ) (s : Tally). after_block j s ts) (at_k l.place) (sym l.tally_is))

      here_rows : (ts : List Term) → tally_rows 0 no_tally (l.done ++ ts ∷ []) ≡ tally_rows 0 no_tally l.done ++ after_block k tally ts ∷ []
      here_rows ts =
          tallies_more 0 no_tally l.done ts
          ∙ ap₂ (λ (j : ℕ) (s : Tally). tally_rows 0 no_tally l.done ++ after_block j s ts ∷ []) (at_k l.place) (sym l.tally_is)

  -- The table, when all blocks are done.
  pub unpacking_holds : (table : Table) → table.terms ≡ rows → table.ends ≡ places → k ≡ block_count → Holds table l.done
  unpacking_holds table a b e =
      let t : take k places ≡ places = take_all k places (omega (arith, l.ends_many, e)) in
      let p : ends table ≡ block_ends 0 l.done = b ∙ sym t ∙ l.held_ends in
      record { table = table_law table l.done tally.terms (ap (take tally.terms) a ∙ l.held) p; places = p }

  all_tallies : k ≡ block_count → sums ≡ tally_rows 0 no_tally l.done
  all_tallies e = sym (take_all k sums (omega (arith, l.sums_many, e))) ∙ l.tallies

  -- And the tallies: they are those of the blocks, which are within the limits, and say whether the series is good for the wide range.
  pub unpacking_tallied : k ≡ block_count → Tallied sums
  unfolding read_series
  unpacking_tallied e =
      let g = blocks_are_good block_count 0 no_tally 0 s l.done i (drop i s) (unpacking_last (omega (arith, e))) in
      record { blocks = l.done; allowed = good_allowed l.done g.many g.good; are = all_tallies e }

  pub unpacking_wide : k ≡ block_count → (wide : Bool) → wide ≡ wide_rows 0 no_wide no_tally sums → wide ≡ good_for_wide l.done
  unpacking_wide e wide f = f ∙ tallies_say sums l.done (all_tallies e) (sym l.place ∙ e)

-- The answers.
pub answer_refused : (s : List ℕ) (q : Refusal) (table : Table) → parse s ≡ refused q → (Err q ≡ checked (parse s)) × unpacked (parse s) table
unfolding checked unpacked
answer_refused s q table e = (rw e, rw e tt)

pub answer_series : (s : List ℕ) (blocks : List (List Term)) (n : ℕ) (wide : Bool) (table : Table) → parse s ≡ accepted blocks → n ≡ term_count blocks
    → wide ≡ good_for_wide blocks → Holds table blocks
    → (Ok (record { terms = n; wide = wide }) ≡ checked (parse s)) × unpacked (parse s) table
unfolding checked unpacked
answer_series s blocks n wide table e p q h = (rw (e, p, q), rw e h)
