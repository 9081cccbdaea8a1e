-- Where the reader of published files stops, over the layout and the limits: each refusal of the definition is the reader's. Assumes nothing.
use mathlib.Core.Path.{◌≡◌, refl, sym, ap, ◌∙◌}
use mathlib.Core.Bool.{true, false}
use mathlib.Core.List.{List, [], ◌∷◌, ◌++◌, append-nil}
use Prim.Native.Nat.{ℕ, zero, suc, ◌+◌, ◌≤◌, ◌<◌}
use native.Mathlib.Omega.{arith}
use borrow.Author.Tests.{eqb-true, eqb-false, ne_eqb, lt-ltb, lt-leb}
use lib.Dec.{eqb}
use lib.ListN.{length, length-append}
use Rattle.units.specs.Units.{block_count}
use Rattle.units.specs.declared.Refusal.{Refusal}
use Rattle.units.specs.declared.Refusal.TheVariants.{BadByte, NoRoom, EndedEarly, ByteAfterEnd}
use Rattle.units.specs.Refusals.{over_limit, total_over_limit, no_room, byte_after_end, bad_heading, bad_number, of_number}
use Rattle.units.specs.Refusals as numbers
use Rattle.limits.specs.declared.Tally.{Tally}
use Rattle.series_lines.specs.declared.Reader.{Reader}
use Rattle.series_lines.specs.declared.Outcome.TheVariants.{More, Refused}
use Rattle.series_lines.specs.Grammar.{feed, any_packed}
use Rattle.series_lines.specs.Lexer.{spot_bad}
use Rattle.series_lines.specs.Reader.{last_offset, next_spot, stopped, fits, put_bytes, wrote, wrote_out, uncounted}
use Rattle.series_lines.specs.Reader as lines
use Rattle.series_lines.specs.Calls.{Run}
use Rattle.published_records.specs.declared.Row.{Row}
use Rattle.published_records.specs.Layout.{Heading, heading_bytes, GoodHeading, TermRecord, record_bytes, GoodRecord, NoFeed}
use Rattle.published_records.specs.Rows.{fresh_row, lex_row, lex_rows, whole_row}
use Rattle.published.specs.declared.Published.{Published}
use Rattle.published.specs.Reader.{halted, verdict, next_last, complete, step, step_out, run, inside, ended, ended_out, told}
use Rattle.published_promises.specs.HandCut.{AnyRecord, a_heading, a_record, cut_one}
use Rattle.published_promises.specs.Decided.{Awaits, CanBegin, IsWhole, Refuses, after_end, bad_byte, early_feed}
use Rattle.published_promises.specs.Decided.{out_of_order, count_over, wrong_number, number_over, total_over, too_coarse, no_room_heading, no_room_record}
use Rattle.integers.proofs.Tests.{by_cases}
use Rattle.published_promises.proofs.Records.{no_feed_append}
use Rattle.published_promises.proofs.Lines.{in_record, st, kind, run_none, run_one, stays, step_bad, step_feed, one_more, begun_past, row_run}
use Rattle.published_promises.proofs.Judged.{verdict_early, Says, begins, live, no_feed}
use Rattle.published_promises.proofs.Judged.{whole_in, heading_can, record_can, heading_says, record_says}
use Rattle.published_promises.proofs.Judged.{heading_judged, order_refused, heading_count_refused, heading_zero}
use Rattle.published_promises.proofs.Judged.{record_judged, record_number_refused, record_limit_refused, record_zero}
use Rattle.published_promises.proofs.Judged.{record_total_refused, record_coarse_refused}

-- The reader p refuses the bytes xs, before the end and at it, and nothing is written.
pub record Halts (p : Published) (o xs : List ℕ) (f : Refusal) : Type 0 where
  pub answer : told (run p o xs).reader ≡ Refused f
  pub same : (run p o xs).out ≡ o
  pub last : told (ended (run p o xs).reader (run p o xs).out) ≡ Refused f
  pub last_same : ended_out (run p o xs).reader (run p o xs).out ≡ o

-- The reader r has stopped with the number c, with any row.
abbrev stopped_at : Reader → ℕ → Row → ℕ → Published
stopped_at r c row last = record { reader = stopped r c; row = row; last = last }

halts : (p : Published) (o xs : List ℕ) (f : Refusal) (r : Reader) (c : ℕ) (row : Row) (m : ℕ)
    → run p o xs ≡ record { reader = stopped_at r c row m; out = o }
    → eqb c 0 ≡ false → eqb c 1 ≡ false → of_number c r.at ≡ f → Halts p o xs f
halts p o xs f r c row m e y z i =
    let t = plain r c y z ∙ ap (λ (x : Refusal). Refused x) i in
    record {
      answer = ap (λ (x : Run Published). told x.reader) e ∙ t;
      same = ap (λ (x : Run Published). x.out) e;
      last = ap (λ (x : Run Published). told (ended x.reader x.out)) e ∙ ap (λ (q : Published). told q) (same_end r c y) ∙ t;
      last_same = ap (λ (x : Run Published). ended_out x.reader x.out) e ∙ same_out r c y;
    }
  where
    plain : (r : Reader) (c : ℕ) → eqb c 0 ≡ false → eqb c 1 ≡ false → lines.told (stopped r c) ≡ Refused (of_number c r.at)
    plain r c y z = unfold lines.told in rw (y, z)

    same_end : (r : Reader) (c : ℕ) → eqb c 0 ≡ false → ended (stopped_at r c row m) o ≡ stopped_at r c row m
    same_end r c y = unfold ended in rw y

    same_out : (r : Reader) (c : ℕ) → eqb c 0 ≡ false → ended_out (stopped_at r c row m) o ≡ o
    same_out r c y = unfold ended_out in rw y

-- Within a record, whose bytes so far are xs.
module _ (at w k n m : ℕ) (s : Tally) (o xs : List ℕ) where
  abbrev here : Published
  here = in_record (at + length xs) w k n m s (lex_rows (kind n) fresh_row xs)

  module _ (awaits : Awaits k n) (clear : NoFeed xs) (alive : (lex_rows (kind n) fresh_row xs).line.spot ≡ spot_bad → ⊥) where
    -- The file goes on.
    pub open_run : at + length xs ≤ last_offset → run (st at w k n m s) o xs ≡ record { reader = here; out = o }
    open_run c =
        ap (λ (t : List ℕ). run (st at w k n m s) o t) (sym (append-nil xs))
        ∙ row_run xs at w k n m s fresh_row o [] awaits c clear alive
        ∙ run_none here o

    module _ (counts : at + length xs < last_offset) where
      stop_run : (b : ℕ) (more : List ℕ) (c : ℕ) (row : Row) (last : ℕ) → (c ≡ 0 → ⊥)
          → step here o b ≡ stopped_at here.reader c row last → step_out here o b ≡ o
          → run (st at w k n m s) o (xs ++ (b ∷ more)) ≡ record { reader = stopped_at here.reader c row last; out = o }
      stop_run b more c row last h e f =
          row_run xs at w k n m s fresh_row o (b ∷ more) awaits (omega arith) clear alive
          ∙ run_one here o b more
          ∙ ap (λ (y : List ℕ). run (step here o b) y more) f
          ∙ ap (λ (q : Published). run q o more) e
          ∙ stays (stopped_at here.reader c row last) h o more

      pub bad_halts : (b : ℕ) (more : List ℕ) → (b ≡ feed → ⊥) → (lex_row (kind n) (lex_rows (kind n) fresh_row xs) b).line.spot ≡ spot_bad
          → Halts (st at w k n m s) o (xs ++ (b ∷ more)) (BadByte (at + length xs))
      unfolding of_number
      bad_halts b more h e =
          let t = step_bad (at + length xs) w k n m s (lex_rows (kind n) fresh_row xs) o awaits (λ q. omega (arith, q)) b h e in
          halts (st at w k n m s) o (xs ++ (b ∷ more)) (BadByte (at + length xs)) here.reader numbers.bad_byte here.row m
          (stop_run b more numbers.bad_byte here.row m (λ q. omega (arith, q)) t.0 t.1) refl refl refl

      -- A line feed after a record that is refused with the number c.
      pub feed_halts : (c : ℕ) (more : List ℕ) → (verdict here).refusal ≡ c → eqb c 0 ≡ false → eqb c 1 ≡ false
          → Halts (st at w k n m s) o (xs ++ (feed ∷ more)) (of_number c (at + length xs))
      unfolding wrote wrote_out
      feed_halts c more e y z =
          let t = step_feed (at + length xs) w k n m s (lex_rows (kind n) fresh_row xs) o awaits (λ q. omega (arith, q)) in
          halts (st at w k n m s) o (xs ++ (feed ∷ more)) (of_number c (at + length xs)) here.reader c fresh_row (next_last here)
          (stop_run feed more c fresh_row (next_last here) (eqb-false c 0 y) (t.0 ∙ (rw (e, y))) (t.1 ∙ (rw (e, y)))) y z refl

      -- A line feed after a record whose bytes have no room.
      pub full_halts : (more : List ℕ) → (verdict here).refusal ≡ 0 → length o < w + length (verdict here).bytes
          → Halts (st at w k n m s) o (xs ++ (feed ∷ more)) (NoRoom (at + length xs))
      unfolding wrote wrote_out put_bytes fits of_number
      full_halts more e h =
          let t = step_feed (at + length xs) w k n m s (lex_rows (kind n) fresh_row xs) o awaits (λ q. omega (arith, q)) in
          let g = lt-leb (w + length (verdict here).bytes) (length o) h in
          halts (st at w k n m s) o (xs ++ (feed ∷ more)) (NoRoom (at + length xs)) here.reader no_room fresh_row (next_last here)
          (stop_run feed more no_room fresh_row (next_last here) (λ q. omega (arith, q)) (t.0 ∙ (rw (e, g))) (t.1 ∙ (rw (e, g)))) refl refl refl

-- ---- Every refusal.

inside_record : (at : ℕ) (xs : List ℕ) (b : ℕ) (more : List ℕ) → at + length (xs ++ (b ∷ more)) ≤ last_offset → at + length xs < last_offset
inside_record at xs b more h = omega (arith, length-append xs (b ∷ more))

no_feed_more : (xs : List ℕ) (b : ℕ) → NoFeed xs → (b ≡ feed → ⊥) → NoFeed (xs ++ (b ∷ []))
no_feed_more xs b f h = no_feed_append xs (b ∷ []) f (unfold NoFeed in (h, tt))

-- A byte after block 18.
after_halts : (at w m : ℕ) (s : Tally) (o : List ℕ) (b : ℕ) (more : List ℕ) → at < last_offset
    → Halts (st at w block_count 0 m s) o (b ∷ more) (ByteAfterEnd at)
unfolding of_number
after_halts at w m s o b more h =
    let p = st at w block_count 0 m s in
    let t = by_nine (λ e. omega (arith, e)) in
    halts p o (b ∷ more) (ByteAfterEnd at) p.reader byte_after_end fresh_row m
    (run_one p o b more ∙ ap (λ (y : List ℕ). run (step p o b) y more) t.1 ∙ ap (λ (q : Published). run q o more) t.0
    ∙ stays (halted p byte_after_end) (λ q. omega (arith, q)) o more)
    refl refl refl
  where
    by_nine : (at ≡ last_offset → ⊥)
        → (step (st at w block_count 0 m s) o b ≡ halted (st at w block_count 0 m s) byte_after_end) × (step_out (st at w block_count 0 m s) o b ≡ o)
    by_nine n = let t = ne_eqb at last_offset n in unfold step step_out uncounted complete next_spot in (rw t, rw t)

module _ (at w k n m : ℕ) (s : Tally) (o : List ℕ) where
  bad_byte_halts : (xs : List ℕ) (b : ℕ) (more : List ℕ) → Awaits k n → CanBegin n xs → (b ≡ feed → ⊥) → (CanBegin n (xs ++ (b ∷ [])) → ⊥)
      → at + length (xs ++ (b ∷ more)) ≤ last_offset → Halts (st at w k n m s) o (xs ++ (b ∷ more)) (BadByte (at + length xs))
  bad_byte_halts xs b more a c h x l =
      bad_halts at w k n m s o xs a (no_feed n xs c) (live n xs c) (inside_record at xs b more l) b more h
      (by_cases (eqb (lex_row (kind n) (lex_rows (kind n) fresh_row xs) b).line.spot spot_bad)
      (λ z. eqb-true _ _ z)
      (λ z. absurd (x (begins n (xs ++ (b ∷ [])) (no_feed_more xs b (no_feed n xs c) h)
      (λ q. eqb-false _ _ z (ap (λ (r : Row). r.line.spot) (sym (one_more (kind n) xs fresh_row b)) ∙ q))))))

  early_feed_halts : (xs more : List ℕ) → Awaits k n → CanBegin n xs → (IsWhole n xs → ⊥)
      → at + length (xs ++ (feed ∷ more)) ≤ last_offset → Halts (st at w k n m s) o (xs ++ (feed ∷ more)) (BadByte (at + length xs))
  unfolding of_number
  early_feed_halts xs more a c x l =
      feed_halts at w k n m s o xs a (no_feed n xs c) (live n xs c) (inside_record at xs feed more l) numbers.bad_byte more
      (verdict_early (at + length xs) w k m s (lex_rows (kind n) fresh_row xs) n not_whole) refl refl
    where
      not_whole : whole_row (kind n) (lex_rows (kind n) fresh_row xs) ≡ false
      not_whole =
          by_cases (whole_row (kind n) (lex_rows (kind n) fresh_row xs))
          (λ p. absurd (x (whole_in n xs (no_feed n xs c) (live n xs c) p)))
          (λ p. p)

  -- A whole record that is judged with the number j.
  module _ (xs more : List ℕ) (r : AnyRecord) (j blocks left last : ℕ) (after : Tally) (a : Awaits k n) (c : CanBegin n xs)
      (y : Says (at + length xs) w k n m s (lex_rows (kind n) fresh_row xs) r j blocks left last after)
      (l : at + length (xs ++ (feed ∷ more)) ≤ last_offset) where
    judged_halts : (d : ℕ) → j ≡ d → eqb d 0 ≡ false → eqb d 1 ≡ false
        → Halts (st at w k n m s) o (xs ++ (feed ∷ more)) (of_number d (at + length xs))
    judged_halts d e =
        feed_halts at w k n m s o xs a (no_feed n xs c) (live n xs c) (inside_record at xs feed more l) d more (y.refusal ∙ e)

    room_halts : j ≡ 0 → length o < w + length (any_packed (cut_one k r)) → Halts (st at w k n m s) o (xs ++ (feed ∷ more)) (NoRoom (at + length xs))
    room_halts e h =
        full_halts at w k n m s o xs a (no_feed n xs c) (live n xs c) (inside_record at xs feed more l) more (y.refusal ∙ e) (rw y.bytes h)

-- A heading and a term record, with its line feed.
module _ (at w k m : ℕ) (s : Tally) (o more : List ℕ) where
  module _ (h : Heading) (a : k < block_count) (g : GoodHeading h) (l : at + length (heading_bytes h ++ (feed ∷ more)) ≤ last_offset) where
    heading_halts : (d : ℕ) → heading_judged k s h ≡ d → eqb d 0 ≡ false → eqb d 1 ≡ false
        → Halts (st at w k 0 m s) o (heading_bytes h ++ (feed ∷ more)) (of_number d (at + length (heading_bytes h)))
    heading_halts =
        judged_halts at w k 0 m s o (heading_bytes h) more (a_heading h) _ _ _ _ _ (λ i. a) (heading_can h g)
        (heading_says (at + length (heading_bytes h)) w k m s h g) l

    heading_full : heading_judged k s h ≡ 0 → length o < w + length (any_packed (cut_one k (a_heading h)))
        → Halts (st at w k 0 m s) o (heading_bytes h ++ (feed ∷ more)) (NoRoom (at + length (heading_bytes h)))
    heading_full =
        room_halts at w k 0 m s o (heading_bytes h) more (a_heading h) _ _ _ _ _ (λ i. a) (heading_can h g)
        (heading_says (at + length (heading_bytes h)) w k m s h g) l

  module _ (n : ℕ) (t : TermRecord) (g : GoodRecord t) (l : at + length (record_bytes t ++ (feed ∷ more)) ≤ last_offset) where
    record_halts : (d : ℕ) → record_judged k m s t ≡ d → eqb d 0 ≡ false → eqb d 1 ≡ false
        → Halts (st at w k (suc n) m s) o (record_bytes t ++ (feed ∷ more)) (of_number d (at + length (record_bytes t)))
    record_halts =
        judged_halts at w k (suc n) m s o (record_bytes t) more (a_record t) _ _ _ _ _ (λ i. absurd (omega (arith, i))) (record_can n t g)
        (record_says (at + length (record_bytes t)) w k m s n t g) l

    record_full : record_judged k m s t ≡ 0 → length o < w + length (any_packed (cut_one k (a_record t)))
        → Halts (st at w k (suc n) m s) o (record_bytes t ++ (feed ∷ more)) (NoRoom (at + length (record_bytes t)))
    record_full =
        room_halts at w k (suc n) m s o (record_bytes t) more (a_record t) _ _ _ _ _ (λ i. absurd (omega (arith, i))) (record_can n t g)
        (record_says (at + length (record_bytes t)) w k m s n t g) l

pub refusals : {at : ℕ} {s : Tally} {room k n m : ℕ} {rest : List ℕ} {f : Refusal} → Refuses at s room k n m rest f → (w : ℕ) (o : List ℕ)
    → at + length rest ≤ last_offset → w + room ≡ length o → Halts (st at w k n m s) o rest f
unfolding of_number
refusals {at} {s} {room} (after_end {m} b more) w o l e = after_halts at w m s o b more (omega arith)
refusals {at} {s} {room} (bad_byte {k} {n} {m} xs b more a c h x) w o l e = bad_byte_halts at w k n m s o xs b more a c h x l
refusals {at} {s} {room} (early_feed {k} {n} {m} xs more a c x) w o l e = early_feed_halts at w k n m s o xs more a c x l
refusals {at} {s} {room} (out_of_order {k} {m} h more a g i) w o l e =
    heading_halts at w k m s o more h a g l bad_heading (order_refused k s h i) refl refl
refusals {at} {s} {room} (count_over {k} {m} h more a g i x) w o l e =
    heading_halts at w k m s o more h a g l over_limit (heading_count_refused k s h i x) refl refl
refusals {at} {s} {room} (wrong_number {k} {n} {m} t more g i) w o l e =
    record_halts at w k m s o more n t g l bad_number (record_number_refused k m s t i) refl refl
refusals {at} {s} {room} (number_over {k} {n} {m} t more g i x) w o l e =
    record_halts at w k m s o more n t g l over_limit (record_limit_refused k m s t i x) refl refl
refusals {at} {s} {room} (total_over {k} {n} {m} t more g i x u) w o l e =
    record_halts at w k m s o more n t g l total_over_limit (record_total_refused k m s t i x u) refl refl
refusals {at} {s} {room} (too_coarse {k} {n} {m} t more g i x u v) w o l e =
    record_halts at w k m s o more n t g l numbers.too_coarse (record_coarse_refused k m s t i x u v) refl refl
refusals {at} {s} {room} (no_room_heading {k} {m} h more a g i x u) w o l e =
    heading_full at w k m s o more h a g l (heading_zero k s h i x) (omega arith)
refusals {at} {s} {room} (no_room_record {k} {n} {m} t more g i x u) w o l e =
    record_full at w k m s o more n t g l (record_zero k m s t i x) (omega arith)

-- ---- A file that goes on, or ends inside a record or a block.

-- The reader p reads on after the bytes xs.
pub record Open (p : Published) (o xs : List ℕ) (w : ℕ) : Type 0 where
  pub answer : told (run p o xs).reader ≡ More w
  pub same : (run p o xs).out ≡ o

-- And its end after them comes too early.
pub record Early (p : Published) (o xs : List ℕ) (to : ℕ) : Type 0 where
  pub last : told (ended (run p o xs).reader (run p o xs).out) ≡ Refused (EndedEarly to)
  pub last_same : ended_out (run p o xs).reader (run p o xs).out ≡ o

is_inside : (at w k n m : ℕ) (s : Tally) (xs : List ℕ) → (n ≡ 0 → xs ≡ [] → ⊥) → inside (in_record at w k n m s (lex_rows (kind n) fresh_row xs)) ≡ true
unfolding inside
is_inside at w k n m s (x ∷ xs) h = rw (lt-ltb 1 (lex_rows (kind n) fresh_row (x ∷ xs)).column (begun_past (kind n) x xs))
is_inside at w k zero m s [] h = absurd (h refl refl)
is_inside at w k (suc n) m s [] h = unfold lex_rows in rw (lt-ltb 0 (suc n) (omega arith))

module _ (at w k n m : ℕ) (s : Tally) (o xs : List ℕ) (a : Awaits k n) (c : CanBegin n xs) (l : at + length xs ≤ last_offset) where
  abbrev there : Published
  there = in_record (at + length xs) w k n m s (lex_rows (kind n) fresh_row xs)

  to_there : run (st at w k n m s) o xs ≡ record { reader = there; out = o }
  to_there = open_run at w k n m s o xs a (no_feed n xs c) (live n xs c) l

  pub goes : Open (st at w k n m s) o xs w
  goes = record { answer = ap (λ (x : Run Published). told x.reader) to_there ∙ reads; same = ap (λ (x : Run Published). x.out) to_there }
    where
      reads : told there ≡ More w
      reads = unfold lines.told in refl

  pub breaks_off : (n ≡ 0 → xs ≡ [] → ⊥) → Early (st at w k n m s) o xs (at + length xs)
  breaks_off h =
      let i = is_inside (at + length xs) w k n m s xs h in
      record {
        last = ap (λ (x : Run Published). told (ended x.reader x.out)) to_there ∙ early i;
        last_same = ap (λ (x : Run Published). ended_out x.reader x.out) to_there ∙ early_out i;
      }
    where
      early : inside there ≡ true → told (ended there o) ≡ Refused (EndedEarly (at + length xs))
      early i = unfold lines.told ended of_number in rw i

      early_out : inside there ≡ true → ended_out there o ≡ o
      early_out i = unfold ended_out in rw i
