-- A record that is whole: what can begin it, what its judgement says, and what is written with it. Assumes nothing.
use mathlib.Core.Path.{◌≡◌, refl, sym, ap, ◌∙◌, subst}
use mathlib.Core.Bool.{Bool, true, false, cond}
use mathlib.Core.List.{List, [], ◌∷◌, ◌++◌, append-nil, append_assoc}
use Prim.Native.Nat.{ℕ, zero, suc, ◌+◌, ◌-◌, ◌≤◌, ◌<◌}
use native.Mathlib.Omega.{arith}
use borrow.Author.Tests.{eqb-true, eq-eqb, ne_eqb, le-leb}
use lib.Dec.{eqb}
use lib.ListN.{length}
use lib.Seq.{sets}
use Rattle.units.specs.Refusals.{bad_byte, over_limit, total_over_limit, too_coarse, bad_heading, bad_number}
use Rattle.packed_numbers.specs.Numbers.{encode, groups}
use Rattle.limits.specs.declared.Term.{Term}
use Rattle.limits.specs.declared.Tally.{Tally}
use Rattle.limits.specs.Limits.{opened, added, factor, count_fits, total_fits, coarse_fits}
use Rattle.packed.specs.Series.{pack_term}
use Rattle.series_lines.specs.Grammar.{feed, size, value, count, numeral, term_of_line, TermInLimits}
use Rattle.series_lines.specs.Grammar.{AnyLine, a_count, line_packed, any_packed}
use Rattle.series_lines.specs.Lexer.{spot_bad}
use Rattle.series_lines.specs.Judge.{term_on_line, term_line_refusal}
use Rattle.series_lines.specs.Reader.{last_offset, after_line, fits, wrote, put_bytes, wrote_out}
use Rattle.published_records.specs.declared.Row.{Row}
use Rattle.published_records.specs.Layout.{Heading, heading_bytes, GoodHeading, TermRecord, record_bytes, GoodRecord, NoFeed, cut_term}
use Rattle.published_records.specs.Rows.{fresh_row, lex_rows, whole_row}
use Rattle.published_headings.specs.Judge.{in_order, heading_refusal, record_refusal, skipped, zeros, heading_packed}
use Rattle.published.specs.declared.Published.{Published}
use Rattle.published.specs.Reader.{at_heading, heading_end, record_end, verdict, next_last, judged, step, run}
use Rattle.published_promises.specs.HandCut.{AnyRecord, a_heading, a_record, heading_block, zero_lines, cut_one}
use Rattle.published_promises.specs.Decided.{Awaits, CanBegin, IsWhole}
use Rattle.integers.proofs.Tests.{by_cases}
use Rattle.text_promises.proofs.GoodLines.{flag}
use Rattle.text_promises.specs.Decided.{NumbersInLimits}
use Rattle.text_promises.proofs.Verdicts.{term_is, term_zero}
use Rattle.text_promises.proofs.Halts.{number_refused, total_refused, coarse_refused}
use Rattle.published_promises.proofs.Lines.{in_record, st, kind, run_one, step_feed, row_run}
use Rattle.published_promises.proofs.Records.{heading_row, record_row, heading_run, record_run, heading_whole, record_whole}
use Rattle.published_promises.proofs.Records.{heading_live, record_live, heading_no_feed, record_no_feed}
use Rattle.published_promises.proofs.TakenHeadings.{heading_in}
use Rattle.published_promises.proofs.TakenRecords.{record_in}
use Rattle.published_promises.proofs.Progress.{heading_begins, record_begins}

-- The kind of a record, by the terms that are left.
pub kind_suc : (n : ℕ) → kind (suc n) ≡ false
kind_suc n = ne_eqb (suc n) 0 (λ e. omega (arith, e))

-- ---- The judgement of a whole record: its refusal, or 0.

-- A heading after k blocks and the tally s.
abbrev pub heading_judged : ℕ → Tally → Heading → ℕ
heading_judged k s h = heading_refusal k s h.version h.coordinate h.power (count h.count)

-- A term record in block k - 1, after the running number m.
abbrev pub record_judged : ℕ → ℕ → Tally → TermRecord → ℕ
record_judged k m s t =
    record_refusal m (count t.number) (factor (k - 1)) s (cond t.b.minus 1 0) (term_of_line (cut_term t))

module _ (k : ℕ) (s : Tally) (h : Heading) where
  pub order_refused : in_order k h.version h.coordinate h.power ≡ false → heading_judged k s h ≡ bad_heading
  unfolding heading_refusal
  order_refused i = rw i

  module _ (i : in_order k h.version h.coordinate h.power ≡ true) where
    pub heading_count_refused : count_fits s (count h.count) ≡ false → heading_judged k s h ≡ over_limit
    unfolding heading_refusal
    heading_count_refused f = rw (i, f)

    pub heading_zero : count_fits s (count h.count) ≡ true → heading_judged k s h ≡ 0
    unfolding heading_refusal
    heading_zero f = rw (i, f)

-- The minus of b, as the line of a text keeps it.
minus_is : (b : Bool) → flag b ≡ cond b 1 0
unfolding flag
minus_is true = refl
minus_is false = refl

module _ (k m : ℕ) (s : Tally) (t : TermRecord) where
  pub record_number_refused : (count t.number ≡ m + 1 → ⊥) → record_judged k m s t ≡ bad_number
  unfolding record_refusal
  record_number_refused x = rw (ne_eqb (count t.number) (m + 1) x)

  -- With the next running number it is judged as the line of a text that is cut out of it.
  module _ (i : count t.number ≡ m + 1) where
    as_line : record_judged k m s t ≡ term_line_refusal (factor (k - 1)) s (flag t.b.minus) (term_of_line (cut_term t))
    unfolding record_refusal
    as_line = rw (eq-eqb (count t.number) (m + 1) i, minus_is t.b.minus)

    pub record_limit_refused : (NumbersInLimits (cut_term t) → ⊥) → record_judged k m s t ≡ over_limit
    record_limit_refused x = as_line ∙ number_refused (factor (k - 1)) s (cut_term t) x

    pub record_total_refused : NumbersInLimits (cut_term t) → total_fits s (value t.a) ≡ false → record_judged k m s t ≡ total_over_limit
    record_total_refused x u = as_line ∙ total_refused (factor (k - 1)) s (cut_term t) x u

    pub record_coarse_refused : NumbersInLimits (cut_term t) → total_fits s (value t.a) ≡ true
        → coarse_fits (factor (k - 1)) s (value t.a) (size t.b) (value t.c) ≡ false → record_judged k m s t ≡ too_coarse
    record_coarse_refused x u v = as_line ∙ coarse_refused (factor (k - 1)) s (cut_term t) x u v

    pub record_zero : TermInLimits (factor (k - 1)) s (cut_term t) → record_judged k m s t ≡ 0
    record_zero x = as_line ∙ term_zero (factor (k - 1)) s (cut_term t) x

-- The running number of a record that is not refused.
number_next : (m number f : ℕ) (s : Tally) (minusb : ℕ) (t : Term) → record_refusal m number f s minusb t ≡ 0 → number ≡ m + 1
unfolding record_refusal
number_next m number f s minusb t =
    by_cases (eqb number (m + 1)) (λ p. λ e. eqb-true number (m + 1) p) (λ p. rw p (λ e. absurd (omega (arith, e))))

-- ---- What is written.

pub packed_append : (xs ys : List AnyLine) → any_packed (xs ++ ys) ≡ any_packed xs ++ any_packed ys
unfolding any_packed
packed_append [] ys = refl
packed_append (x ∷ xs) ys =
    ap (λ (t : List ℕ). line_packed x ++ t) (packed_append xs ys) ∙ sym (append_assoc (line_packed x) (any_packed xs) (any_packed ys))

pub zeros_packed : (n : ℕ) → any_packed (zero_lines n) ≡ zeros n
unfolding any_packed zero_lines zeros line_packed encode groups count numeral
zeros_packed zero = refl
zeros_packed (suc n) = ap (λ (t : List ℕ). 0 ∷ t) (zeros_packed n)

heading_written : (k : ℕ) (h : Heading) → heading_packed k (heading_block h) (count h.count) ≡ any_packed (cut_one k (a_heading h))
heading_written k h =
    ap (λ (t : List ℕ). t ++ encode (count h.count)) (sym (zeros_packed (heading_block h - k)))
    ∙ ap (λ (t : List ℕ). any_packed (zero_lines (heading_block h - k)) ++ t) (last_one h)
    ∙ sym (packed_append (zero_lines (heading_block h - k)) (a_count h.count ∷ []))
    ∙ ap any_packed (cut k h)
  where
    last_one : (h : Heading) → encode (count h.count) ≡ any_packed (a_count h.count ∷ [])
    last_one h = unfold any_packed line_packed in sym (append-nil (encode (count h.count)))

    cut : (k : ℕ) (h : Heading) → zero_lines (heading_block h - k) ++ (a_count h.count ∷ []) ≡ cut_one k (a_heading h)
    cut k h = unfold cut_one in refl

record_written : (k : ℕ) (t : TermRecord) → pack_term (term_of_line (cut_term t)) ≡ any_packed (cut_one k (a_record t))
unfolding any_packed line_packed cut_one
record_written k t = sym (append-nil (pack_term (term_of_line (cut_term t))))

-- ---- The judgement at the line feed.

module _ (at w k m : ℕ) (s : Tally) (row : Row) where
  verdict_heading : whole_row true row ≡ true → verdict (in_record at w k 0 m s row) ≡ heading_end (in_record at w k 0 m s row)
  unfolding verdict at_heading
  verdict_heading e = rw e

  verdict_record : (n : ℕ) → whole_row false row ≡ true → verdict (in_record at w k (suc n) m s row) ≡ record_end (in_record at w k (suc n) m s row)
  unfolding verdict at_heading
  verdict_record n e = rw (kind_suc n, e)

  pub verdict_early : (n : ℕ) → whole_row (kind n) row ≡ false → (verdict (in_record at w k n m s row)).refusal ≡ bad_byte
  unfolding verdict at_heading
  verdict_early n e = rw e

-- What the judgement of the record r says after k blocks, with n terms left, the running number m and the tally s: the refusal j; and where
-- there is none, what stands after it.
pub record Says (at w k n m : ℕ) (s : Tally) (row : Row) (r : AnyRecord) (j blocks left last : ℕ) (after : Tally) : Type 0 where
  pub refusal : (verdict (in_record at w k n m s row)).refusal ≡ j
  pub bytes : (verdict (in_record at w k n m s row)).bytes ≡ any_packed (cut_one k r)
  pub next : j ≡ 0
      → ◌≡◌ {A = Published} record {
        reader = after_line (in_record at w k n m s row).reader (verdict (in_record at w k n m s row));
        row = fresh_row;
        last = next_last (in_record at w k n m s row);
      } (st (at + 1) (w + length (any_packed (cut_one k r))) blocks left last after)

module _ (at w k m : ℕ) (s : Tally) (row : Row) where
  heading_row_says : (h : Heading) → whole_row true row ≡ true → row.line.value ≡ count h.count
      → row.version ≡ h.version → row.coordinate ≡ h.coordinate → row.power ≡ h.power
      → Says at w k 0 m s row (a_heading h) (heading_judged k s h) (heading_block h + 1) (count h.count) 0
      (opened (heading_block h) (count h.count) (skipped k (heading_block h - k) s))
  unfolding next_last at_heading
  heading_row_says h e c v d p =
      let q = verdict_heading at w k m s row e in
      let b = heading_written k h in
      record { refusal = rw (q, c, v, d, p); bytes = rw (q, c, d, p) b; next = λ z. rw (q, c, d, p, b) }

  record_row_says : (n : ℕ) (t : TermRecord) → whole_row false row ≡ true → row.number ≡ count t.number
      → term_on_line row.line ≡ term_of_line (cut_term t) → row.line.minusb ≡ cond t.b.minus 1 0
      → Says at w k (suc n) m s row (a_record t) (record_judged k m s t) k n (m + 1) (added (factor (k - 1)) s (term_of_line (cut_term t)))
  unfolding next_last at_heading
  record_row_says n t e c v d =
      let q = verdict_record at w k m s row n e in
      let b = record_written k t in
      let i : suc n - 1 ≡ n = omega arith in
      record { refusal = rw (q, c, v, d); bytes = rw (q, v) b; next = λ z. rw (q, v, b, kind_suc n, i, c, number_next m _ _ s _ _ z) }

-- ---- A record that is judged good and has room.

feed_good : (q : Published) (o : List ℕ) → (verdict q).refusal ≡ 0 → q.reader.written + length (verdict q).bytes ≤ length o
    → (judged q o ≡ record { reader = after_line q.reader (verdict q); row = fresh_row; last = next_last q })
    × (wrote_out q.reader o (verdict q) ≡ sets o q.reader.written (verdict q).bytes)
unfolding wrote wrote_out put_bytes fits
feed_good q o e h =
    let f = le-leb (q.reader.written + length (verdict q).bytes) (length o) h in
    (rw (e, f), rw (e, f))

module _ (at w k n m : ℕ) (s : Tally) (o xs : List ℕ) (r : AnyRecord) (j blocks left last : ℕ) (after : Tally) where
  pub taken : Awaits k n → NoFeed xs → ((lex_rows (kind n) fresh_row xs).line.spot ≡ spot_bad → ⊥)
      → Says (at + length xs) w k n m s (lex_rows (kind n) fresh_row xs) r j blocks left last after → j ≡ 0
      → at + length xs < last_offset → w + length (any_packed (cut_one k r)) ≤ length o → (rest : List ℕ)
      → run (st at w k n m s) o (xs ++ (feed ∷ rest))
      ≡ run (st (at + length xs + 1) (w + length (any_packed (cut_one k r))) blocks left last after) (sets o w (any_packed (cut_one k r))) rest
  taken a f g y z c h rest =
      let q = in_record (at + length xs) w k n m s (lex_rows (kind n) fresh_row xs) in
      let t = step_feed (at + length xs) w k n m s (lex_rows (kind n) fresh_row xs) o a (λ e. omega (arith, e)) in
      let u = feed_good q o (y.refusal ∙ z) (rw y.bytes h) in
      row_run xs at w k n m s fresh_row o (feed ∷ rest) a (omega arith) f g
      ∙ run_one q o feed rest
      ∙ ap (λ (x : List ℕ). run (step q o feed) x rest) (t.1 ∙ u.1 ∙ ap (λ (b : List ℕ). sets o w b) y.bytes)
      ∙ ap (λ (p : Published). run p (sets o w (any_packed (cut_one k r))) rest) (t.0 ∙ u.0 ∙ y.next z)

-- ---- By the kind of the record.

no_feed_part : (xs ys : List ℕ) → NoFeed (xs ++ ys) → NoFeed xs
unfolding NoFeed
no_feed_part [] ys f = tt
no_feed_part (x ∷ xs) ys f = (f.0, no_feed_part xs ys f.1)

-- A whole record begins a record.
pub heading_can : (h : Heading) → GoodHeading h → CanBegin 0 (heading_bytes h)
unfolding CanBegin
heading_can h g = record { rest = []; h = h; good = g; is = append-nil (heading_bytes h) }

pub record_can : (n : ℕ) (t : TermRecord) → GoodRecord t → CanBegin (suc n) (record_bytes t)
unfolding CanBegin
record_can n t g = record { rest = []; t = t; good = g; is = append-nil (record_bytes t) }

-- What is live can begin a record, and has no line feed; and what can begin one is live.
pub begins : (n : ℕ) (xs : List ℕ) → NoFeed xs → ((lex_rows (kind n) fresh_row xs).line.spot ≡ spot_bad → ⊥) → CanBegin n xs
unfolding CanBegin
begins zero xs f g = heading_begins xs f g
begins (suc n) xs f g = record_begins xs f (rw (kind_suc n) at g)

pub live : (n : ℕ) (xs : List ℕ) → CanBegin n xs → (lex_rows (kind n) fresh_row xs).line.spot ≡ spot_bad → ⊥
unfolding CanBegin
live zero xs c = heading_live xs c
live (suc n) xs c = rw (kind_suc n) (record_live xs c)

pub no_feed : (n : ℕ) (xs : List ℕ) → CanBegin n xs → NoFeed xs
unfolding CanBegin
no_feed zero xs c = no_feed_part xs c.rest (subst NoFeed (sym c.is) (heading_no_feed c.h c.good))
no_feed (suc n) xs c = no_feed_part xs c.rest (subst NoFeed (sym c.is) (record_no_feed c.t c.good))

-- The bytes of a record, from those that fill its columns; and these are filled by them.
pub whole_in : (n : ℕ) (xs : List ℕ) → NoFeed xs → ((lex_rows (kind n) fresh_row xs).line.spot ≡ spot_bad → ⊥)
    → whole_row (kind n) (lex_rows (kind n) fresh_row xs) ≡ true → IsWhole n xs
unfolding IsWhole
whole_in zero xs f g e = heading_in xs f g e
whole_in (suc n) xs f g e = record_in xs f (rw (kind_suc n) at g) (rw (kind_suc n) at e)

pub whole_of : (n : ℕ) (xs : List ℕ) → IsWhole n xs → whole_row (kind n) (lex_rows (kind n) fresh_row xs) ≡ true
unfolding IsWhole
whole_of zero xs i =
    ap (λ (ys : List ℕ). whole_row true (lex_rows true fresh_row ys)) i.is
    ∙ ap (λ (r : Row). whole_row true r) (heading_run i.h i.good)
    ∙ heading_whole i.h i.good
whole_of (suc n) xs i =
    rw (kind_suc n) (ap (λ (ys : List ℕ). whole_row false (lex_rows false fresh_row ys)) i.is
    ∙ ap (λ (r : Row). whole_row false r) (record_run i.t i.good)
    ∙ record_whole i.t i.good)

-- What the judgement of a whole record says.
module _ (at w k m : ℕ) (s : Tally) where
  pub heading_says : (h : Heading) → GoodHeading h
      → Says at w k 0 m s (lex_rows (kind 0) fresh_row (heading_bytes h)) (a_heading h) (heading_judged k s h) (heading_block h + 1) (count h.count) 0
      (opened (heading_block h) (count h.count) (skipped k (heading_block h - k) s))
  heading_says h g =
      subst (λ (row : Row). Says at w k 0 m s row (a_heading h) (heading_judged k s h) (heading_block h + 1) (count h.count) 0
      (opened (heading_block h) (count h.count) (skipped k (heading_block h - k) s))) (sym (heading_run h g))
      (heading_row_says at w k m s (heading_row h) h (heading_whole h g) refl refl refl refl)

  pub record_says : (n : ℕ) (t : TermRecord) → GoodRecord t
      → Says at w k (suc n) m s (lex_rows (kind (suc n)) fresh_row (record_bytes t)) (a_record t) (record_judged k m s t) k n (m + 1)
      (added (factor (k - 1)) s (term_of_line (cut_term t)))
  record_says n t g =
      subst (λ (row : Row). Says at w k (suc n) m s row (a_record t) (record_judged k m s t) k n (m + 1)
      (added (factor (k - 1)) s (term_of_line (cut_term t))))
      (sym (record_run t g) ∙ ap (λ (b : Bool). lex_rows b fresh_row (record_bytes t)) (sym (kind_suc n)))
      (record_row_says at w k m s (record_row t) n t (record_whole t g) refl (term_is (cut_term t)) (minus_is t.b.minus))
