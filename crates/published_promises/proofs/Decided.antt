-- Every published file is decided over the layout of the records, their order and the limits: its answer, the answer's figure, and what the
-- output holds. Assumes nothing.
use mathlib.Core.Path.{◌≡◌, refl, sym, ap, ◌∙◌, subst}
use mathlib.Core.Bool.{Bool, true, false}
use mathlib.Core.List.{List, [], ◌∷◌, ◌++◌}
use mathlib.Core.Logic.{◌⊎◌, inl, inr}
use Prim.Native.Nat.{ℕ, zero, suc, ◌+◌, ◌-◌, ◌≤◌, ◌<◌}
use native.Mathlib.Nat.{add-zero}
use native.Mathlib.Omega.{arith}
use borrow.Author.Tests.{leb-true, leb-false, eqb-true, eqb-false, le-leb, lt-leb}
use lib.Dec.{leb, eqb}
use lib.ListN.{length, length-append}
use lib.Seq.{sets, length-sets}
use Rattle.units.specs.Units.{block_count}
use Rattle.units.specs.declared.Refusal.{Refusal}
use Rattle.units.specs.declared.Refusal.TheVariants.{NoRoom}
use Rattle.units.specs.Refusals.{of_number}
use Rattle.limits.specs.declared.Tally.{Tally}
use Rattle.limits.specs.Limits.{no_tally, factor, count_fits, total_fits, coarse_fits}
use Rattle.series_lines.specs.declared.Outcome.{Outcome}
use Rattle.series_lines.specs.declared.Outcome.TheVariants.{More, Accepted, Refused}
use Rattle.series_lines.specs.Grammar.{feed, size, value, count, any_packed, TermInLimits}
use Rattle.series_lines.specs.Lexer.{spot_bad}
use Rattle.series_lines.specs.Reader.{last_offset, fits, put_bytes}
use Rattle.series_lines.specs.Reader as lines
use Rattle.series_lines.specs.Calls.{Run}
use Rattle.published_records.specs.declared.Row.{Row}
use Rattle.published_records.specs.Layout.{Heading, heading_bytes, GoodHeading, TermRecord, record_bytes, GoodRecord, NoFeed, cut_term}
use Rattle.published_records.specs.Rows.{fresh_row, lex_row, lex_rows, whole_row}
use Rattle.published_headings.specs.Judge.{in_order, zeros}
use Rattle.published.specs.declared.Published.{Published}
use Rattle.published.specs.Reader.{begun_file, run, inside, ended, ended_out, told, whole}
use Rattle.published_promises.specs.HandCut.{AnyRecord, a_heading, a_record, any_record_bytes, file_bytes, cut_one, cut_records}
use Rattle.published_promises.specs.Decided.{Beginning, empty, with_heading, with_record, packed_so_far, Stands}
use Rattle.published_promises.specs.Decided.{Awaits, CanBegin, IsWhole, Refuses, after_end, bad_byte, early_feed}
use Rattle.published_promises.specs.Decided.{out_of_order, count_over, wrong_number, number_over, total_over, too_coarse}
use Rattle.published_promises.specs.Decided.{no_room_heading, no_room_record, missing_packed}
use Rattle.published_promises.specs.Decided.{Answers, accepts, no_room_at_end, refuses, ends_early, AnswersSoFar, complete, refused, goes_on}
use Rattle.integers.proofs.Tests.{by_cases, true_false}
use Rattle.text_promises.specs.Decided.{NumbersInLimits}
use Rattle.text_promises.proofs.Decided.{numbers}
use Rattle.published_promises.proofs.Lines.{st, kind, run_none, one_more}
use Rattle.published_promises.proofs.Judged.{zeros_packed, begins, live, whole_in, whole_of}
use Rattle.published_promises.proofs.Beginnings.{bytes_more, packed_length, sets_more, few, after, runs}
use Rattle.published_promises.proofs.Halts.{Halts, refusals, Open, goes, Early, breaks_off}

-- ---- The end of a file between two blocks.

module _ (at w k m : ℕ) (s : Tally) (o : List ℕ) where
  accept : w + length (missing_packed k) ≤ length o
      → (told (ended (st at w k 0 m s) o) ≡ Accepted (w + length (missing_packed k)))
      × (ended_out (st at w k 0 m s) o ≡ sets o w (missing_packed k))
  unfolding ended ended_out lines.told fits put_bytes inside
  accept h =
      let e = zeros_packed (block_count - k) in
      let f : leb (w + length (zeros (block_count - k))) (length o) ≡ true = le-leb _ _ (rw e at h) in
      (rw (f, e), rw (f, e))

  full : length o < w + length (missing_packed k)
      → (told (ended (st at w k 0 m s) o) ≡ Refused (NoRoom at)) × (ended_out (st at w k 0 m s) o ≡ o)
  unfolding ended ended_out lines.told fits put_bytes inside of_number
  full h =
      let e = zeros_packed (block_count - k) in
      let f : leb (w + length (zeros (block_count - k))) (length o) ≡ false = lt-leb _ _ (rw e at h) in
      (rw f, rw f)

-- ---- The reader gives the answers of the definition.

module _ (file out : List ℕ) (c : length file ≤ last_offset) where
  module _ {rs : List AnyRecord} {k n m : ℕ} {s : Tally} {rest : List ℕ} {room : ℕ} (h : Stands file out rs k n m s rest room) where
    long : length file ≡ length (file_bytes rs) + length rest
    long = ap length h.is ∙ length-append (file_bytes rs) rest

    reads_to : run begun_file out file ≡ run (after rs k n m s) (sets out 0 (packed_so_far rs)) rest
    reads_to = ap (λ (t : List ℕ). run begun_file out t) h.is ∙ runs h.beginning out rest (omega (arith, long)) (omega (arith, h.fits))

    stops : {f : Refusal} → Refuses (length (file_bytes rs)) s room k n m rest f → Halts (after rs k n m s) (sets out 0 (packed_so_far rs)) rest f
    stops r =
        refusals r (length (packed_so_far rs)) (sets out 0 (packed_so_far rs)) (omega (arith, long))
        (h.fits ∙ sym (length-sets out 0 (packed_so_far rs)))

    open_to : Awaits k n → CanBegin n rest → Open (after rs k n m s) (sets out 0 (packed_so_far rs)) rest (length (packed_so_far rs))
    open_to a b =
        goes (length (file_bytes rs)) (length (packed_so_far rs)) k n m s (sets out 0 (packed_so_far rs)) rest a b (omega (arith, long))

    early_to : Awaits k n → CanBegin n rest → (n ≡ 0 → rest ≡ [] → ⊥) → Early (after rs k n m s) (sets out 0 (packed_so_far rs)) rest (length file)
    early_to a b d =
        subst (λ (i : ℕ). Early (after rs k n m s) (sets out 0 (packed_so_far rs)) rest i) (sym long)
        (breaks_off (length (file_bytes rs)) (length (packed_so_far rs)) k n m s (sets out 0 (packed_so_far rs)) rest a b (omega (arith, long)) d)

  module _ {rs : List AnyRecord} {k m : ℕ} {s : Tally} {room : ℕ} (h : Stands file out rs k 0 m s [] room) where
    to_end : run begun_file out file ≡ record { reader = after rs k 0 m s; out = sets out 0 (packed_so_far rs) }
    to_end = reads_to h ∙ run_none (after rs k 0 m s) (sets out 0 (packed_so_far rs))

    end_told : told (whole file out).reader ≡ told (ended (after rs k 0 m s) (sets out 0 (packed_so_far rs)))
    end_told = ap (λ (x : Run Published). told (ended x.reader x.out)) to_end

    end_out : (whole file out).out ≡ ended_out (after rs k 0 m s) (sets out 0 (packed_so_far rs))
    end_out = ap (λ (x : Run Published). ended_out x.reader x.out) to_end

    room_is : length (packed_so_far rs) + room ≡ length (sets out 0 (packed_so_far rs))
    room_is = h.fits ∙ sym (length-sets out 0 (packed_so_far rs))

    accepted : length (missing_packed k) ≤ room
        → (told (whole file out).reader ≡ Accepted (length (packed_so_far rs ++ missing_packed k)))
        × ((whole file out).out ≡ sets out 0 (packed_so_far rs ++ missing_packed k))
    accepted d =
        let t = accept (length (file_bytes rs)) (length (packed_so_far rs)) k m s (sets out 0 (packed_so_far rs)) (omega (arith, room_is)) in (
          end_told ∙ t.0 ∙ ap (λ (i : ℕ). Accepted i) (sym (length-append (packed_so_far rs) (missing_packed k))),
          end_out ∙ t.1 ∙ sets_more out (packed_so_far rs) (missing_packed k),
        )

    filled : room < length (missing_packed k)
        → (told (whole file out).reader ≡ Refused (NoRoom (length file))) × ((whole file out).out ≡ sets out 0 (packed_so_far rs))
    filled d =
        let t = full (length (file_bytes rs)) (length (packed_so_far rs)) k m s (sets out 0 (packed_so_far rs)) (omega (arith, room_is)) in
        let i : length (file_bytes rs) ≡ length file = sym (long h ∙ add-zero (length (file_bytes rs))) in
        (end_told ∙ t.0 ∙ ap (λ (x : ℕ). Refused (NoRoom x)) i, end_out ∙ t.1)

  pub answers : {o : Outcome} {left : List ℕ} → Answers file out o left → (told (whole file out).reader ≡ o) × ((whole file out).out ≡ left)
  answers (accepts h d) = accepted h d
  answers (no_room_at_end h d) = filled h d
  answers (refuses h r) =
      let q = stops h r in (
        ap (λ (x : Run Published). told (ended x.reader x.out)) (reads_to h) ∙ q.last,
        ap (λ (x : Run Published). ended_out x.reader x.out) (reads_to h) ∙ q.last_same,
      )
  answers (ends_early h a b d) =
      let q = early_to h a b d in (
        ap (λ (x : Run Published). told (ended x.reader x.out)) (reads_to h) ∙ q.last,
        ap (λ (x : Run Published). ended_out x.reader x.out) (reads_to h) ∙ q.last_same,
      )

  pub answers_so_far : {o : Outcome} {left : List ℕ} → AnswersSoFar file out o left
      → (told (run begun_file out file).reader ≡ o) × ((run begun_file out file).out ≡ left)
  answers_so_far (complete {rs} {m} {s} {room} h) = (
    ap (λ (x : Run Published). told x.reader) (to_end h) ∙ reads (length (file_bytes rs)) (length (packed_so_far rs)) m s,
    ap (λ (x : Run Published). x.out) (to_end h),
  )
    where
      reads : (at w m : ℕ) (s : Tally) → told (st at w block_count 0 m s) ≡ More w
      reads at w m s = unfold lines.told in refl
  answers_so_far (refused h r) =
      let q = stops h r in
      (ap (λ (x : Run Published). told x.reader) (reads_to h) ∙ q.answer, ap (λ (x : Run Published). x.out) (reads_to h) ∙ q.same)
  answers_so_far (goes_on h a b) =
      let q = open_to h a b in
      (ap (λ (x : Run Published). told x.reader) (reads_to h) ∙ q.answer, ap (λ (x : Run Published). x.out) (reads_to h) ∙ q.same)

-- ---- And every file has one.

-- Bytes from the beginning of a record, up to its line feed or the first byte with which it is bad.
data Scan (b : Bool) (r : Row) : List ℕ → Type 0 where
  clear : {xs : List ℕ} → NoFeed xs → ((lex_rows b r xs).line.spot ≡ spot_bad → ⊥) → Scan b r xs
  at_feed : (xs more : List ℕ) → NoFeed xs → ((lex_rows b r xs).line.spot ≡ spot_bad → ⊥) → Scan b r (xs ++ (feed ∷ more))
  at_bad : (xs : List ℕ) (x : ℕ) (more : List ℕ) → NoFeed xs → ((lex_rows b r xs).line.spot ≡ spot_bad → ⊥)
      → (x ≡ feed → ⊥) → (lex_row b (lex_rows b r xs) x).line.spot ≡ spot_bad → Scan b r (xs ++ (x ∷ more))

further : (b : Bool) (r : Row) (x : ℕ) (xs : List ℕ) → (x ≡ feed → ⊥) → Scan b (lex_row b r x) xs → Scan b r (x ∷ xs)
unfolding lex_rows NoFeed
further b r x xs n (clear f h) = clear {xs = x ∷ xs} (n, f) h
further b r x _ n (at_feed ys more f h) = at_feed (x ∷ ys) more (n, f) h
further b r x _ n (at_bad ys y more f h d e) = at_bad (x ∷ ys) y more (n, f) h d e

scan : (b : Bool) (xs : List ℕ) (r : Row) → (r.line.spot ≡ spot_bad → ⊥) → Scan b r xs
unfolding lex_rows NoFeed
scan b [] r h = clear tt h
scan b (x ∷ xs) r h =
    by_cases (eqb x feed)
    (λ y. subst (λ (i : ℕ). Scan b r (i ∷ xs)) (sym (eqb-true x feed y)) (at_feed [] xs tt h))
    (λ y. by_cases (eqb (lex_row b r x).line.spot spot_bad)
    (λ z. at_bad [] x xs tt h (eqb-false x feed y) (eqb-true (lex_row b r x).line.spot spot_bad z))
    (λ z. further b r x xs (eqb-false x feed y) (scan b xs (lex_row b r x) (eqb-false (lex_row b r x).line.spot spot_bad z))))

-- How far a file comes.
data Comes (file out : List ℕ) : Type 0 where
  to_end_of_block : {rs : List AnyRecord} {k m : ℕ} {s : Tally} {room : ℕ} → Stands file out rs k 0 m s [] room → Comes file out
  to_refusal : {rs : List AnyRecord} {k n m : ℕ} {s : Tally} {rest : List ℕ} {room : ℕ} {f : Refusal}
      → Stands file out rs k n m s rest room → Refuses (length (file_bytes rs)) s room k n m rest f → Comes file out
  to_open_record : {rs : List AnyRecord} {k n m : ℕ} {s : Tally} {rest : List ℕ} {room : ℕ}
      → Stands file out rs k n m s rest room → Awaits k n → CanBegin n rest → (n ≡ 0 → rest ≡ [] → ⊥) → Comes file out

-- With a rest that is shorter than N bytes.
abbrev Shorter : List ℕ → List ℕ → ℕ → Type 0
Shorter file out N =
    (rs : List AnyRecord) (k n m : ℕ) (s : Tally) (rest : List ℕ) (room : ℕ) → length rest < N → Stands file out rs k n m s rest room → Comes file out

module _ (file out : List ℕ) (N : ℕ) (rec : Shorter file out N) (rs : List AnyRecord) (k m : ℕ) (s : Tally) (room : ℕ) where
  put_rest : (n : ℕ) (xs ys : List ℕ) → xs ≡ ys → Stands file out rs k n m s xs room → Stands file out rs k n m s ys room
  put_rest n xs ys e h = record { beginning = h.beginning; is = h.is ∙ ap (λ (t : List ℕ). file_bytes rs ++ t) e; fits = h.fits }

  -- With a record more, that was written.
  with_one : (n : ℕ) (r : AnyRecord) (more : List ℕ) (blocks left last : ℕ) (t : Tally) → length (any_record_bytes r ++ (feed ∷ more)) ≤ N
      → Stands file out rs k n m s (any_record_bytes r ++ (feed ∷ more)) room → length (any_packed (cut_one k r)) ≤ room
      → Beginning (rs ++ (r ∷ [])) blocks left last t → Comes file out
  with_one n r more blocks left last t c h d b =
      rec (rs ++ (r ∷ [])) blocks left last t more (room - length (any_packed (cut_one k r)))
      (omega (arith, length-append (any_record_bytes r) (feed ∷ more)))
      (record { beginning = b; is = h.is ∙ sym (bytes_more rs r more); fits = omega (arith, packed_length h.beginning r, h.fits) })

  heading_comes : k < block_count → (h : Heading) (more : List ℕ) → GoodHeading h → length (heading_bytes h ++ (feed ∷ more)) ≤ N
      → Stands file out rs k 0 m s (heading_bytes h ++ (feed ∷ more)) room → Comes file out
  unfolding any_record_bytes
  heading_comes fewer h more g c i =
      by_cases (in_order k h.version h.coordinate h.power)
      (λ d. by_cases (count_fits s (count h.count))
      (λ e. by_cases (leb (length (any_packed (cut_one k (a_heading h)))) room)
      (λ z. with_one 0 (a_heading h) more _ _ _ _ c i (leb-true _ _ z) (with_heading h i.beginning g d e))
      (λ z. to_refusal i (no_room_heading h more fewer g d e (leb-false _ _ z))))
      (λ e. to_refusal i (count_over h more fewer g d e)))
      (λ d. to_refusal i (out_of_order h more fewer g d))

  record_comes : (n : ℕ) (t : TermRecord) (more : List ℕ) → GoodRecord t → length (record_bytes t ++ (feed ∷ more)) ≤ N
      → Stands file out rs k (suc n) m s (record_bytes t ++ (feed ∷ more)) room → Comes file out
  unfolding any_record_bytes
  record_comes n t more g c i =
      by_cases (eqb (count t.number) (m + 1))
      (λ e. go (eqb-true _ _ e) (numbers (cut_term t)))
      (λ e. to_refusal i (wrong_number t more g (eqb-false _ _ e)))
    where
      go : count t.number ≡ m + 1 → NumbersInLimits (cut_term t) ⊎ (NumbersInLimits (cut_term t) → ⊥) → Comes file out
      go d (inr x) = to_refusal i (number_over t more g d x)
      go d (inl p) =
          by_cases (total_fits s (value t.a))
          (λ u. by_cases (coarse_fits (factor (k - 1)) s (value t.a) (size t.b) (value t.c))
          (λ v. let l : TermInLimits (factor (k - 1)) s (cut_term t) =
          record { from_zero = p.from_zero; a = p.a; b = p.b; c = p.c; total = u; coarse = v } in
          by_cases (leb (length (any_packed (cut_one k (a_record t)))) room)
          (λ z. with_one (suc n) (a_record t) more _ _ _ _ c i (leb-true _ _ z) (with_record t i.beginning g d l))
          (λ z. to_refusal i (no_room_record t more g d l (leb-false _ _ z))))
          (λ v. to_refusal i (too_coarse t more g d p u v)))
          (λ u. to_refusal i (total_over t more g d p u))

  whole_comes : (n : ℕ) → Awaits k n → (xs more : List ℕ) → IsWhole n xs → length (xs ++ (feed ∷ more)) ≤ N
      → Stands file out rs k n m s (xs ++ (feed ∷ more)) room → Comes file out
  unfolding IsWhole
  whole_comes zero a xs more i c h =
      let e = ap (λ (y : List ℕ). y ++ (feed ∷ more)) i.is in
      heading_comes (a refl) i.h more i.good (omega (arith, ap length e)) (put_rest 0 _ _ e h)
  whole_comes (suc n) a xs more i c h =
      let e = ap (λ (y : List ℕ). y ++ (feed ∷ more)) i.is in
      record_comes n i.t more i.good (omega (arith, ap length e)) (put_rest (suc n) _ _ e h)

  feed_comes : (n : ℕ) → Awaits k n → (xs more : List ℕ) → NoFeed xs → ((lex_rows (kind n) fresh_row xs).line.spot ≡ spot_bad → ⊥)
      → length (xs ++ (feed ∷ more)) ≤ N → Stands file out rs k n m s (xs ++ (feed ∷ more)) room → Comes file out
  feed_comes n a xs more f l c h =
      by_cases (whole_row (kind n) (lex_rows (kind n) fresh_row xs))
      (λ p. whole_comes n a xs more (whole_in n xs f l p) c h)
      (λ p. to_refusal h (early_feed xs more a (begins n xs f l) (λ i. true_false _ (whole_of n xs i) p)))

  open_comes : (n : ℕ) → Awaits k n → (rest : List ℕ) → CanBegin n rest → Stands file out rs k n m s rest room → Comes file out
  open_comes zero a [] b h = to_end_of_block h
  open_comes zero a (x ∷ rest) b h = to_open_record h a b (λ e f. not_empty f)
    where
      not_empty : x ∷ rest ≡ [] → ⊥
      not_empty f = omega (arith, ap length f)
  open_comes (suc n) a rest b h = to_open_record h a b (λ e f. omega (arith, e))

  comes_on : (n : ℕ) → Awaits k n → (rest : List ℕ) → Scan (kind n) fresh_row rest → length rest ≤ N → Stands file out rs k n m s rest room → Comes file out
  comes_on n a rest (clear f l) c h = open_comes n a rest (begins n rest f l) h
  comes_on n a _ (at_feed xs more f l) c h = feed_comes n a xs more f l c h
  comes_on n a _ (at_bad xs x more f l d e) c h =
      to_refusal h (bad_byte xs x more a (begins n xs f l) d
      (λ i. live n (xs ++ (x ∷ [])) i (ap (λ (r : Row). r.line.spot) (one_more (kind n) xs fresh_row x) ∙ e)))

-- After block 18.
finished : (file out : List ℕ) (rs : List AnyRecord) (m : ℕ) (s : Tally) (rest : List ℕ) (room : ℕ)
    → Stands file out rs block_count 0 m s rest room → Comes file out
finished file out rs m s [] room h = to_end_of_block h
finished file out rs m s (b ∷ more) room h = to_refusal h (after_end b more)

module _ (file out : List ℕ) where
  comes_by : (N : ℕ) → Shorter file out N → (rs : List AnyRecord) (k n m : ℕ) (s : Tally) (rest : List ℕ) (room : ℕ)
      → length rest ≤ N → Stands file out rs k n m s rest room → Comes file out
  comes_by N rec rs k zero m s rest room c h =
      by_cases (eqb k block_count)
      (λ z. finished file out rs m s rest room (subst (λ (i : ℕ). Stands file out rs i 0 m s rest room) (eqb-true k block_count z) h))
      (λ z. comes_on file out N rec rs k m s room 0 (λ e. not_all (eqb-false k block_count z) (few h.beginning)) rest
      (scan (kind 0) rest fresh_row (λ e. omega (arith, e))) c h)
    where
      not_all : (k ≡ block_count → ⊥) → k ≤ block_count → k < block_count
      not_all a b = omega arith
  comes_by N rec rs k (suc n) m s rest room c h =
      comes_on file out N rec rs k m s room (suc n) (λ e. absurd (omega (arith, e))) rest
      (scan (kind (suc n)) rest fresh_row (λ e. omega (arith, e))) c h

  comes_of : (N : ℕ) → Shorter file out N
  comes_of zero = λ rs k n m s rest room i h. absurd (omega (arith, i))
  comes_of (suc N) = λ rs k n m s rest room i h. comes_by N (comes_of N) rs k n m s rest room (omega (arith, i)) h

  comes : Comes file out
  comes = comes_of (suc (length file)) [] 0 0 0 no_tally file (length out) (omega arith) start_here
    where
      start_here : Stands file out [] 0 0 0 no_tally file (length out)
      start_here = unfold file_bytes cut_records any_packed in record { beginning = empty; is = refl; fits = omega arith }

-- ---- The promise.

module _ (file out : List ℕ) (c : length file ≤ last_offset) where
  -- The answer to a file is the one that the definition gives it, and so is what the output holds.
  pub decided : Answers file out (told (whole file out).reader) (whole file out).out
  decided = go (comes file out)
    where
      given : {o : Outcome} {left : List ℕ} → Answers file out o left → Answers file out (told (whole file out).reader) (whole file out).out
      given a = let e = answers file out c a in rw (e.0, e.1) a

      go : Comes file out → Answers file out (told (whole file out).reader) (whole file out).out
      go (to_end_of_block {rs} {k} {m} {s} {room} h) =
          by_cases (leb (length (missing_packed k)) room)
          (λ z. given (accepts h (leb-true _ _ z)))
          (λ z. given (no_room_at_end h (leb-false _ _ z)))
      go (to_refusal h r) = given (refuses h r)
      go (to_open_record h a b d) = given (ends_early h a b d)

  -- So has a file that has not ended.
  pub decided_so_far : AnswersSoFar file out (told (run begun_file out file).reader) (run begun_file out file).out
  decided_so_far = go (comes file out)
    where
      given : {o : Outcome} {left : List ℕ} → AnswersSoFar file out o left
          → AnswersSoFar file out (told (run begun_file out file).reader) (run begun_file out file).out
      given a = let e = answers_so_far file out c a in rw (e.0, e.1) a

      nothing_yet : CanBegin 0 []
      nothing_yet = begins 0 [] (unfold NoFeed in tt) (unfold lex_rows in λ e. omega (arith, e))

      go : Comes file out → AnswersSoFar file out (told (run begun_file out file).reader) (run begun_file out file).out
      go (to_end_of_block {rs} {k} {m} {s} {room} h) =
          by_cases (eqb k block_count)
          (λ z. given (complete (subst (λ (i : ℕ). Stands file out rs i 0 m s [] room) (eqb-true k block_count z) h)))
          (λ z. given (goes_on h (λ e. not_all (eqb-false k block_count z) (few h.beginning)) nothing_yet))
        where
          not_all : (k ≡ block_count → ⊥) → k ≤ block_count → k < block_count
          not_all a b = omega arith
      go (to_refusal h r) = given (refused h r)
      go (to_open_record h a b d) = given (goes_on h a b)

  -- The definition gives one answer.
  pub one_answer : {o p : Outcome} {left other : List ℕ} → Answers file out o left → Answers file out p other → (o ≡ p) × (left ≡ other)
  one_answer a b =
      let e = answers file out c a in
      let f = answers file out c b in
      (sym e.0 ∙ f.0, sym e.1 ∙ f.1)
