-- The lines that are cut out of records: one record more, their bytes, and a good beginning of the text with the blocks that have no heading.
-- Assumes nothing.
use mathlib.Core.Path.{◌≡◌, refl, sym, ap, ◌∙◌, subst}
use mathlib.Core.Bool.{true}
use mathlib.Core.List.{List, [], ◌∷◌, ◌++◌, append_assoc, append-nil}
use Prim.Native.Nat.{ℕ, zero, suc, ◌+◌, ◌*◌, ◌-◌, ◌≤◌, ◌<◌}
use native.Mathlib.Nat.{add-zero}
use native.Mathlib.Omega.{arith}
use borrow.Author.Tests.{leb-true, leb-false}
use lib.Dec.{leb}
use lib.ListN.{length, length-append}
use lib.Seq.{sets}
use Rattle.units.specs.Units.{block_count, series_limit}
use Rattle.units.specs.declared.Refusal.{Refusal}
use Rattle.units.specs.declared.Refusal.TheVariants.{NoRoom}
use Rattle.limits.specs.declared.Tally.{Tally}
use Rattle.limits.specs.Limits.{opened, added, count_fits}
use Rattle.limits.proofs.Passing.{count_passed, count_passes}
use Rattle.series_lines.specs.declared.Outcome.TheVariants.{Refused}
use Rattle.series_lines.specs.Grammar.{feed, spaces, digit_0, digits, AllDigits, numeral, decimal, count, count_bytes, GoodCount, CountLine, term_bytes}
use Rattle.series_lines.specs.Grammar.{AnyLine, a_count, a_term, line_bytes, line_packed, any_bytes, any_packed}
use Rattle.published_records.specs.Layout.{Heading, heading_bytes, GoodHeading, TermRecord, record_bytes, GoodRecord, cut_term}
use Rattle.published_headings.specs.Judge.{skipped}
use Rattle.integers.proofs.Tests.{by_cases}
use Rattle.text_promises.specs.Decided as text
use Rattle.text_promises.proofs.Beginnings.{bytes_more, bytes_length, packed_length}
use Rattle.published_promises.specs.HandCut.{AnyRecord, a_heading, a_record, any_record_bytes, file_bytes, heading_block}
use Rattle.published_promises.specs.HandCut.{zero_line, zero_lines, cut_one, blocks_with, cut_records, blocks_of, cut_text}
use Rattle.published_promises.specs.SameAsCut.{Ordered, none, next_heading, next_record}
use Rattle.published_promises.proofs.Judged.{packed_append}
use Rattle.published_promises.proofs.Beginnings.{cut_more, blocks_more, in_order_facts, bytes_length as file_length}

-- ---- Lines, one after the other.

pub bytes_append : (ls ms : List AnyLine) → any_bytes (ls ++ ms) ≡ any_bytes ls ++ any_bytes ms
unfolding any_bytes
bytes_append [] ms = refl
bytes_append (l ∷ ls) ms =
    ap (λ (y : List ℕ). line_bytes l ++ (feed ∷ y)) (bytes_append ls ms) ∙ sym (append_assoc (line_bytes l) (feed ∷ any_bytes ls) (any_bytes ms))

pub bytes_grow : (ls ms : List AnyLine) → length (any_bytes (ls ++ ms)) ≡ length (any_bytes ls) + length (any_bytes ms)
bytes_grow ls ms = ap length (bytes_append ls ms) ∙ length-append (any_bytes ls) (any_bytes ms)

pub packed_grow : (ls ms : List AnyLine) → length (any_packed (ls ++ ms)) ≡ length (any_packed ls) + length (any_packed ms)
packed_grow ls ms = ap length (packed_append ls ms) ∙ length-append (any_packed ls) (any_packed ms)

-- ---- Records in order.

pub ordered_blocks : {rs : List AnyRecord} {k n m : ℕ} → Ordered rs k n m → blocks_of 0 rs ≡ k
unfolding blocks_of blocks_with
ordered_blocks none = refl
ordered_blocks (next_heading {rs} h o g i) = blocks_more 0 rs (a_heading h)
ordered_blocks (next_record {rs} t o g e) = blocks_more 0 rs (a_record t) ∙ ordered_blocks o

pub ordered_few : {rs : List AnyRecord} {k n m : ℕ} → Ordered rs k n m → k ≤ block_count
ordered_few none = omega arith
ordered_few (next_heading {k = k} h o g i) = omega (arith, (in_order_facts k h.version h.coordinate h.power i).block)
ordered_few (next_record t o g e) = ordered_few o

-- What is cut out of a record in order.
pub cut_heading : {rs : List AnyRecord} {k n m : ℕ} → Ordered rs k n m → (h : Heading)
    → cut_records 0 (rs ++ (a_heading h ∷ [])) ≡ (cut_records 0 rs ++ zero_lines (heading_block h - k)) ++ (a_count h.count ∷ [])
unfolding cut_one
cut_heading {rs} {k} o h =
    cut_more 0 rs (a_heading h)
    ∙ ap (λ (b : ℕ). cut_records 0 rs ++ (zero_lines (heading_block h - b) ++ (a_count h.count ∷ []))) (ordered_blocks o)
    ∙ sym (append_assoc (cut_records 0 rs) (zero_lines (heading_block h - k)) (a_count h.count ∷ []))

pub cut_record : (rs : List AnyRecord) (t : TermRecord) → cut_records 0 (rs ++ (a_record t ∷ [])) ≡ cut_records 0 rs ++ (a_term (cut_term t) ∷ [])
unfolding cut_one
cut_record rs t = cut_more 0 rs (a_record t)

-- ---- The cut text is no longer than the file, or than the text of no records, so it can be counted where the file can.

zeros_bytes : (n : ℕ) → length (any_bytes (zero_lines n)) ≡ 2 * n
unfolding any_bytes zero_lines line_bytes count_bytes digits
zeros_bytes zero = refl
zeros_bytes (suc n) = omega (arith, zeros_bytes n)

heading_long : (h : Heading) → GoodHeading h → 60 + length (count_bytes h.count) ≤ length (heading_bytes h)
unfolding heading_bytes
heading_long h g =
    let tail = count_bytes h.count ++ h.after in
    let counted = spaces h.count_indent ++ tail in
    let power = h.before_power ++ ((digit_0 + h.power) ∷ counted) in
    let coordinate = h.before_coordinate ++ ((digit_0 + h.coordinate) ∷ power) in
    omega (
      arith,
      g.before_version.columns,
      g.before_coordinate.columns,
      g.before_power.columns,
      length-append h.before_version ((digit_0 + h.version) ∷ coordinate),
      length-append h.before_coordinate ((digit_0 + h.coordinate) ∷ power),
      length-append h.before_power ((digit_0 + h.power) ∷ counted),
      length-append (spaces h.count_indent) tail,
      length-append (count_bytes h.count) h.after,
    )

record_long : (t : TermRecord) → GoodRecord t → 60 + length (term_bytes (cut_term t)) ≤ length (record_bytes t)
unfolding record_bytes term_bytes spaces
record_long t g =
    let c = decimal t.c ++ spaces t.after in
    let b = decimal t.b ++ (spaces t.c_indent ++ c) in
    let a = decimal t.a ++ (spaces t.b_indent ++ b) in
    let before_a = t.before_a ++ (spaces t.a_indent ++ a) in
    let line_b = decimal t.b ++ ((32 ∷ []) ++ decimal t.c) in
    omega (
      arith,
      g.before_a.columns,
      length-append t.before_number (spaces t.number_indent ++ (count_bytes t.number ++ before_a)),
      length-append (spaces t.number_indent) (count_bytes t.number ++ before_a),
      length-append (count_bytes t.number) before_a,
      length-append t.before_a (spaces t.a_indent ++ a),
      length-append (spaces t.a_indent) a,
      length-append (decimal t.a) (spaces t.b_indent ++ b),
      length-append (spaces t.b_indent) b,
      length-append (decimal t.b) (spaces t.c_indent ++ c),
      length-append (spaces t.c_indent) c,
      length-append (decimal t.c) (spaces t.after),
      length-append (decimal t.a) ((32 ∷ []) ++ line_b),
      length-append (decimal t.b) ((32 ∷ []) ++ decimal t.c),
    )

-- Its length with one record more.
heading_cut : {rs : List AnyRecord} {k n m : ℕ} → Ordered rs k n m → (h : Heading)
    → length (any_bytes (cut_records 0 (rs ++ (a_heading h ∷ []))))
    ≡ length (any_bytes (cut_records 0 rs)) + 2 * (heading_block h - k) + length (count_bytes h.count) + 1
unfolding line_bytes
heading_cut {rs} {k} o h =
    let ls = cut_records 0 rs in
    let zs = zero_lines (heading_block h - k) in
    omega (
      arith,
      ap (λ (ms : List AnyLine). length (any_bytes ms)) (cut_heading o h),
      bytes_length (ls ++ zs) (a_count h.count),
      bytes_grow ls zs,
      zeros_bytes (heading_block h - k),
    )

pub record_cut : (rs : List AnyRecord) (t : TermRecord)
    → length (any_bytes (cut_records 0 (rs ++ (a_record t ∷ [])))) ≡ length (any_bytes (cut_records 0 rs)) + length (term_bytes (cut_term t)) + 1
unfolding line_bytes
record_cut rs t =
    ap (λ (ms : List AnyLine). length (any_bytes ms)) (cut_record rs t) ∙ bytes_length (cut_records 0 rs) (a_term (cut_term t))

-- With the lines `0` that are still to come.
counted_by : {rs : List AnyRecord} {k n m : ℕ} → Ordered rs k n m → (x : ℕ) → 2 * block_count ≤ x → length (file_bytes rs) ≤ x
    → length (any_bytes (cut_records 0 rs)) + 2 * (block_count - k) ≤ x
unfolding cut_records any_bytes any_record_bytes
counted_by none x low c = omega arith
counted_by (next_heading {rs} {k} h o g i) x low c =
    let f = in_order_facts k h.version h.coordinate h.power i in
    let b = counted_by o (length (file_bytes rs) + 2 * block_count) (omega arith) (omega arith) in
    omega (arith, b, f.later, f.block, heading_cut o h, file_length rs (a_heading h), heading_long h g)
counted_by (next_record {rs} t o g e) x low c =
    let r = file_length rs (a_record t) in
    let l = record_long t g in
    let b = counted_by o (x - length (term_bytes (cut_term t)) - 1) (omega arith) (omega arith) in
    omega (arith, b, record_cut rs t)

pub cut_counted : {rs : List AnyRecord} {k n m : ℕ} → Ordered rs k n m → (x : ℕ) → 2 * block_count ≤ x → length (file_bytes rs) ≤ x
    → length (cut_text rs) ≤ x
cut_counted {rs} {k} o x low c =
    omega (
      arith,
      counted_by o x low c,
      bytes_grow (cut_records 0 rs) (zero_lines (block_count - blocks_of 0 rs)),
      zeros_bytes (block_count - blocks_of 0 rs),
      ordered_blocks o,
    )

-- ---- A good beginning of the text, and lines `0` after it.

-- It has no more terms than a series.
terms_few : {ls : List AnyLine} {k n : ℕ} {s : Tally} → text.Beginning ls k n s → s.terms ≤ series_limit
unfolding opened added
terms_few text.empty = omega arith
terms_few (text.with_count {s = s} l b i g f) = (count_passed s (count l) f).fewer
terms_few (text.with_term l b g f) = terms_few b

-- So a count 0 may come.
zero_fits : {ls : List AnyLine} {k n : ℕ} {s : Tally} → text.Beginning ls k n s → count_fits s 0 ≡ true
zero_fits {s = s} b = count_passes s 0 (record { few = omega arith; fewer = omega (arith, terms_few b) })

abbrev count_0 : CountLine
count_0 = record { first = 0; more = [] }

zero_good : GoodCount count_0
unfolding AllDigits
zero_good = record { digit = omega arith; digits = tt; few = omega arith; leading = λ e. refl }

with_zero : {ls : List AnyLine} {k : ℕ} {s : Tally} → text.Beginning ls k 0 s → k < block_count
    → text.Beginning (ls ++ (zero_line ∷ [])) (k + 1) 0 (opened k 0 s)
unfolding count numeral
with_zero b i = text.with_count count_0 b i zero_good (zero_fits b)

-- Blocks without a heading have no terms: a count fits after them where it fits before.
skipped_terms : (n k : ℕ) (s : Tally) → (skipped k n s).terms ≡ s.terms
unfolding skipped opened
skipped_terms zero k s = refl
skipped_terms (suc n) k s = skipped_terms n (k + 1) (opened k 0 s) ∙ add-zero s.terms

pub skipped_fits : (n k : ℕ) (s : Tally) (c : ℕ) → count_fits (skipped k n s) c ≡ count_fits s c
unfolding count_fits
skipped_fits n k s c = rw (skipped_terms n k s)

-- ---- A text that is refused, whatever comes after some lines.

abbrev pub TextStops : List ℕ → List AnyLine → Refusal → List ℕ → Type 0
TextStops out ls f left = (rest : List ℕ) → text.Answers (any_bytes ls ++ rest) out (Refused f) left

pub text_later : (out : List ℕ) (ls ms : List AnyLine) (f : Refusal) (left : List ℕ) → TextStops out ls f left → TextStops out (ls ++ ms) f left
text_later out ls ms f left h rest =
    let e : any_bytes ls ++ (any_bytes ms ++ rest) ≡ any_bytes (ls ++ ms) ++ rest =
    sym (ap (λ (y : List ℕ). y ++ rest) (bytes_append ls ms) ∙ append_assoc (any_bytes ls) (any_bytes ms) rest) in
    subst (λ (y : List ℕ). text.Answers y out (Refused f) left) e (h (any_bytes ms ++ rest))

-- After a good beginning that fits, by its next line.
pub text_stops : {ls : List AnyLine} {k n : ℕ} {s : Tally} (out : List ℕ) → text.Beginning ls k n s → length (any_packed ls) ≤ length out
    → (l : AnyLine) (f : Refusal)
    → ((more : List ℕ) → text.Refuses (length (any_bytes ls)) s (length out - length (any_packed ls)) k n (line_bytes l ++ (feed ∷ more)) f)
    → TextStops out (ls ++ (l ∷ [])) f (sets out 0 (any_packed ls))
text_stops {ls} out b h l f r rest =
    let w : length (any_packed ls) + (length out - length (any_packed ls)) ≡ length out = omega arith in
    text.refuses (record { beginning = b; is = bytes_more ls l rest; fits = w }) (r rest)

-- Lines `0` have room, or the text is refused in one of them.
pub data Zeros (out : List ℕ) (ls ms : List AnyLine) (k : ℕ) (s : Tally) : Type 0 where
  with_room : text.Beginning ms k 0 s → length (any_packed ms) ≤ length out → Zeros out ls ms k s
  without : (place : ℕ) (left : List ℕ) → length (any_bytes ls) ≤ place → place < length (any_bytes ms) → length out < length (any_packed ms)
      → TextStops out ms (NoRoom place) left → Zeros out ls ms k s

widened : {out : List ℕ} {ls ms : List AnyLine} {k : ℕ} {s : Tally} (l : AnyLine) → Zeros out (ls ++ (l ∷ [])) ms k s → Zeros out ls ms k s
widened l (with_room b h) = with_room b h
widened {ls = ls} l (without place left low high f t) = without place left (omega (arith, low, bytes_length ls l)) high f t

-- The first of them has none.
zero_stops : (out : List ℕ) (ls : List AnyLine) (k : ℕ) (s : Tally) → text.Beginning ls k 0 s → k < block_count
    → length (any_packed ls) ≤ length out → length out < length (any_packed (ls ++ (zero_line ∷ []))) → (ms : List AnyLine) (j : ℕ) (t : Tally)
    → Zeros out ls ((ls ++ (zero_line ∷ [])) ++ ms) j t
unfolding line_bytes count numeral
zero_stops out ls k s b i h r ms j t =
    let at = length (any_bytes ls) in
    let left = sets out 0 (any_packed ls) in
    let narrow : length out - length (any_packed ls) < length (line_packed zero_line) = omega (arith, r, packed_length ls zero_line) in
    without (at + length (count_bytes count_0)) left (omega arith)
    (omega (arith, bytes_grow (ls ++ (zero_line ∷ [])) ms, bytes_length ls zero_line))
    (omega (arith, r, packed_grow (ls ++ (zero_line ∷ [])) ms))
    (text_later out (ls ++ (zero_line ∷ [])) ms (NoRoom (at + length (count_bytes count_0))) left
    (text_stops out b h zero_line (NoRoom (at + length (count_bytes count_0)))
    (λ more. text.no_room_count count_0 more i zero_good (zero_fits b) narrow)))

pub zeros : (n : ℕ) (out : List ℕ) (ls : List AnyLine) (k : ℕ) (s : Tally) → text.Beginning ls k 0 s → k + n ≤ block_count
    → length (any_packed ls) ≤ length out → Zeros out ls (ls ++ zero_lines n) (k + n) (skipped k n s)
unfolding zero_lines skipped
zeros zero out ls k s b i h = with_room (rw (append-nil ls, add-zero k) b) (rw (append-nil ls) h)
zeros (suc n) out ls k s b i h =
    let longer = ls ++ (zero_line ∷ []) in
    let t = skipped (k + 1) n (opened k 0 s) in
    let j : k + 1 + n ≡ k + suc n = omega arith in
    let e : longer ++ zero_lines n ≡ ls ++ (zero_line ∷ zero_lines n) = append_assoc ls (zero_line ∷ []) (zero_lines n) in
    subst (λ (ms : List AnyLine). Zeros out ls ms (k + suc n) t) e
    (by_cases (leb (length (any_packed longer)) (length out))
    (λ z. subst (λ (i : ℕ). Zeros out ls (longer ++ zero_lines n) i t) j
    (widened zero_line (zeros n out longer (k + 1) (opened k 0 s) (with_zero b (omega arith)) (omega arith) (leb-true _ _ z))))
    (λ z. zero_stops out ls k s b (omega arith) h (leb-false _ _ z) (zero_lines n) (k + suc n) t))
