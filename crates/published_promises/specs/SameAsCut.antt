-- Beside the reader of series texts (RULES, "Published files"): what the reader says of a file whose records are whole and in order, and what
-- the text reader says of the text that is cut out of it by hand, with the same output. proofs/SameAsCut.antt shows that they always agree so.
use Rattle.std.specs.Prelude.{◌≡◌, true, List, [], ◌∷◌, ◌++◌, ℕ, suc, ◌+◌, ◌-◌, ◌≤◌, ◌<◌, length}
use Rattle.units.specs.Units.{block_count}
use Rattle.units.specs.declared.Refusal.TheVariants.{OverLimit, NoRoom}
use Rattle.units.specs.Refusals.{over_limit, total_over_limit, too_coarse, no_room, of_number}
use Rattle.series_lines.specs.declared.Outcome.{Outcome}
use Rattle.series_lines.specs.declared.Outcome.TheVariants.{Accepted, Refused}
use Rattle.series_lines.specs.Grammar.{count, any_bytes, any_packed}
use Rattle.series_lines.specs.Reader.{told}
use Rattle.published_records.specs.Layout.{Heading, heading_bytes, GoodHeading, TermRecord, GoodRecord}
use Rattle.published_headings.specs.Judge.{in_order}
use Rattle.published.specs.Reader as published
use Rattle.text.specs.Reader as text
use Rattle.published_promises.specs.HandCut.{AnyRecord, a_heading, a_record, any_record_bytes, file_bytes, heading_block}
use Rattle.published_promises.specs.HandCut.{blocks_of, cut_records, zero_lines, cut_text}

-- Whole records in order, whatever their limits: k blocks so far, n terms left of the last, and the running number m. So none of 3, 13 and 14 can
-- come; where n is 0, nor can 8. And 9 cannot: no heading is in order after block 18.
pub data Ordered : List AnyRecord → ℕ → ℕ → ℕ → Type 0 where
  none : Ordered [] 0 0 0
  next_heading : {rs : List AnyRecord} {k m : ℕ} (h : Heading) → Ordered rs k 0 m
      → GoodHeading h → in_order k h.version h.coordinate h.power ≡ true
      → Ordered (rs ++ (a_heading h ∷ [])) (heading_block h + 1) (count h.count) 0
  next_record : {rs : List AnyRecord} {k n m : ℕ} (t : TermRecord) → Ordered rs k (suc n) m
      → GoodRecord t → count t.number ≡ m + 1
      → Ordered (rs ++ (a_record t ∷ [])) k n (m + 1)

-- The refusals that are left: a number, a total or the coarseness passes its limit, or there is no room.
pub data OfLimits : ℕ → Type 0 where
  over : OfLimits over_limit
  total : OfLimits total_over_limit
  coarse : OfLimits too_coarse
  room : OfLimits no_room

-- An offset of the text lies after the lines that are cut out of some records, and in those that are cut out of the next one.
pub record InCutOf (before : List AnyRecord) (r : AnyRecord) (place : ℕ) : Type 0 where
  pub after : length (any_bytes (cut_records 0 before)) ≤ place
  pub inside : place < length (any_bytes (cut_records 0 (before ++ (r ∷ []))))

-- It lies in n lines `0` after them, for whose packed form there is no room.
pub record InZeroLines (before : List AnyRecord) (n : ℕ) (out : List ℕ) (place : ℕ) : Type 0 where
  pub after : length (any_bytes (cut_records 0 before)) ≤ place
  pub inside : place < length (any_bytes (cut_records 0 before ++ zero_lines n))
  pub full : length out < length (any_packed (cut_records 0 before ++ zero_lines n))

-- The answer to the file of the records and the output afterwards, then the answer to the text that is cut out of them and the output afterwards.
-- (What each reader leaves on a refusal is said by its own Answers, in Decided.antt here and in text_promises.)
pub data Agree (rs : List AnyRecord) (out : List ℕ) : Outcome → List ℕ → Outcome → List ℕ → Type 0 where
  -- Both accept, with the same packed bytes.
  both_accept : (n : ℕ) (left : List ℕ) → Agree rs out (Accepted n) left (Accepted n) left
  -- Both refuse alike: the one at the line feed of a record, the other in a line that is cut out of it.
  both_refuse : (before after : List AnyRecord) (r : AnyRecord) → rs ≡ before ++ (r ∷ after)
      → (c place : ℕ) → OfLimits c → InCutOf before r place → (left text_left : List ℕ)
      → Agree rs out (Refused (of_number c (length (file_bytes before) + length (any_record_bytes r)))) left (Refused (of_number c place)) text_left
  -- A heading with a count over its limit, after blocks without one, where there is no room for their counts: they come first in the text,
  -- while the reader of the file judges the heading before it writes them.
  over_and_full : (before after : List AnyRecord) (h : Heading) → rs ≡ before ++ (a_heading h ∷ after)
      → (place : ℕ) → InZeroLines before (heading_block h - blocks_of 0 before) out place → (left text_left : List ℕ)
      → Agree rs out (Refused (OverLimit (length (file_bytes before) + length (heading_bytes h)))) left (Refused (NoRoom place)) text_left
  -- There is no room for the counts of the blocks after the last heading: the one refuses at the end, the other in a line `0`.
  both_full : (place : ℕ) → InZeroLines rs (block_count - blocks_of 0 rs) out place → (left text_left : List ℕ)
      → Agree rs out (Refused (NoRoom (length (file_bytes rs)))) left (Refused (NoRoom place)) text_left

-- The same of the two readers, each called with the whole of its input and its end.
abbrev pub BothAgree : List AnyRecord → List ℕ → Type 0
BothAgree rs out =
    let file = published.whole (file_bytes rs) out in
    let cut = text.whole (cut_text rs) out in
    Agree rs out (published.told file.reader) file.out (told cut.reader) cut.out

-- And with the file cut into calls in any way.
abbrev pub BothAgreeCut : List AnyRecord → List ℕ → List (List ℕ) → Type 0
BothAgreeCut rs out ps =
    let file = published.end_of (published.calls published.begun_file out ps) in
    let cut = text.whole (cut_text rs) out in
    Agree rs out (published.told file.reader) file.out (told cut.reader) cut.out

-- What an acceptance of a file with n packed bytes says, where `left` is the output afterwards: it is whole records in order, and the text reader
-- accepts what is cut out of them with the same packed bytes.
pub record AcceptedAsCut (file out : List ℕ) (n : ℕ) (left : List ℕ) : Type 0 where
  pub rs : List AnyRecord
  pub k : ℕ
  pub m : ℕ
  pub ordered : Ordered rs k 0 m
  pub is : file ≡ file_bytes rs
  pub accepted : told (text.whole (cut_text rs) out).reader ≡ Accepted n
  pub same : (text.whole (cut_text rs) out).out ≡ left
