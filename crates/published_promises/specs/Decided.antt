-- What the answer to a published file is, and what it leaves (RULES, "Published files"), over the layout of the records, the order of headings and
-- running numbers, and the limits.
-- proofs/Decided.antt shows that the reader gives every file that can be counted exactly this answer.
use Rattle.std.specs.Prelude.{◌≡◌, true, false, List, [], ◌∷◌, ◌++◌, ℕ, zero, suc, ◌+◌, ◌-◌, ◌<◌, ◌≤◌, length}
use Rattle.std.proofs.lemmas.List.Edits.{sets}
use Rattle.units.specs.Units.{block_count}
use Rattle.units.specs.declared.Refusal.{Refusal}
use Rattle.units.specs.declared.Refusal.TheVariants.{BadByte, OverLimit, TotalOverLimit, TooCoarse, NoRoom, EndedEarly, ByteAfterEnd, BadHeading, BadNumber}
use Rattle.limits.specs.declared.Tally.{Tally}
use Rattle.limits.specs.Limits.{no_tally, opened, added, factor, count_fits, total_fits, coarse_fits}
use Rattle.series_lines.specs.declared.Outcome.{Outcome}
use Rattle.series_lines.specs.declared.Outcome.TheVariants.{More, Accepted, Refused}
use Rattle.series_lines.specs.Grammar.{feed, size, value, count, term_of_line, any_packed, TermInLimits}
use Rattle.text_promises.specs.Decided.{NumbersInLimits}
use Rattle.published_records.specs.Layout.{Heading, heading_bytes, GoodHeading, TermRecord, record_bytes, GoodRecord, cut_term}
use Rattle.published_headings.specs.Judge.{in_order, skipped}
use Rattle.published_promises.specs.HandCut.{AnyRecord, a_heading, a_record, file_bytes, heading_block, cut_one, cut_records, zero_lines}

-- ---- A good beginning.

-- Records with which a file can begin, in order: k blocks so far, n terms left of the last, the running number m, and the tally.
pub data Beginning : List AnyRecord → ℕ → ℕ → ℕ → Tally → Type 0 where
  empty : Beginning [] 0 0 0 no_tally
  with_heading : {rs : List AnyRecord} {k m : ℕ} {s : Tally} (h : Heading) → Beginning rs k 0 m s
      → GoodHeading h → in_order k h.version h.coordinate h.power ≡ true → count_fits s (count h.count) ≡ true
      → Beginning (rs ++ (a_heading h ∷ [])) (heading_block h + 1) (count h.count) 0
      (opened (heading_block h) (count h.count) (skipped k (heading_block h - k) s))
  with_record : {rs : List AnyRecord} {k n m : ℕ} {s : Tally} (t : TermRecord) → Beginning rs k (suc n) m s
      → GoodRecord t → count t.number ≡ m + 1 → TermInLimits (factor (k - 1)) s (cut_term t)
      → Beginning (rs ++ (a_record t ∷ [])) k n (m + 1) (added (factor (k - 1)) s (term_of_line (cut_term t)))

-- What is written with them: the packed form of the lines that are cut out of them.
abbrev pub packed_so_far : List AnyRecord → List ℕ
packed_so_far rs = any_packed (cut_records 0 rs)

-- A file is such records and a rest; their packed form leaves `room` bytes of the output.
pub record Stands (file out : List ℕ) (rs : List AnyRecord) (k n m : ℕ) (s : Tally) (rest : List ℕ) (room : ℕ) : Type 0 where
  pub beginning : Beginning rs k n m s
  pub is : file ≡ file_bytes rs ++ rest
  pub fits : length (packed_so_far rs) + room ≡ length out

-- ---- The record that comes next: a heading where no term is left, else a term record.

-- One may come: the series is not whole.
abbrev pub Awaits : ℕ → ℕ → Type 0
Awaits k n = n ≡ 0 → k < block_count

-- A heading begins with the bytes xs.
pub record BeginsHeading (xs : List ℕ) : Type 0 where
  pub rest : List ℕ
  pub h : Heading
  pub good : GoodHeading h
  pub is : xs ++ rest ≡ heading_bytes h

-- A term record does.
pub record BeginsRecord (xs : List ℕ) : Type 0 where
  pub rest : List ℕ
  pub t : TermRecord
  pub good : GoodRecord t
  pub is : xs ++ rest ≡ record_bytes t

-- The record that comes next can begin with xs.
unfoldable pub CanBegin : ℕ → List ℕ → Type 0
CanBegin zero xs = BeginsHeading xs
CanBegin (suc n) xs = BeginsRecord xs

-- The bytes xs are a heading.
pub record IsHeading (xs : List ℕ) : Type 0 where
  pub h : Heading
  pub good : GoodHeading h
  pub is : xs ≡ heading_bytes h

-- They are a term record.
pub record IsRecord (xs : List ℕ) : Type 0 where
  pub t : TermRecord
  pub good : GoodRecord t
  pub is : xs ≡ record_bytes t

-- They are the record that comes next.
unfoldable pub IsWhole : ℕ → List ℕ → Type 0
IsWhole zero xs = IsHeading xs
IsWhole (suc n) xs = IsRecord xs

-- ---- Refusals.

-- After a good beginning with k, n, m and the tally s, and `room` bytes left of the output, the rest of a file from the offset `at` is refused.
pub data Refuses (at : ℕ) (s : Tally) (room : ℕ) : ℕ → ℕ → ℕ → List ℕ → Refusal → Type 0 where
  -- A byte after the last record of block 18.
  after_end : {m : ℕ} (b : ℕ) (more : List ℕ) → Refuses at s room block_count 0 m (b ∷ more) (ByteAfterEnd at)
  -- A byte other than a line feed, with which no record can go on.
  bad_byte : {k n m : ℕ} (xs : List ℕ) (b : ℕ) (more : List ℕ) → Awaits k n
      → CanBegin n xs → (b ≡ feed → ⊥) → (CanBegin n (xs ++ (b ∷ [])) → ⊥)
      → Refuses at s room k n m (xs ++ (b ∷ more)) (BadByte (at + length xs))
  -- A line feed before the record is whole.
  early_feed : {k n m : ℕ} (xs more : List ℕ) → Awaits k n → CanBegin n xs → (IsWhole n xs → ⊥)
      → Refuses at s room k n m (xs ++ (feed ∷ more)) (BadByte (at + length xs))
  -- The line feed of a heading that is of another version, of no block, or not in its order.
  out_of_order : {k m : ℕ} (h : Heading) (more : List ℕ) → k < block_count → GoodHeading h
      → in_order k h.version h.coordinate h.power ≡ false
      → Refuses at s room k 0 m (heading_bytes h ++ (feed ∷ more)) (BadHeading (at + length (heading_bytes h)))
  -- Of a heading in its order whose count is over its limit.
  count_over : {k m : ℕ} (h : Heading) (more : List ℕ) → k < block_count → GoodHeading h
      → in_order k h.version h.coordinate h.power ≡ true → count_fits s (count h.count) ≡ false
      → Refuses at s room k 0 m (heading_bytes h ++ (feed ∷ more)) (OverLimit (at + length (heading_bytes h)))
  -- Of a term record whose running number is not the next.
  wrong_number : {k n m : ℕ} (t : TermRecord) (more : List ℕ) → GoodRecord t → (count t.number ≡ m + 1 → ⊥)
      → Refuses at s room k (suc n) m (record_bytes t ++ (feed ∷ more)) (BadNumber (at + length (record_bytes t)))
  -- Of one with the next running number, and a number over its limit. (A minus before b is over its limit.)
  number_over : {k n m : ℕ} (t : TermRecord) (more : List ℕ) → GoodRecord t → count t.number ≡ m + 1 → (NumbersInLimits (cut_term t) → ⊥)
      → Refuses at s room k (suc n) m (record_bytes t ++ (feed ∷ more)) (OverLimit (at + length (record_bytes t)))
  -- Of one with which the block's total is over its limit.
  total_over : {k n m : ℕ} (t : TermRecord) (more : List ℕ) → GoodRecord t → count t.number ≡ m + 1 → NumbersInLimits (cut_term t)
      → total_fits s (value t.a) ≡ false
      → Refuses at s room k (suc n) m (record_bytes t ++ (feed ∷ more)) (TotalOverLimit (at + length (record_bytes t)))
  -- Of one with which the coordinate is too coarse.
  too_coarse : {k n m : ℕ} (t : TermRecord) (more : List ℕ) → GoodRecord t → count t.number ≡ m + 1 → NumbersInLimits (cut_term t)
      → total_fits s (value t.a) ≡ true → coarse_fits (factor (k - 1)) s (value t.a) (size t.b) (value t.c) ≡ false
      → Refuses at s room k (suc n) m (record_bytes t ++ (feed ∷ more)) (TooCoarse (at + length (record_bytes t)))
  -- Of a record in its order and within all limits whose packed form has no room; for a heading together with the zero counts of the blocks left
  -- out before it.
  no_room_heading : {k m : ℕ} (h : Heading) (more : List ℕ) → k < block_count → GoodHeading h
      → in_order k h.version h.coordinate h.power ≡ true → count_fits s (count h.count) ≡ true
      → room < length (any_packed (cut_one k (a_heading h)))
      → Refuses at s room k 0 m (heading_bytes h ++ (feed ∷ more)) (NoRoom (at + length (heading_bytes h)))
  no_room_record : {k n m : ℕ} (t : TermRecord) (more : List ℕ) → GoodRecord t → count t.number ≡ m + 1
      → TermInLimits (factor (k - 1)) s (cut_term t) → room < length (any_packed (cut_one k (a_record t)))
      → Refuses at s room k (suc n) m (record_bytes t ++ (feed ∷ more)) (NoRoom (at + length (record_bytes t)))

-- ---- Answers, each with the output afterwards: the packed form of what was cut out, and nothing else of it is touched.

-- The counts of the blocks that never came.
abbrev pub missing_packed : ℕ → List ℕ
missing_packed k = any_packed (zero_lines (block_count - k))

-- The answer to a file with its end.
pub data Answers (file out : List ℕ) : Outcome → List ℕ → Type 0 where
  -- It ends between two blocks, or after block 18, and the counts of those that never came have room.
  accepts : {rs : List AnyRecord} {k m : ℕ} {s : Tally} {room : ℕ} → Stands file out rs k 0 m s [] room → length (missing_packed k) ≤ room
      → Answers file out (Accepted (length (packed_so_far rs ++ missing_packed k))) (sets out 0 (packed_so_far rs ++ missing_packed k))
  -- They have none: the refusal has the number of the file's bytes.
  no_room_at_end : {rs : List AnyRecord} {k m : ℕ} {s : Tally} {room : ℕ} → Stands file out rs k 0 m s [] room → room < length (missing_packed k)
      → Answers file out (Refused (NoRoom (length file))) (sets out 0 (packed_so_far rs))
  -- A byte of it is refused.
  refuses : {rs : List AnyRecord} {k n m : ℕ} {s : Tally} {rest : List ℕ} {room : ℕ} {f : Refusal}
      → Stands file out rs k n m s rest room → Refuses (length (file_bytes rs)) s room k n m rest f
      → Answers file out (Refused f) (sets out 0 (packed_so_far rs))
  -- It ends inside a record, or before the block's last.
  ends_early : {rs : List AnyRecord} {k n m : ℕ} {s : Tally} {rest : List ℕ} {room : ℕ}
      → Stands file out rs k n m s rest room → Awaits k n → CanBegin n rest → (n ≡ 0 → rest ≡ [] → ⊥)
      → Answers file out (Refused (EndedEarly (length file))) (sets out 0 (packed_so_far rs))

-- The answer to a file that has not ended.
pub data AnswersSoFar (file out : List ℕ) : Outcome → List ℕ → Type 0 where
  -- The series is whole: it can only end.
  complete : {rs : List AnyRecord} {m : ℕ} {s : Tally} {room : ℕ} → Stands file out rs block_count 0 m s [] room
      → AnswersSoFar file out (More (length (packed_so_far rs))) (sets out 0 (packed_so_far rs))
  -- A byte of it is refused.
  refused : {rs : List AnyRecord} {k n m : ℕ} {s : Tally} {rest : List ℕ} {room : ℕ} {f : Refusal}
      → Stands file out rs k n m s rest room → Refuses (length (file_bytes rs)) s room k n m rest f
      → AnswersSoFar file out (Refused f) (sets out 0 (packed_so_far rs))
  -- A record may come, or go on.
  goes_on : {rs : List AnyRecord} {k n m : ℕ} {s : Tally} {rest : List ℕ} {room : ℕ}
      → Stands file out rs k n m s rest room → Awaits k n → CanBegin n rest
      → AnswersSoFar file out (More (length (packed_so_far rs))) (sets out 0 (packed_so_far rs))
