-- What the answer to a text is, and what it leaves (RULES, "Refusals and what they leave"), over the grammar and the limits alone.
-- proofs/Decided.antt shows that the reader gives every text that can be counted exactly this answer.
use Rattle.std.specs.Prelude.{◌≡◌, true, false, List, [], ◌∷◌, ◌++◌, ℕ, zero, suc, ◌+◌, ◌-◌, ◌<◌, length}
use Rattle.std.proofs.lemmas.List.Edits.{sets}
use Rattle.units.specs.Units.{block_count}
use Rattle.units.specs.declared.Refusal.{Refusal}
use Rattle.units.specs.declared.Refusal.TheVariants.{BadByte, OverLimit, TotalOverLimit, TooCoarse, NoRoom, EndedEarly, ByteAfterEnd}
use Rattle.limits.specs.declared.Tally.{Tally}
use Rattle.limits.specs.Limits.{no_tally, opened, added, factor, count_fits, a_fits, b_fits, c_fits, total_fits, coarse_fits}
use Rattle.series_lines.specs.declared.Outcome.{Outcome}
use Rattle.series_lines.specs.declared.Outcome.TheVariants.{More, Accepted, Refused}
use Rattle.series_lines.specs.Grammar.{feed, size, value, CountLine, count, count_bytes, GoodCount, TermLine, term_bytes, GoodTerm, term_of_line}
use Rattle.series_lines.specs.Grammar.{AnyLine, a_count, a_term, line_packed, any_bytes, any_packed, TermInLimits}

-- ---- A good beginning.

-- Lines with which a series can begin, in order: k counts so far, n terms left of the last block, and the tally.
pub data Beginning : List AnyLine → ℕ → ℕ → Tally → Type 0 where
  empty : Beginning [] 0 0 no_tally
  with_count : {ls : List AnyLine} {k : ℕ} {s : Tally} (l : CountLine) → Beginning ls k 0 s
      → k < block_count → GoodCount l → count_fits s (count l) ≡ true
      → Beginning (ls ++ (a_count l ∷ [])) (k + 1) (count l) (opened k (count l) s)
  with_term : {ls : List AnyLine} {k n : ℕ} {s : Tally} (l : TermLine) → Beginning ls k (suc n) s
      → GoodTerm l → TermInLimits (factor (k - 1)) s l
      → Beginning (ls ++ (a_term l ∷ [])) k n (added (factor (k - 1)) s (term_of_line l))

-- A text is such lines and a rest; their packed form leaves room bytes of the output.
pub record Stands (text out : List ℕ) (ls : List AnyLine) (k n : ℕ) (s : Tally) (rest : List ℕ) (room : ℕ) : Type 0 where
  pub beginning : Beginning ls k n s
  pub is : text ≡ any_bytes ls ++ rest
  pub fits : length (any_packed ls) + room ≡ length out

-- ---- The line that comes next: a count where no term is left, else a term.

-- A line must come: the series is not whole.
abbrev pub Awaits : ℕ → ℕ → Type 0
Awaits k n = n ≡ 0 → k < block_count

-- A count line begins with the bytes xs.
pub record BeginsCount (xs : List ℕ) : Type 0 where
  pub rest : List ℕ
  pub c : CountLine
  pub good : GoodCount c
  pub is : xs ++ rest ≡ count_bytes c

-- A term line does.
pub record BeginsTerm (xs : List ℕ) : Type 0 where
  pub rest : List ℕ
  pub t : TermLine
  pub good : GoodTerm t
  pub is : xs ++ rest ≡ term_bytes t

-- The line that comes next can begin with xs.
unfoldable pub CanBegin : ℕ → List ℕ → Type 0
CanBegin zero xs = BeginsCount xs
CanBegin (suc n) xs = BeginsTerm xs

-- The bytes xs are a count line.
pub record IsCount (xs : List ℕ) : Type 0 where
  pub c : CountLine
  pub good : GoodCount c
  pub is : xs ≡ count_bytes c

-- They are a term line.
pub record IsTerm (xs : List ℕ) : Type 0 where
  pub t : TermLine
  pub good : GoodTerm t
  pub is : xs ≡ term_bytes t

-- They are the line that comes next.
unfoldable pub IsLine : ℕ → List ℕ → Type 0
IsLine zero xs = IsCount xs
IsLine (suc n) xs = IsTerm xs

-- ---- Refusals.

-- Each number of a term line is within its limit.
pub record NumbersInLimits (l : TermLine) : Type 0 where
  pub from_zero : l.b.minus ≡ false
  pub a : a_fits (value l.a) ≡ true
  pub b : b_fits (size l.b) ≡ true
  pub c : c_fits (value l.c) ≡ true

-- After a good beginning with k, n and the tally s, and room bytes left of the output, the rest of a text from the offset at is refused.
pub data Refuses (at : ℕ) (s : Tally) (room : ℕ) : ℕ → ℕ → List ℕ → Refusal → Type 0 where
  -- A byte after the last line.
  after_end : (b : ℕ) (more : List ℕ) → Refuses at s room block_count 0 (b ∷ more) (ByteAfterEnd at)
  -- A byte other than a line feed, with which no line can go on.
  bad_byte : {k n : ℕ} (xs : List ℕ) (b : ℕ) (more : List ℕ) → Awaits k n
      → CanBegin n xs → (b ≡ feed → ⊥) → (CanBegin n (xs ++ (b ∷ [])) → ⊥)
      → Refuses at s room k n (xs ++ (b ∷ more)) (BadByte (at + length xs))
  -- A line feed before the line is whole.
  early_feed : {k n : ℕ} (xs more : List ℕ) → Awaits k n → CanBegin n xs → (IsLine n xs → ⊥)
      → Refuses at s room k n (xs ++ (feed ∷ more)) (BadByte (at + length xs))
  -- The line feed of a count, or of a number, over its limit.
  count_over : {k : ℕ} (l : CountLine) (more : List ℕ) → k < block_count → GoodCount l → count_fits s (count l) ≡ false
      → Refuses at s room k 0 (count_bytes l ++ (feed ∷ more)) (OverLimit (at + length (count_bytes l)))
  number_over : {k n : ℕ} (l : TermLine) (more : List ℕ) → GoodTerm l → (NumbersInLimits l → ⊥)
      → Refuses at s room k (suc n) (term_bytes l ++ (feed ∷ more)) (OverLimit (at + length (term_bytes l)))
  -- Of a term with which the block's total is over its limit.
  total_over : {k n : ℕ} (l : TermLine) (more : List ℕ) → GoodTerm l → NumbersInLimits l → total_fits s (value l.a) ≡ false
      → Refuses at s room k (suc n) (term_bytes l ++ (feed ∷ more)) (TotalOverLimit (at + length (term_bytes l)))
  -- Of a term with which the coordinate is too coarse.
  too_coarse : {k n : ℕ} (l : TermLine) (more : List ℕ) → GoodTerm l → NumbersInLimits l → total_fits s (value l.a) ≡ true
      → coarse_fits (factor (k - 1)) s (value l.a) (size l.b) (value l.c) ≡ false
      → Refuses at s room k (suc n) (term_bytes l ++ (feed ∷ more)) (TooCoarse (at + length (term_bytes l)))
  -- Of a line within all limits whose packed form has no room.
  no_room_count : {k : ℕ} (l : CountLine) (more : List ℕ) → k < block_count → GoodCount l → count_fits s (count l) ≡ true
      → room < length (line_packed (a_count l))
      → Refuses at s room k 0 (count_bytes l ++ (feed ∷ more)) (NoRoom (at + length (count_bytes l)))
  no_room_term : {k n : ℕ} (l : TermLine) (more : List ℕ) → GoodTerm l → TermInLimits (factor (k - 1)) s l
      → room < length (line_packed (a_term l))
      → Refuses at s room k (suc n) (term_bytes l ++ (feed ∷ more)) (NoRoom (at + length (term_bytes l)))

-- ---- Answers, each with the output afterwards: the packed form of the lines of the beginning, and nothing else of it is touched.

-- The answer to a text with its end.
pub data Answers (text out : List ℕ) : Outcome → List ℕ → Type 0 where
  accepts : {ls : List AnyLine} {s : Tally} {room : ℕ} → Stands text out ls block_count 0 s [] room
      → Answers text out (Accepted (length (any_packed ls))) (sets out 0 (any_packed ls))
  refuses : {ls : List AnyLine} {k n : ℕ} {s : Tally} {rest : List ℕ} {room : ℕ} {f : Refusal}
      → Stands text out ls k n s rest room → Refuses (length (any_bytes ls)) s room k n rest f
      → Answers text out (Refused f) (sets out 0 (any_packed ls))
  ends_early : {ls : List AnyLine} {k n : ℕ} {s : Tally} {rest : List ℕ} {room : ℕ}
      → Stands text out ls k n s rest room → Awaits k n → CanBegin n rest
      → Answers text out (Refused (EndedEarly (length text))) (sets out 0 (any_packed ls))

-- The answer to a text that has not ended.
pub data AnswersSoFar (text out : List ℕ) : Outcome → List ℕ → Type 0 where
  complete : {ls : List AnyLine} {s : Tally} {room : ℕ} → Stands text out ls block_count 0 s [] room
      → AnswersSoFar text out (More (length (any_packed ls))) (sets out 0 (any_packed ls))
  refused : {ls : List AnyLine} {k n : ℕ} {s : Tally} {rest : List ℕ} {room : ℕ} {f : Refusal}
      → Stands text out ls k n s rest room → Refuses (length (any_bytes ls)) s room k n rest f
      → AnswersSoFar text out (Refused f) (sets out 0 (any_packed ls))
  goes_on : {ls : List AnyLine} {k n : ℕ} {s : Tally} {rest : List ℕ} {room : ℕ}
      → Stands text out ls k n s rest room → Awaits k n → CanBegin n rest
      → AnswersSoFar text out (More (length (any_packed ls))) (sets out 0 (any_packed ls))
