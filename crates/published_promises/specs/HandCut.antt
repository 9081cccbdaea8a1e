-- The series text that somebody cuts by hand out of a published file (RULES, "Published files"): for each heading its count, for each term
-- record its three figures, parted by single spaces, and a line `0` for each block that has no heading.
use Rattle.std.specs.Prelude.{List, [], ◌∷◌, ◌++◌, ℕ, zero, suc, ◌+◌, ◌-◌}
use Rattle.units.specs.Units.{block_count}
use Rattle.series_lines.specs.Grammar.{feed, AnyLine, a_count, a_term, any_bytes}
use Rattle.published_records.specs.Layout.{Heading, heading_bytes, TermRecord, record_bytes, cut_term}
use Rattle.published_headings.specs.Judge.{block_of}

-- A record of either kind.
pub data AnyRecord : Type 0 where
  a_heading : Heading → AnyRecord
  a_record : TermRecord → AnyRecord

-- Its bytes before the line feed.
unfoldable pub any_record_bytes : AnyRecord → List ℕ
any_record_bytes (a_heading h) = heading_bytes h
any_record_bytes (a_record t) = record_bytes t

-- The bytes of records, each with its line feed.
unfoldable pub file_bytes : List AnyRecord → List ℕ
file_bytes [] = []
file_bytes (r ∷ rs) = any_record_bytes r ++ (feed ∷ file_bytes rs)

-- The block of a heading.
abbrev pub heading_block : Heading → ℕ
heading_block h = block_of h.coordinate h.power

-- The line `0`, n times.
abbrev pub zero_line : AnyLine
zero_line = a_count (record { first = 0; more = [] })

unfoldable pub zero_lines : ℕ → List AnyLine
zero_lines zero = []
zero_lines (suc n) = zero_line ∷ zero_lines n

-- What is cut out of one record after k blocks, and how many blocks there are then.
unfoldable pub cut_one : ℕ → AnyRecord → List AnyLine
cut_one k (a_heading h) = zero_lines (heading_block h - k) ++ (a_count h.count ∷ [])
cut_one k (a_record t) = a_term (cut_term t) ∷ []

unfoldable pub blocks_with : ℕ → AnyRecord → ℕ
blocks_with k (a_heading h) = heading_block h + 1
blocks_with k (a_record t) = k

-- The lines cut out of records that follow k blocks; and how many blocks there are after them.
unfoldable pub cut_records : ℕ → List AnyRecord → List AnyLine
cut_records k [] = []
cut_records k (r ∷ rs) = cut_one k r ++ cut_records (blocks_with k r) rs

unfoldable pub blocks_of : ℕ → List AnyRecord → ℕ
blocks_of k [] = k
blocks_of k (r ∷ rs) = blocks_of (blocks_with k r) rs

-- The lines of the text that is cut out of a whole file, and the text.
abbrev pub cut_lines : List AnyRecord → List AnyLine
cut_lines rs = cut_records 0 rs ++ zero_lines (block_count - blocks_of 0 rs)

abbrev pub cut_text : List AnyRecord → List ℕ
cut_text rs = any_bytes (cut_lines rs)
