-- What the printer's own functions promise: where a text was written, and the texts of a line, of lines and of a block.
use Rattle.std.specs.Prelude.{◌≡◌, List, [], ◌∷◌, ◌++◌, map, ℕ, ◌+◌, ◌-◌, ◌*◌, ◌≤◌, length}
use Rattle.std.proofs.lemmas.List.Edits.{sets}
use Rattle.limits.specs.declared.Term.{Term}
use Rattle.units.specs.Units.{series_limit}
use Rattle.packed.specs.declared.table.Table.{Table}
use Rattle.packed.specs.Machine.Table.{term_at, terms_at}
use Rattle.series_lines.specs.Grammar.{feed, part_digits, digits, count_bytes, term_bytes, lines_bytes}
use Rattle.printer.specs.Printer.{first_digit, rest_digits, plain_count, plain_term}

-- There is room for a text from at.
abbrev pub Room : List ℕ → ℕ → List ℕ → Type 0
Room text at out = at + length text ≤ length out

-- A text was written from at: the place past it, and the buffer after it.
pub record Wrote (text : List ℕ) (at : ℕ) (out : List ℕ) (to : ℕ) (after : List ℕ) : Type 0 where
  pub end : to ≡ at + length text
  pub holds : after ≡ sets out at text

-- A whole number.
unfoldable pub whole_text : ℕ → List ℕ
whole_text v = digits (first_digit v ∷ rest_digits v)

-- The most digits that a number of 64 bits has after its first, and in all; and the most bytes of a decimal, which has a sign, a point and its
-- parts besides, and of a line, which has three of them, two spaces and its line feed.
abbrev pub further_most : ℕ
further_most = 19

abbrev pub whole_most : ℕ
whole_most = further_most + 1

abbrev pub decimal_most : ℕ
decimal_most = 1 + whole_most + 1 + part_digits

abbrev pub line_most : ℕ
line_most = 3 * decimal_most + 3

-- A term's line and a block's lines, with their line feeds.
unfoldable pub line_text : Term → List ℕ
line_text t = term_bytes (plain_term t) ++ feed ∷ []

unfoldable pub lines_text : List Term → List ℕ
lines_text ts = lines_bytes (map plain_term ts)

unfoldable pub block_text : List Term → List ℕ
block_text ts = count_bytes (plain_count (length ts)) ++ feed ∷ lines_text ts

-- In a table: the line of the term at place k, the lines of the terms at the places from from to end, and the block of those.
abbrev pub line_of : Table → ℕ → List ℕ
line_of rows k = line_text (term_at rows k)

abbrev pub lines_of : Table → ℕ → ℕ → List ℕ
lines_of rows from end = lines_text (terms_at rows from (end - from))

abbrev pub block_of : Table → ℕ → ℕ → List ℕ
block_of rows from end = block_text (terms_at rows from (end - from))

-- The places where blocks end, the first of which starts at place p: in order, and within the table.
unfoldable pub Ordered : ℕ → List ℕ → Type 0
Ordered p [] = p ≤ series_limit
Ordered p (e ∷ ends) = (p ≤ e) × Ordered e ends
