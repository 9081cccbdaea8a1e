-- What the code asks of a run of free columns. Held by the code, no part of the rules.
use Rattle.std.specs.Prelude.{Bool, cond, List, ◌≡◌, ℕ, ◌+◌, ◌≤◌, leb, ltb, length}
use Rattle.series_lines.specs.Lexer.{spot_bad}
use Rattle.series_lines.specs.Reader.{last_offset}
use Rattle.published_records.specs.declared.Row.{Row}
use Rattle.published_records.specs.Layout.{version_column, coordinate_column, power_column, count_last, number_first, number_last, a_first, NoFeed}
use Rattle.published_records.specs.Rows.{column_limit, lex_rows}
use Rattle.published_records.specs.Machine.Runs.{between, RunsOn}

-- After the count of a heading all columns are free: no column is so large.
abbrev pub no_end : ℕ
no_end = last_offset

-- The first column from c on that is not free, in a heading and in a term record.
unfoldable pub heading_end : ℕ → ℕ
heading_end c =
    cond (leb c version_column) version_column
    (cond (leb c coordinate_column) coordinate_column
    (cond (leb c power_column) power_column
    (cond (leb c count_last) c
    no_end)))

unfoldable pub term_end : ℕ → ℕ
term_end c =
    cond (leb c number_first) number_first
    (cond (leb c number_last) c
    (cond (leb c a_first) a_first
    c))

-- In either.
unfoldable pub filler_end : Bool → ℕ → ℕ
filler_end heading c = cond heading (heading_end c) (term_end c)

-- The column after n bytes, from column c on.
unfoldable pub held : ℕ → ℕ → ℕ
held c n = cond (ltb (c + n) column_limit) (c + n) column_limit

-- The row at another column.
abbrev pub put_column : Row → ℕ → Row
put_column r c =
    record { column = c; line = r.line; version = r.version; coordinate = r.coordinate; power = r.power; number = r.number }

-- A row after the bytes from one index to another, with no line feed among them; a record that was good goes on with each.
pub record Skips (heading : Bool) (r : Row) (text : List ℕ) (from : ℕ) (after : Row) (next : ℕ) : Type 0 where
  pub onward : from ≤ next
  pub inside : from ≤ length text → next ≤ length text
  pub no_feed : NoFeed (between text from next)
  pub same : after ≡ lex_rows heading r (between text from next)
  pub goes_on : (r.line.spot ≡ spot_bad → ⊥) → RunsOn heading r (between text from next)
