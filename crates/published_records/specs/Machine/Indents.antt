-- What the code asks of a run of spaces before a figure. Held by the code, no part of the rules.
use Rattle.std.specs.Prelude.{true, cond, ◌≡◌, ℕ, ◌-◌, ◌≤◌, ◌<◌, leb}
use Rattle.series_lines.specs.Grammar.{part_digits}
use Rattle.published_records.specs.declared.Row.{Row}
use Rattle.published_records.specs.Layout.{number_first, number_last, a_first, a_last, c_first, c_last}
use Rattle.published_records.specs.Rows.{unbegun}

-- The last whole columns of a and of c; b has no spaces after its first column.
abbrev pub a_whole : ℕ
a_whole = a_last - part_digits - 1

abbrev pub c_whole : ℕ
c_whole = c_last - part_digits - 1

-- The last whole column of the figure that column c is in; 0 in free columns, at the first column of a and of c, in b and from a point on.
unfoldable pub last_whole : ℕ → ℕ
last_whole c =
    cond (leb c number_last) number_last
    (cond (leb c a_first) 0
    (cond (leb c a_whole) a_whole
    (cond (leb c c_first) 0
    (cond (leb c c_whole) c_whole
    0))))

-- A row before the last whole column of a figure, of which nothing has come but spaces.
pub record IndentAhead (r : Row) : Type 0 where
  pub inside : number_first ≤ r.column
  pub early : r.column < last_whole r.column
  pub none : unbegun r.line ≡ true
