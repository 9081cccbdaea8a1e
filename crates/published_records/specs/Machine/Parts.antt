-- What the code asks of a row that takes digits after a decimal's point in a run. Held by the code, no part of the rules.
use Rattle.std.specs.Prelude.{cond, Option, Some, None, ℕ, ◌+◌, ◌-◌, ◌≤◌, ◌<◌, leb, ltb}
use Rattle.series_lines.specs.Grammar.{part_digits}
use Rattle.series_lines.specs.Lexer.{spot_point, spot_done, put}
use Rattle.published_records.specs.declared.Row.{Row}
use Rattle.published_records.specs.Layout.{a_first, a_last, b_last, c_last}

-- So many columns of a decimal's field stand after column c of a term record, where c is in one.
unfoldable pub decimal_left : ℕ → Option ℕ
decimal_left c =
    cond (ltb c a_first) None
    (cond (leb c a_last) (Some (a_last - c))
    (cond (leb c b_last) (Some (b_last - c))
    (cond (leb c c_last) (Some (c_last - c))
    None)))

-- So many of the last columns of a field take digits after the point, from one with m columns after it.
unfoldable pub parts_left : ℕ → ℕ
parts_left m = cond (ltb m part_digits) (m + 1) 0

-- And from column c of a term record.
unfoldable pub part_columns : ℕ → ℕ
part_columns c =
    cond (ltb c a_first) 0
    (cond (leb c a_last) (parts_left (a_last - c))
    (cond (leb c b_last) (parts_left (b_last - c))
    (cond (leb c c_last) (parts_left (c_last - c))
    0)))

-- A row after a point, with columns for all its parts.
pub record PartsAhead (r : Row) : Type 0 where
  pub begun : spot_point ≤ r.line.spot
  pub early : r.line.spot < spot_done
  pub room : spot_done - r.line.spot ≤ part_columns r.column

-- The row, come to another spot with another value.
abbrev pub row_at : Row → ℕ → ℕ → Row
row_at r spot value =
    record {
      column = r.column + (spot - r.line.spot);
      line = put r.line spot r.line.minus value;
      version = r.version;
      coordinate = r.coordinate;
      power = r.power;
      number = r.number;
    }
