-- One record of a published file (Layout.antt), read a byte at a time: what has come of it, and which bytes may go on. The figures go through
-- the lexer of a series text, so that after each of a, b and c the line is what the hand-cut line would have left. The running number is no part
-- of the hand-cut line: it is kept beside it.
use Rattle.std.specs.Prelude.{Bool, true, false, cond, ◌&&◌, List, [], ◌∷◌, ℕ, ◌+◌, ◌-◌, leb, ltb, eqb}
use Rattle.series_lines.specs.declared.Line.{Line}
use Rattle.series_lines.specs.Grammar.{space, minus_sign, point, digit_0, count_digits, whole_digits, part_digits}
use Rattle.series_lines.specs.Lexer.{spot_decimal, spot_count, fresh, bad, with_space, lex, whole_count}
use Rattle.published_records.specs.declared.Row.{Row}
use Rattle.published_records.specs.declared.Kind.{Kind}
use Rattle.published_records.specs.declared.Kind.TheVariants.{Heading, Term}
use Rattle.published_records.specs.declared.Column.{Column}
use Rattle.published_records.specs.declared.Column.TheVariants.{Filler, Digit, Count, Whole, Point, Part, Blank}
use Rattle.published_records.specs.Layout.{version_column, coordinate_column, power_column, count_first, count_last, number_first, number_last}
use Rattle.published_records.specs.Layout.{a_first, a_last, b_first, b_last, c_first, c_last}

-- ---- What stands in a column.

-- In a heading.
unfoldable pub heading_column : ℕ → Column
heading_column c =
    cond (eqb c version_column) Digit
    (cond (eqb c coordinate_column) Digit
    (cond (eqb c power_column) Digit
    (cond (ltb c count_first) Filler
    (cond (leb c count_last) (Count (count_last - c))
    Filler))))

-- In the field of a decimal, with m columns after this one.
unfoldable pub decimal_column : ℕ → Column
decimal_column m = cond (ltb part_digits m) (Whole (m - part_digits - 1)) (cond (eqb m part_digits) Point Part)

-- In a term record.
unfoldable pub term_column : ℕ → Column
term_column c =
    cond (ltb c number_first) Filler
    (cond (leb c number_last) (Count (number_last - c))
    (cond (ltb c a_first) Filler
    (cond (leb c a_last) (decimal_column (a_last - c))
    (cond (leb c b_last) (decimal_column (b_last - c))
    (cond (leb c c_last) (decimal_column (c_last - c))
    Blank)))))

-- ---- Figures to the right in their columns.

-- No digit of the figure has come.
unfoldable pub no_digit : Line → Bool
no_digit l = cond (eqb l.spot spot_decimal) true (eqb l.spot spot_count)

-- Nothing of it has come but spaces.
unfoldable pub unbegun : Line → Bool
unbegun l = cond (eqb l.spot spot_decimal) (eqb l.minus 0) (eqb l.spot spot_count)

-- A minus or a first digit may come, with w whole columns after this one, in a figure of at most so many whole digits: the digits fill the
-- columns that are left, and a first digit 0 stands alone.
unfoldable pub may_begin : ℕ → ℕ → ℕ → Bool
may_begin w most byte =
    cond (eqb byte minus_sign) (leb 1 w && leb w most)
    (cond (eqb byte digit_0) (eqb w 0) (ltb w most))

-- A byte in a whole column of a figure.
unfoldable pub in_whole : ℕ → ℕ → Line → ℕ → Line
in_whole w most l byte =
    cond (eqb byte space) (cond (unbegun l) (cond (leb 1 w) l bad) bad)
    (cond (eqb byte point) bad
    (cond (no_digit l) (cond (may_begin w most byte) (lex l byte) bad) (lex l byte)))

-- ---- Rows.

-- The columns after c are not told apart.
abbrev pub column_limit : ℕ
column_limit = c_last + 1

-- A record of which nothing is read.
abbrev pub fresh_row : Row
fresh_row = record { column = 1; line = fresh spot_count; version = 0; coordinate = 0; power = 0; number = 0 }

-- The column of the next byte.
unfoldable pub next_column : ℕ → ℕ
next_column c = cond (ltb c column_limit) (c + 1) column_limit

-- The row with another line.
abbrev pub put_line : Row → Line → Row
put_line r l =
    record { column = r.column; line = l; version = r.version; coordinate = r.coordinate; power = r.power; number = r.number }

-- The row one column further, with another line.
abbrev pub moved : Row → Line → Row
moved r l =
    record {
      column = next_column r.column;
      line = l;
      version = r.version;
      coordinate = r.coordinate;
      power = r.power;
      number = r.number;
    }

-- A digit of version, coordinate or power: they come in this order, so each new digit moves those before it up.
unfoldable pub with_figure : Row → ℕ → Row
with_figure r byte =
    cond (leb digit_0 byte && ltb byte (digit_0 + 10))
    (record {
      column = next_column r.column;
      line = r.line;
      version = r.coordinate;
      coordinate = r.power;
      power = byte - digit_0;
      number = r.number;
    })
    (moved r bad)

-- Before a: the running number is kept, and a decimal follows.
abbrev pub with_number : Row → Row
with_number r =
    record {
      column = r.column;
      line = cond (whole_count r.line) (fresh spot_decimal) bad;
      version = r.version;
      coordinate = r.coordinate;
      power = r.power;
      number = r.line.value;
    }

-- At the first column of a, b or c the field before it has ended and is kept, as a space keeps a decimal in a text.
unfoldable pub entered : Row → Row
entered r =
    cond (eqb r.column a_first) (with_number r)
    (cond (eqb r.column b_first) (put_line r (with_space r.line))
    (cond (eqb r.column c_first) (put_line r (with_space r.line))
    r))

-- A byte in a column.
unfoldable pub in_column : Column → Row → ℕ → Row
in_column Filler r byte = moved r r.line
in_column Digit r byte = with_figure r byte
in_column (Count w) r byte = moved r (in_whole w count_digits r.line byte)
in_column (Whole w) r byte = moved r (in_whole w whole_digits r.line byte)
in_column Point r byte = moved r (cond (eqb byte point) (lex r.line byte) bad)
in_column Part r byte = moved r (lex r.line byte)
in_column Blank r byte = moved r (cond (eqb byte space) r.line bad)

-- One byte of a heading, and of a term record, before the line feed.
unfoldable pub lex_heading : Row → ℕ → Row
lex_heading r byte = in_column (heading_column r.column) r byte

unfoldable pub lex_term : Row → ℕ → Row
lex_term r byte = in_column (term_column r.column) (entered r) byte

-- Of either: what follows speaks of a heading, or not.
abbrev pub is_heading : Kind → Bool
is_heading Heading = true
is_heading Term = false

unfoldable pub lex_row : Bool → Row → ℕ → Row
lex_row heading r byte = cond heading (lex_heading r byte) (lex_term r byte)

-- The bytes of a record before its line feed.
unfoldable pub lex_rows : Bool → Row → List ℕ → Row
lex_rows heading r [] = r
lex_rows heading r (byte ∷ bytes) = lex_rows heading (lex_row heading r byte) bytes

-- The line feed may come: all columns of figures are filled.
unfoldable pub whole_row : Bool → Row → Bool
whole_row heading r = cond heading (ltb count_last r.column) (ltb c_last r.column)
