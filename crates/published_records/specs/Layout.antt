-- The records of a published VSOP87D file (RULES, "Published files"): lines of columns, counted from 1. A figure stands to the right in its
-- columns, with spaces to its left; in a free column any byte but a line feed may stand.
-- published_promises/proofs/Decided.antt (`answers`, `decided`) shows that the reader takes exactly these records.
use Rattle.std.specs.Prelude.{◌≡◌, List, [], ◌∷◌, ◌++◌, ℕ, ◌+◌, ◌-◌, ◌<◌, length}
use Rattle.series_lines.specs.Grammar.{feed, spaces, digit_0, CountLine, count_bytes, GoodCount, Decimal, decimal, GoodDecimal, TermLine}

-- ---- Columns.

-- Of a heading: version, coordinate and power have one column each, the number of terms several.
abbrev pub version_column : ℕ
version_column = 18

abbrev pub coordinate_column : ℕ
coordinate_column = 42

abbrev pub power_column : ℕ
power_column = 60

abbrev pub count_first : ℕ
count_first = 61

abbrev pub count_last : ℕ
count_last = 67

-- Of a term: its running number, and a, b and c.
abbrev pub number_first : ℕ
number_first = 6

abbrev pub number_last : ℕ
number_last = 10

abbrev pub a_first : ℕ
a_first = 80

abbrev pub a_last : ℕ
a_last = 97

abbrev pub b_first : ℕ
b_first = 98

abbrev pub b_last : ℕ
b_last = 111

abbrev pub c_first : ℕ
c_first = 112

abbrev pub c_last : ℕ
c_last = 131

-- No line feed among these bytes.
unfoldable pub NoFeed : List ℕ → Type 0
NoFeed [] = Unit {0}
NoFeed (x ∷ xs) = (x ≡ feed → ⊥) × NoFeed xs

-- n free columns.
pub record Free (n : ℕ) (xs : List ℕ) : Type 0 where
  pub columns : length xs ≡ n
  pub no_feed : NoFeed xs

-- ---- A heading record, before its line feed.

pub record Heading : Type 0 where
  pub before_version : List ℕ
  pub version : ℕ
  pub before_coordinate : List ℕ
  pub coordinate : ℕ
  pub before_power : List ℕ
  pub power : ℕ
  pub count_indent : ℕ
  pub count : CountLine
  pub after : List ℕ

-- Its bytes.
unfoldable pub heading_bytes : Heading → List ℕ
heading_bytes h =
    h.before_version ++ ((digit_0 + h.version)
    ∷ (h.before_coordinate ++ ((digit_0 + h.coordinate)
    ∷ (h.before_power ++ ((digit_0 + h.power)
    ∷ (spaces h.count_indent ++ (count_bytes h.count ++ h.after)))))))

-- A heading as it may stand in a file, by its columns; its version, block and order (13) and its limits are judged at the line feed.
pub record GoodHeading (h : Heading) : Type 0 where
  pub before_version : Free (version_column - 1) h.before_version
  pub version : h.version < 10
  pub before_coordinate : Free (coordinate_column - version_column - 1) h.before_coordinate
  pub coordinate : h.coordinate < 10
  pub before_power : Free (power_column - coordinate_column - 1) h.before_power
  pub power : h.power < 10
  pub count : GoodCount h.count
  pub count_right : h.count_indent + length (count_bytes h.count) ≡ count_last - count_first + 1
  pub after : NoFeed h.after

-- ---- A term record, before its line feed.

pub record TermRecord : Type 0 where
  pub before_number : List ℕ
  pub number_indent : ℕ
  pub number : CountLine
  pub before_a : List ℕ
  pub a_indent : ℕ
  pub a : Decimal
  pub b_indent : ℕ
  pub b : Decimal
  pub c_indent : ℕ
  pub c : Decimal
  pub after : ℕ

-- Its bytes; after c only spaces.
unfoldable pub record_bytes : TermRecord → List ℕ
record_bytes t =
    t.before_number
    ++ (spaces t.number_indent ++ (count_bytes t.number
    ++ (t.before_a
    ++ (spaces t.a_indent ++ (decimal t.a
    ++ (spaces t.b_indent ++ (decimal t.b
    ++ (spaces t.c_indent ++ (decimal t.c
    ++ spaces t.after)))))))))

-- A term record as it may stand in a file, by its columns; its running number (14) and its limits are judged at the line feed. A decimal has
-- eleven digits after its point, so the points stand in columns 86, 100 and 120.
pub record GoodRecord (t : TermRecord) : Type 0 where
  pub before_number : Free (number_first - 1) t.before_number
  pub number : GoodCount t.number
  pub number_right : t.number_indent + length (count_bytes t.number) ≡ number_last - number_first + 1
  pub before_a : Free (a_first - number_last - 1) t.before_a
  pub a : GoodDecimal t.a
  pub a_right : t.a_indent + length (decimal t.a) ≡ a_last - a_first + 1
  pub b : GoodDecimal t.b
  pub b_right : t.b_indent + length (decimal t.b) ≡ b_last - b_first + 1
  pub c : GoodDecimal t.c
  pub c_right : t.c_indent + length (decimal t.c) ≡ c_last - c_first + 1

-- The line that somebody who cuts the columns out writes for it: its three figures, parted by single spaces.
abbrev pub cut_term : TermRecord → TermLine
cut_term t = record { lead = 0; a = t.a; after_a = 0; b = t.b; after_b = 0; c = t.c }
