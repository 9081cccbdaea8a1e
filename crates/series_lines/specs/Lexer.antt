-- One line of a text (RULES, "Series, as text and packed"), read a byte at a time: what has come of it, and which bytes may go on.
-- Grammar.antt says what whole lines are; text_promises/proofs/Theorems.antt, that a byte goes on exactly where a line of the grammar does.
use Rattle.std.specs.Prelude.{Bool, true, false, cond, List, [], ◌∷◌, ℕ, ◌+◌, ◌*◌, ◌-◌, leb, ltb, eqb}
use Rattle.series_lines.specs.declared.Line.{Line}
use Rattle.series_lines.specs.Grammar.{space, minus_sign, point, digit_0, count_digits, whole_digits, part_digits}

-- Where the next byte of a line stands: before a decimal.
abbrev pub spot_decimal : ℕ
spot_decimal = 0

-- After n of its whole digits it is n; after its point this, and after n of its parts n more.
abbrev pub spot_point : ℕ
spot_point = whole_digits + 1

-- After a whole decimal.
abbrev pub spot_done : ℕ
spot_done = spot_point + part_digits

-- Before a count; after n of its digits it is n more.
abbrev pub spot_count : ℕ
spot_count = 20

-- After block 18.
abbrev pub spot_after : ℕ
spot_after = 30

-- After a byte that cannot continue the line.
abbrev pub spot_bad : ℕ
spot_bad = 31

-- No line has a number of so many parts; a state that no call gave may.
abbrev pub value_limit : ℕ
value_limit = 1000000000000000000

-- A line of which nothing is read.
abbrev pub fresh : ℕ → Line
fresh spot = record { spot = spot; field = 0; minus = 0; value = 0; minusa = 0; a = 0; minusb = 0; b = 0 }

-- A line with a byte that cannot stand in it.
abbrev pub bad : Line
bad = fresh spot_bad

-- A digit that stands first, or after a number that is not 0.
unfoldable pub whole_digit : Bool → ℕ → Bool
whole_digit first value = cond first true (ltb 0 value)

-- A digit d goes on: no whole digit and none of a count too many, none after a leading zero, and no last zero of a minus before zero.
unfoldable pub takes_digit : ℕ → ℕ → ℕ → ℕ → Bool
takes_digit spot minus value d =
    cond (leb value_limit value) false
    (cond (ltb spot whole_digits) (whole_digit (eqb spot spot_decimal) value)
    (cond (ltb spot spot_point) false
    (cond (ltb spot (spot_done - 1)) true
    (cond (ltb spot spot_done) (whole_digit (eqb minus 0) (value + d))
    (cond (ltb spot spot_count) false
    (cond (ltb spot (spot_count + count_digits)) (whole_digit (eqb spot spot_count) value)
    false))))))

-- The line l, put at another spot with another number so far.
abbrev pub put : Line → ℕ → ℕ → ℕ → Line
put l spot minus value =
    record {
      spot = spot;
      field = l.field;
      minus = minus;
      value = value;
      minusa = l.minusa;
      a = l.a;
      minusb = l.minusb;
      b = l.b;
    }

-- The line l before its next decimal: the one that ended is kept, so that after two decimals a and b hold them.
abbrev pub keep : Line → ℕ → ℕ → Line
keep l minus value =
    record {
      spot = spot_decimal;
      field = l.field + 1;
      minus = 0;
      value = 0;
      minusa = l.minusb;
      a = l.b;
      minusb = minus;
      b = value;
    }

-- A digit.
unfoldable pub with_digit : Line → ℕ → Line
with_digit l d =
    cond (takes_digit l.spot l.minus l.value d) (put l (l.spot + 1) l.minus (10 * l.value + d)) bad

-- A point, after whole digits.
unfoldable pub with_point : Line → Line
with_point l =
    cond (leb 1 l.spot) (cond (leb l.spot whole_digits) (put l spot_point l.minus l.value) bad) bad

-- A space, before a decimal, or after the first or the second.
unfoldable pub with_space : Line → Line
with_space l =
    cond (eqb l.spot spot_decimal) (cond (eqb l.minus 0) l bad)
    (cond (eqb l.spot spot_done) (cond (ltb l.field 2) (keep l l.minus l.value) bad)
    bad)

-- A minus, before a decimal.
unfoldable pub with_minus : Line → Line
with_minus l =
    cond (eqb l.spot spot_decimal) (cond (eqb l.minus 0) (put l spot_decimal 1 l.value) bad) bad

-- One byte of a line before its line feed.
unfoldable pub lex : Line → ℕ → Line
lex l byte =
    cond (ltb byte digit_0)
    (cond (eqb byte point) (with_point l)
    (cond (eqb byte space) (with_space l)
    (cond (eqb byte minus_sign) (with_minus l)
    bad)))
    (cond (ltb byte (digit_0 + 10)) (with_digit l (byte - digit_0)) bad)

-- The bytes of a line before its line feed.
unfoldable pub lexes : Line → List ℕ → Line
lexes l [] = l
lexes l (byte ∷ bytes) = lexes (lex l byte) bytes

-- The line feed may come after the digits of a count.
unfoldable pub whole_count : Line → Bool
whole_count l = cond (ltb spot_count l.spot) (ltb l.spot (spot_count + count_digits + 1)) false

-- And after the third decimal.
unfoldable pub whole_term : Line → Bool
whole_term l = cond (eqb l.spot spot_done) (eqb l.field 2) false
