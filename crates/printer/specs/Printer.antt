-- RULES, "Series, as text and packed": the plain text. A text is lines of the reader's grammar (crate series_lines, specs/Grammar.antt); here is which
-- lines the printer gives, and what it answers and leaves.
use Rattle.std.specs.Prelude.{Bool, false, cond, List, [], ◌∷◌, ◌++◌, map, ℕ, zero, suc, ◌+◌, ◌*◌, ◌/◌, ◌%◌, ◌^◌, leb, ltb, nat_abs, length}
use Rattle.std.proofs.lemmas.List.Edits.{sets}
use Rattle.integers.specs.Signs.{negative}
use Rattle.units.specs.Units as units
use Rattle.units.specs.Units.{block_count, series_limit}
use Rattle.units.specs.declared.Refusal.TheVariants.{NoRoom}
use Rattle.limits.specs.declared.Term.{Term}
use Rattle.packed.specs.Series.{Parsed, accepted, refused}
use Rattle.series_lines.specs.Grammar.{count_digits, part_digits, Decimal, CountLine, TermLine, Block, blocks_bytes}
use Rattle.std.specs.Prelude.{Err, Ok, Result}
use Rattle.units.specs.declared.Refusal.{Refusal}

-- The last n digits of v, leading zeros too.
unfoldable pub last_digits : ℕ → ℕ → List ℕ
last_digits zero v = []
last_digits (suc n) v = last_digits n (v / 10) ++ (v % 10) ∷ []

-- How many digits v has after its first, counted up to n. A number of 64 bits has at most 19.
unfoldable pub further : ℕ → ℕ → ℕ
further zero v = 0
further (suc n) v = cond (ltb v 10) 0 (suc (further n (v / 10)))

unfoldable pub further_digits : ℕ → ℕ
further_digits v = further 19 v

-- A whole number with no needless leading zero: its first digit, and the digits after it.
unfoldable pub first_digit : ℕ → ℕ
first_digit v = v / 10 ^ further_digits v

unfoldable pub rest_digits : ℕ → List ℕ
rest_digits v = last_digits (further_digits v) v

-- A number of parts as a decimal, with a minus or none.
unfoldable pub plain_decimal : Bool → ℕ → Decimal
plain_decimal minus v =
    record {
      minus = minus;
      first = first_digit (v / units.parts);
      more = rest_digits (v / units.parts);
      parts = last_digits part_digits v;
    }

-- A count, a term, a block, each as its lines: no leading space, and none beside the one that parts two decimals.
unfoldable pub plain_count : ℕ → CountLine
plain_count n = record { first = first_digit n; more = rest_digits n }

unfoldable pub plain_term : Term → TermLine
plain_term t =
    record {
      lead = 0;
      a = plain_decimal (negative t.a) (nat_abs t.a);
      after_a = 0;
      b = plain_decimal false t.b;
      after_b = 0;
      c = plain_decimal (negative t.c) (nat_abs t.c);
    }

unfoldable pub plain_block : List Term → Block
plain_block ts = record { head = plain_count (length ts); lines = map plain_term ts }

-- The plain text of a series.
unfoldable pub plain_text : List (List Term) → List ℕ
plain_text blocks = blocks_bytes (map plain_block blocks)

-- The most bytes of a line within the limits of a series, with its line feed: of a count; and of a term, which has a minus before a and before
-- c, whole digits of a, b and c, three points with the parts after them, and two spaces.
abbrev pub count_line_limit : ℕ
count_line_limit = count_digits + 1

abbrev pub term_line_limit : ℕ
term_line_limit = 2 + (5 + 1 + 6) + 3 * (1 + part_digits) + 2 + 1

-- No plain text of an accepted series is longer.
abbrev pub text_limit : ℕ
text_limit = block_count * count_line_limit + series_limit * term_line_limit

-- The printer, of what a packed series is parsed to: its refusal; then 7 with the length that the text would need. On a refusal the lent
-- buffer stays as it was, on a success what lies past the text.
unfoldable pub text_fits : List (List Term) → List ℕ → Bool
text_fits blocks out = leb (length (plain_text blocks)) (length out)

unfoldable pub printed : Parsed → List ℕ → Result ℕ Refusal
printed (accepted blocks) out = cond (text_fits blocks out) (Ok (length (plain_text blocks))) (Err (NoRoom (length (plain_text blocks))))
printed (refused r) out = Err r

unfoldable pub printed_out : Parsed → List ℕ → List ℕ
printed_out (accepted blocks) out = cond (text_fits blocks out) (sets out 0 (plain_text blocks)) out
printed_out (refused r) out = out
