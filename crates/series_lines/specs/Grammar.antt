-- The texts of a series (RULES, "Series, as text and packed"): bytes, numbers, lines, blocks, and the limits that a text keeps.
-- text_promises/proofs/Theorems.antt shows that the reader takes exactly these texts.
use Rattle.std.specs.Prelude.{◌≡◌, Bool, true, false, List, [], ◌∷◌, ◌++◌, ℕ, zero, suc, ◌+◌, ◌*◌, ◌≤◌, ◌<◌, ℤ, length}
use Rattle.integers.specs.Signs.{sgn}
use Rattle.packed_numbers.specs.Numbers.{encode}
use Rattle.units.specs.Units.{block_count}
use Rattle.limits.specs.declared.Term.{Term}
use Rattle.limits.specs.declared.Tally.{Tally}
use Rattle.limits.specs.Limits.{no_tally, opened, added, after_block, factor, count_fits, a_fits, b_fits, c_fits, total_fits, coarse_fits}
use Rattle.packed.specs.Series.{pack_term}

-- ---- Bytes.

-- A line feed ends a line.
abbrev pub feed : ℕ
feed = 10

-- A space parts two decimals.
abbrev pub space : ℕ
space = 32

-- A minus stands before the digits of a decimal below zero.
abbrev pub minus_sign : ℕ
minus_sign = 45

-- A point stands between the whole digits of a decimal and its parts.
abbrev pub point : ℕ
point = 46

-- The digit 0; the other digits follow it in order.
abbrev pub digit_0 : ℕ
digit_0 = 48

-- n spaces.
unfoldable pub spaces : ℕ → List ℕ
spaces zero = []
spaces (suc n) = space ∷ spaces n

-- A minus or nothing.
unfoldable pub sign : Bool → List ℕ
sign true = minus_sign ∷ []
sign false = []

-- Digits as bytes.
unfoldable pub digits : List ℕ → List ℕ
digits [] = []
digits (d ∷ ds) = (digit_0 + d) ∷ digits ds

-- ---- Numbers.

-- A count has at most so many digits.
abbrev pub count_digits : ℕ
count_digits = 4

-- A decimal has at most so many digits before its point.
abbrev pub whole_digits : ℕ
whole_digits = 6

-- A decimal has exactly so many digits after its point: it is a whole number of parts.
abbrev pub part_digits : ℕ
part_digits = 11

-- Each is a digit.
unfoldable pub AllDigits : List ℕ → Type 0
AllDigits [] = Unit {0}
AllDigits (d ∷ ds) = (d < 10) × AllDigits ds

-- The number that digits write after a number v.
unfoldable pub numeral : ℕ → List ℕ → ℕ
numeral v [] = v
numeral v (d ∷ ds) = numeral (10 * v + d) ds

-- 1 to n digits, the first one and more; a first digit 0 stands alone.
pub record Natural (n first : ℕ) (more : List ℕ) : Type 0 where
  pub digit : first < 10
  pub digits : AllDigits more
  pub few : suc (length more) ≤ n
  pub leading : first ≡ 0 → more ≡ []

-- A decimal: a minus or none, the whole digits (the first one and more), and the digits after the point.
pub record Decimal : Type 0 where
  pub minus : Bool
  pub first : ℕ
  pub more : List ℕ
  pub parts : List ℕ

-- The size of a decimal in parts is the number that all its digits write.
unfoldable pub size : Decimal → ℕ
size d = numeral (numeral d.first d.more) d.parts

-- The value of a decimal in parts is its size with its sign.
unfoldable pub value : Decimal → ℤ
value d = sgn d.minus (size d)

-- The bytes of a decimal.
unfoldable pub decimal : Decimal → List ℕ
decimal d = sign d.minus ++ (digits (d.first ∷ d.more) ++ (point ∷ digits d.parts))

-- A decimal as it may stand in a text: digits in the right number, and a minus only where it is not zero.
pub record GoodDecimal (d : Decimal) : Type 0 where
  pub whole : Natural whole_digits d.first d.more
  pub digits : AllDigits d.parts
  pub eleven : length d.parts ≡ part_digits
  pub zero : d.minus ≡ true → 0 < size d

-- ---- Lines, each before its line feed.

-- A count line: its first digit and more.
pub record CountLine : Type 0 where
  pub first : ℕ
  pub more : List ℕ

-- The count of a count line.
unfoldable pub count : CountLine → ℕ
count l = numeral l.first l.more

-- The bytes of a count line.
unfoldable pub count_bytes : CountLine → List ℕ
count_bytes l = digits (l.first ∷ l.more)

-- A count line as it may stand in a text.
abbrev pub GoodCount : CountLine → Type 0
GoodCount l = Natural count_digits l.first l.more

-- A term line: spaces before a, and after a and after b one space and so many more.
pub record TermLine : Type 0 where
  pub lead : ℕ
  pub a : Decimal
  pub after_a : ℕ
  pub b : Decimal
  pub after_b : ℕ
  pub c : Decimal

-- The bytes of a term line.
unfoldable pub term_bytes : TermLine → List ℕ
term_bytes l =
    spaces l.lead ++ (decimal l.a
    ++ ((space ∷ spaces l.after_a) ++ (decimal l.b
    ++ ((space ∷ spaces l.after_b) ++ decimal l.c))))

-- A term line as it may stand in a text.
pub record GoodTerm (l : TermLine) : Type 0 where
  pub a : GoodDecimal l.a
  pub b : GoodDecimal l.b
  pub c : GoodDecimal l.c

-- The term of a term line. (A b below zero is past its limit.)
abbrev pub term_of_line : TermLine → Term
term_of_line l = record { a = value l.a; b = size l.b; c = value l.c }

-- ---- Lines of either kind, as a text that is refused or has not ended leaves them.

-- A line of either kind.
pub data AnyLine : Type 0 where
  a_count : CountLine → AnyLine
  a_term : TermLine → AnyLine

-- Its bytes before the line feed.
unfoldable pub line_bytes : AnyLine → List ℕ
line_bytes (a_count l) = count_bytes l
line_bytes (a_term l) = term_bytes l

-- Its packed form.
unfoldable pub line_packed : AnyLine → List ℕ
line_packed (a_count l) = encode (count l)
line_packed (a_term l) = pack_term (term_of_line l)

-- The bytes of lines, each with its line feed.
unfoldable pub any_bytes : List AnyLine → List ℕ
any_bytes [] = []
any_bytes (l ∷ ls) = line_bytes l ++ (feed ∷ any_bytes ls)

-- The packed form of lines.
unfoldable pub any_packed : List AnyLine → List ℕ
any_packed [] = []
any_packed (l ∷ ls) = line_packed l ++ any_packed ls

-- ---- Blocks and texts.

-- A block: a count line, then term lines.
pub record Block : Type 0 where
  pub head : CountLine
  pub lines : List TermLine

-- The bytes of term lines, each with its line feed.
unfoldable pub lines_bytes : List TermLine → List ℕ
lines_bytes [] = []
lines_bytes (l ∷ ls) = term_bytes l ++ (feed ∷ lines_bytes ls)

-- The bytes of blocks.
unfoldable pub blocks_bytes : List Block → List ℕ
blocks_bytes [] = []
blocks_bytes (k ∷ ks) = count_bytes k.head ++ (feed ∷ (lines_bytes k.lines ++ blocks_bytes ks))

-- The terms of term lines.
unfoldable pub terms_of_lines : List TermLine → List Term
terms_of_lines [] = []
terms_of_lines (l ∷ ls) = term_of_line l ∷ terms_of_lines ls

-- The terms of each block.
unfoldable pub blocks_of_lines : List Block → List (List Term)
blocks_of_lines [] = []
blocks_of_lines (k ∷ ks) = terms_of_lines k.lines ∷ blocks_of_lines ks

-- Each term line may stand in a text.
unfoldable pub AllGood : List TermLine → Type 0
AllGood [] = Unit {0}
AllGood (l ∷ ls) = GoodTerm l × AllGood ls

-- Each block has as many term lines as its count says, and its lines may stand in a text.
unfoldable pub GoodBlocks : List Block → Type 0
GoodBlocks [] = Unit {0}
GoodBlocks (k ∷ ks) = GoodCount k.head × (length k.lines ≡ count k.head) × AllGood k.lines × GoodBlocks ks

-- The blocks of a text of a series: all of them, and nothing more.
pub record GoodText (ks : List Block) : Type 0 where
  pub eighteen : length ks ≡ block_count
  pub good : GoodBlocks ks

-- ---- Limits, judged over the part of the series so far.

-- A term, in a block with factor f after the tally s, passes no limit.
pub record TermInLimits (f : ℕ) (s : Tally) (l : TermLine) : Type 0 where
  pub from_zero : l.b.minus ≡ false
  pub a : a_fits (value l.a) ≡ true
  pub b : b_fits (size l.b) ≡ true
  pub c : c_fits (value l.c) ≡ true
  pub total : total_fits s (value l.a) ≡ true
  pub coarse : coarse_fits f s (value l.a) (size l.b) (value l.c) ≡ true

-- Terms, in a block with factor f after the tally s, pass no limit.
unfoldable pub TermsInLimits : ℕ → Tally → List TermLine → Type 0
TermsInLimits f s [] = Unit {0}
TermsInLimits f s (l ∷ ls) = TermInLimits f s l × TermsInLimits f (added f s (term_of_line l)) ls

-- Blocks, the first of them block k after the tally s, pass no limit.
unfoldable pub BlocksInLimits : ℕ → Tally → List Block → Type 0
BlocksInLimits k s [] = Unit {0}
BlocksInLimits k s (b ∷ bs) =
    (count_fits s (count b.head) ≡ true)
    × TermsInLimits (factor k) (opened k (count b.head) s) b.lines
    × BlocksInLimits (k + 1) (after_block k s (terms_of_lines b.lines)) bs

-- A text passes no limit.
abbrev pub InLimits : List Block → Type 0
InLimits ks = BlocksInLimits 0 no_tally ks
