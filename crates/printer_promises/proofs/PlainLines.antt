-- The plain lines follow the grammar with the numbers that they print, and plain lines are what is printed of their numbers. Assumes nothing.
use mathlib.Core.Path.{◌≡◌, refl, sym, ap, ◌∙◌}
use mathlib.Core.Bool.{Bool, true, false}
use Prim.Native.Nat.{ℕ, zero, suc, ◌*◌, ◌/◌, ◌^◌, ◌<◌}
use native.Mathlib.Omega.{arith}
use lib.IntN.{ℤ, pos, negsuc, nat_abs}
use Rattle.integers.specs.Signs.{negative, sgn}
use Rattle.integers.proofs.Division.{sgn_nat_abs}
use Rattle.integers.proofs.Order.{nat_abs_sgn}
use Rattle.units.specs.Units as units
use Rattle.limits.specs.declared.Term.{Term}
use Rattle.series_lines.specs.Grammar.{part_digits, numeral, Decimal, size, value, GoodDecimal, CountLine, count, GoodCount}
use Rattle.series_lines.specs.Grammar.{TermLine, GoodTerm, term_of_line}
use Rattle.printer.specs.Printer.{last_digits, plain_decimal, plain_count, plain_term}
use Rattle.printer.proofs.DigitsWritten.{length_last}
use Rattle.printer_promises.proofs.Spacing.{PlainLine}
use Rattle.printer_promises.proofs.DigitsAndNumbers.{all_last, numeral_last, natural_good, natural_value, natural_unique, written}

-- A decimal and its number.
pub size_plain : (minus : Bool) (v : ℕ) → size (plain_decimal minus v) ≡ v
unfolding size plain_decimal
size_plain minus v = rw (natural_value (v / units.parts)) (numeral_last part_digits v)

pub decimal_good : (minus : Bool) (v : ℕ) → v < 1000000 * units.parts → (minus ≡ true → 0 < v) → GoodDecimal (plain_decimal minus v)
unfolding plain_decimal
decimal_good minus v h z =
    record {
      whole = natural_good 5 (v / units.parts) (omega arith) (omega arith);
      digits = all_last part_digits v;
      eleven = length_last part_digits v;
      zero = λ e. rw (size_plain minus v) (z e);
    }

pub value_plain : (z : ℤ) → value (plain_decimal (negative z) (nat_abs z)) ≡ z
unfolding value
value_plain z = rw (size_plain (negative z) (nat_abs z)) (unfold plain_decimal in sgn_nat_abs z)

above_zero : (z : ℤ) → negative z ≡ true → 0 < nat_abs z
unfolding negative
above_zero (pos n) e = let q : ◌≡◌ {A = ℕ} 0 1 = cc in absurd (omega arith)
above_zero (negsuc n) e = omega arith

pub number_good : (z : ℤ) → nat_abs z < 1000000 * units.parts → GoodDecimal (plain_decimal (negative z) (nat_abs z))
number_good z h = decimal_good (negative z) (nat_abs z) h (above_zero z)

-- And back.
pub decimal_unique : (d : Decimal) → GoodDecimal d → plain_decimal d.minus (size d) ≡ d
unfolding plain_decimal size
decimal_unique d g =
    let n = numeral d.first d.more in
    let w = written d.parts n g.digits in
    let u = natural_unique 6 d.first d.more g.whole (omega arith) in
    let b : numeral n d.parts / 10 ^ part_digits ≡ n = rw g.eleven at w.before in
    let l : last_digits part_digits (numeral n d.parts) ≡ d.parts = rw g.eleven at w.last in
    rw (l, b, u.one, u.rest)

negative_sgn : (m : Bool) (v : ℕ) → (m ≡ true → 0 < v) → negative (sgn m v) ≡ m
unfolding negative sgn
negative_sgn false v h = refl
negative_sgn true zero h = absurd (omega (arith, h refl))
negative_sgn true (suc v) h = refl

pub value_unique : (d : Decimal) → GoodDecimal d → plain_decimal (negative (value d)) (nat_abs (value d)) ≡ d
unfolding value
value_unique d g = rw (nat_abs_sgn d.minus (size d), negative_sgn d.minus (size d) g.zero) (decimal_unique d g)

-- A count.
pub count_plain : (n : ℕ) → count (plain_count n) ≡ n
unfolding count plain_count
count_plain n = natural_value n

pub count_good : (n : ℕ) → n < 10000 → GoodCount (plain_count n)
unfolding plain_count
count_good n h = natural_good 3 n (omega arith) (omega arith)

pub count_unique : (k : CountLine) → GoodCount k → plain_count (count k) ≡ k
unfolding plain_count count
count_unique k g = let u = natural_unique 4 k.first k.more g (omega arith) in rw (u.one, u.rest)

-- A term.
whole_is : (t : Term) {x z : ℤ} {y : ℕ} → t.a ≡ x → t.b ≡ y → t.c ≡ z → record { a = x; b = y; c = z } ≡ t
whole_is t p q r = rw (← p, ← q, ← r)

pub term_plain : (t : Term) → term_of_line (plain_term t) ≡ t
unfolding plain_term
term_plain t = whole_is t (sym (value_plain t.a)) (sym (size_plain false t.b)) (sym (value_plain t.c))

line_is : (l : TermLine) {x y z : ℕ} → l.lead ≡ x → l.after_a ≡ y → l.after_b ≡ z
    → record { lead = x; a = l.a; after_a = y; b = l.b; after_b = z; c = l.c } ≡ l
line_is l p q r = rw (← p, ← q, ← r)

pub term_unique : (l : TermLine) → GoodTerm l → PlainLine l → l.b.minus ≡ false → plain_term (term_of_line l) ≡ l
unfolding plain_term
term_unique l g p m =
    let b : plain_decimal false (size l.b) ≡ l.b = ap (λ (x : Bool). plain_decimal x (size l.b)) (sym m) ∙ decimal_unique l.b g.b in
    rw (value_unique l.a g.a, value_unique l.c g.c, b) (line_is l p.lead p.after_a p.after_b)
