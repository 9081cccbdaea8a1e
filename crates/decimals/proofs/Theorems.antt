-- What is written for a number is a numeral of it, without a leading zero; a text is read as a number exactly where it is a numeral of it, of nine
-- digits that count. Assumes nothing.
use mathlib.Core.Path.{◌≡◌, refl, sym, ap, ◌∙◌, subst}
use mathlib.Core.Bool.{Bool}
use mathlib.Core.List.{List, [], ◌∷◌, ◌++◌}
use Prim.Native.Nat.{ℕ, zero, suc, ◌+◌, ◌*◌, ◌-◌, ◌/◌, ◌%◌, ◌^◌, ◌≤◌, ◌<◌}
use native.Mathlib.Nat.{pow-succ'}
use native.Mathlib.Decide.{dec_le}
use native.Mathlib.Omega.{arith}
use borrow.Author.Tests.{lt-ltb, le-ltb}
use lib.IntN.{ℤ, pos, negsuc, nat_abs}
use lib.ListN.{get_or}
use Rattle.integers.specs.Signs.{negative, sgn}
use Rattle.decimals.specs.Decimals.{zero_digit, most_digits, decimal, written, signed_decimal}
use Rattle.decimals.specs.Numerals.{Digits, value, Numeral, nine_digits, Decided, number, other, OneReading}
use Rattle.decimals.specs.Machine.Reading.{number_of}
use Rattle.std.specs.Prelude.{None, Option, Some}
use Rattle.decimals.proofs.Numbers.{numeral_taken, taken_decides}

-- ---- what is written
value_append : (v : ℕ) (xs ys : List ℕ) → value v (xs ++ ys) ≡ value (value v xs) ys
unfolding value
value_append v [] ys = refl
value_append v (x ∷ xs) ys = value_append (10 * v + (x - zero_digit)) xs ys

digits_append : (xs ys : List ℕ) → Digits xs → Digits ys → Digits (xs ++ ys)
digits_append [] ys p q = q
digits_append (x ∷ xs) ys p q = (p.0, p.1, digits_append xs ys p.2 q)

-- The digits of n are n.
pub decimal_value : (places n : ℕ) → n < 10 ^ places → value 0 (decimal places n) ≡ n
unfolding value decimal
decimal_value zero n h = omega arith
decimal_value (suc places) n h = go (dec_le 10 n) (decimal_value places (n / 10))
  where
    go : Dec (10 ≤ n) → (n / 10 < 10 ^ places → value 0 (decimal places (n / 10)) ≡ n / 10) → value 0 (decimal (suc places) n) ≡ n
    go (yes l) r =
        let e = r (omega (arith, pow-succ' 10 places)) in
        rw (le-ltb n 10 l, value_append 0 (decimal places (n / 10)) ((zero_digit + n % 10) ∷ []), e) (omega arith)
    go (no l) r = let k : n < 10 = omega (arith, l) in rw (lt-ltb n 10 k) (omega arith)

pub decimal_digits : (places n : ℕ) → Digits (decimal places n)
unfolding decimal
decimal_digits zero n = tt
decimal_digits (suc places) n = go (dec_le 10 n) (decimal_digits places (n / 10))
  where
    go : Dec (10 ≤ n) → Digits (decimal places (n / 10)) → Digits (decimal (suc places) n)
    go (yes l) d = rw (le-ltb n 10 l) (digits_append (decimal places (n / 10)) ((zero_digit + n % 10) ∷ []) d (omega arith, omega arith, tt))
    go (no l) d = let k : n < 10 = omega (arith, l) in rw (lt-ltb n 10 k) (omega arith, omega arith, tt)

-- They begin with a zero only where n is zero.
pub decimal_shortest : (places n : ℕ) → n < 10 ^ places → get_or (decimal places n) 0 0 ≡ zero_digit → n ≡ 0
unfolding value decimal
decimal_shortest zero n h e = omega arith
decimal_shortest (suc places) n h e = go (decimal_shortest places (n / 10)) (dec_le 10 n) e
  where
    first : (xs ys : List ℕ) → (xs ≡ [] → ⊥) → get_or (xs ++ ys) 0 0 ≡ get_or xs 0 0
    first [] ys h = absurd (h refl)
    first (x ∷ xs) ys h = refl

    go : (n / 10 < 10 ^ places → get_or (decimal places (n / 10)) 0 0 ≡ zero_digit → n / 10 ≡ 0)
        → Dec (10 ≤ n) → get_or (decimal (suc places) n) 0 0 ≡ zero_digit → n ≡ 0
    go r (yes l) e =
        let d : List ℕ = decimal places (n / 10) in
        let small : n / 10 < 10 ^ places = omega (arith, pow-succ' 10 places) in
        let some : d ≡ [] → ⊥ = λ q. (let z : 0 ≡ n / 10 = rw q at (decimal_value places (n / 10) small) in omega arith) in
        let f : get_or (d ++ ((zero_digit + n % 10) ∷ [])) 0 0 ≡ zero_digit = rw (le-ltb n 10 l) at e in
        let z = r small (sym (first d ((zero_digit + n % 10) ∷ []) some) ∙ f) in
        omega arith
    go r (no l) e =
        let k : n < 10 = omega (arith, l) in
        let f : zero_digit + n ≡ zero_digit = rw (lt-ltb n 10 k) at e in
        omega arith

-- A number that is written with its sign is a numeral of itself.
decimal_some : (places n : ℕ) → decimal (suc places) n ≡ [] → ⊥
unfolding decimal
decimal_some places n e = go (dec_le 10 n) e
  where
    some : (xs : List ℕ) (y : ℕ) → xs ++ (y ∷ []) ≡ [] → ⊥
    some [] y q = let z : ◌≡◌ {A = ℕ} 0 1 = cc in omega arith
    some (x ∷ xs) y q = let z : ◌≡◌ {A = ℕ} 0 1 = cc in omega arith

    go : Dec (10 ≤ n) → decimal (suc places) n ≡ [] → ⊥
    go (yes l) q = some (decimal places (n / 10)) (zero_digit + n % 10) (rw (le-ltb n 10 l) at q)
    go (no l) q = let k : n < 10 = omega (arith, l) in some [] (zero_digit + n) (rw (lt-ltb n 10 k) at q)

sign_size : (z : ℤ) → z ≡ sgn (negative z) (nat_abs z)
unfolding sgn negative
sign_size (pos n) = refl
sign_size (negsuc n) = refl

pub signed_numeral : (limit : Bool → ℕ) (z : ℤ) → nat_abs z < 10 ^ most_digits → nat_abs z ≤ limit (negative z) → Numeral limit (signed_decimal z) z
unfolding signed_decimal
signed_numeral limit z h l = go (decimal most_digits (nat_abs z)) refl
  where
    go : (ds : List ℕ) → decimal most_digits (nat_abs z) ≡ ds → Numeral limit (written (negative z) ds) z
    go [] e = absurd (decimal_some 19 (nat_abs z) e)
    go (d ∷ ds) e =
        let v : value 0 (d ∷ ds) ≡ nat_abs z = rw e at (decimal_value most_digits (nat_abs z) h) in
        record {
          minus = negative z;
          first = d;
          more = ds;
          decimal = record { digits = rw e at (decimal_digits most_digits (nat_abs z)); small = omega arith };
          bytes_are = refl;
          is = sign_size z ∙ ap (sgn (negative z)) (sym v);
        }

-- ---- what is read
-- A text that is a number is read as this.
pub number_read : (bytes : List ℕ) (r : Option ℤ) (n : ℤ) → Decided bytes r → Numeral nine_digits bytes n → r ≡ Some n
number_read bytes r n (number m u e) t = e ∙ sym (numeral_taken bytes m u) ∙ numeral_taken bytes n t
number_read bytes r n (other f e) t = absurd (f n t)

-- And only such a text.
pub read_number : (bytes : List ℕ) (r : Option ℤ) (n : ℤ) → Decided bytes r → r ≡ Some n → Numeral nine_digits bytes n
read_number bytes r n (number m u e) h = let z : m ≡ n = cc in subst (Numeral nine_digits bytes) z u
read_number bytes r n (other f e) h = let z : ◌≡◌ {A = ℕ} 0 1 = cc in absurd (omega arith)

-- Each text is read in one way.
pub every_text : (bytes : List ℕ) → OneReading bytes
every_text bytes = record { the = number_of bytes; decided = taken_decides bytes; only = only }
  where
    only : (r : Option ℤ) → Decided bytes r → r ≡ number_of bytes
    only r (number n t e) = e ∙ sym (numeral_taken bytes n t)
    only r (other f e) = e ∙ none (taken_decides bytes)
      where
        none : Decided bytes (number_of bytes) → None ≡ number_of bytes
        none (number n t q) = absurd (f n t)
        none (other g q) = sym q
