-- How the code reads a number, `number_of`, is how specs/Numerals decides a text. Assumes nothing.
use mathlib.Core.Path.{◌≡◌, refl, sym, ap, ◌∙◌, subst}
use mathlib.Core.Bool.{Bool, true, false}
use mathlib.Core.List.{List, [], ◌∷◌}
use Prim.Native.Nat.{ℕ, ◌+◌, ◌*◌, ◌-◌, ◌/◌, ◌≤◌, ◌<◌}
use native.Mathlib.Decide.{dec_le, ℕ_discrete}
use native.Mathlib.Omega.{arith}
use borrow.Author.Tests.{eq-eqb, ne_eqb, lt-ltb, le-ltb, le-leb, lt-leb}
use lib.IntN.{ℤ}
use Rattle.integers.specs.Signs.{sgn}
use Rattle.decimals.specs.Decimals.{minus_sign, zero_digit, nine_digit, written}
use Rattle.decimals.specs.Numerals.{Digits, value, Decimal, Numeral, nine_digits, Decided, number, other}
use Rattle.decimals.specs.Machine.Reading.{too_great, digits_after, all_digits, signed_read, number_of}
use Rattle.std.specs.Prelude.{None, Option, Some}

pub grows : (v : ℕ) (ds : List ℕ) → v ≤ value v ds
unfolding value
grows v [] = omega arith
grows v (b ∷ ds) = omega (arith, grows (10 * v + (b - zero_digit)) ds)

digits_read : (v : ℕ) (ds : List ℕ) → Digits ds → value v ds < too_great → digits_after v ds ≡ Some (value v ds)
unfolding value digits_after
digits_read v [] d h = refl
digits_read v (b ∷ ds) d h =
    let g = grows (10 * v + (b - zero_digit)) ds in
    let k : v < too_great / 10 = omega arith in
    rw (le-ltb b zero_digit d.0, le-ltb nine_digit b d.1, lt-leb (too_great / 10) v k) (digits_read (10 * v + (b - zero_digit)) ds d.2 h)

-- Bytes that are read are digits, and their value is what they are.
record AreDigits (v : ℕ) (bs : List ℕ) (w : ℕ) : Type 0 where
  digits : Digits bs
  small : value v bs < too_great
  is : w ≡ value v bs

only_digits : (v : ℕ) (bs : List ℕ) (w : ℕ) → v < too_great → digits_after v bs ≡ Some w → AreDigits v bs w
unfolding value digits_after
only_digits v [] w h e = let is : v ≡ w = cc in record { digits = tt; small = h; is = sym is }
only_digits v (b ∷ bs) w h e = go (dec_le zero_digit b) (dec_le b nine_digit) (dec_le (too_great / 10) v) (only_digits (10 * v + (b - zero_digit)) bs w)
  where
    none : ◌≡◌ {A = Option ℕ} None (Some w) → AreDigits v (b ∷ bs) w
    none q = absurd (cc)

    go : Dec (zero_digit ≤ b) → Dec (b ≤ nine_digit) → Dec (too_great / 10 ≤ v)
        → (10 * v + (b - zero_digit) < too_great → digits_after (10 * v + (b - zero_digit)) bs ≡ Some w → AreDigits (10 * v + (b - zero_digit)) bs w)
        → AreDigits v (b ∷ bs) w
    go (no l) m k r = let x : b < zero_digit = omega (arith, l) in none (rw (lt-ltb b zero_digit x) at e)
    go (yes l) (no m) k r = let x : nine_digit < b = omega (arith, m) in none (rw (le-ltb b zero_digit l, lt-ltb nine_digit b x) at e)
    go (yes l) (yes m) (yes k) r = none (rw (le-ltb b zero_digit l, le-ltb nine_digit b m, le-leb (too_great / 10) v k) at e)
    go (yes l) (yes m) (no k) r =
        let x : v < too_great / 10 = omega (arith, k) in
        let s : digits_after (10 * v + (b - zero_digit)) bs ≡ Some w =
        rw (le-ltb b zero_digit l, le-ltb nine_digit b m, lt-leb (too_great / 10) v x) at e in
        let a = r (omega arith) s in
        record { digits = (l, m, a.digits); small = a.small; is = a.is }

-- A text that is a number is read as this.
pub numeral_taken : (bytes : List ℕ) (n : ℤ) → Numeral nine_digits bytes n → number_of bytes ≡ Some n
unfolding number_of signed_read all_digits
numeral_taken bytes n t = rw (t.bytes_are, t.is) (go t.minus t.first t.more t.decimal)
  where
    size : (minus : Bool) (b : ℕ) (ds : List ℕ) → Decimal nine_digits minus b ds
        → signed_read minus (all_digits (b ∷ ds)) ≡ Some (sgn minus (value 0 (b ∷ ds)))
    size minus b ds d =
        let l = d.small in
        let k : value 0 (b ∷ ds) < too_great = omega arith in
        rw (digits_read 0 (b ∷ ds) d.digits k)

    go : (minus : Bool) (b : ℕ) (ds : List ℕ) → Decimal nine_digits minus b ds
        → number_of (written minus (b ∷ ds)) ≡ Some (sgn minus (value 0 (b ∷ ds)))
    go true b ds d = size true b ds d
    go false b ds d =
        let l = d.digits.0 in
        rw (ne_eqb b minus_sign (λ q. omega (arith, q))) (size false b ds d)

-- And only such a text.
pub taken_numeral : (bytes : List ℕ) (n : ℤ) → number_of bytes ≡ Some n → Numeral nine_digits bytes n
unfolding number_of signed_read all_digits
taken_numeral [] n e = absurd (cc)
taken_numeral (b ∷ bs) n e = go (ℕ_discrete b minus_sign)
  where
    sized : (minus : Bool) (ds : List ℕ) → signed_read minus (all_digits ds) ≡ Some n → Numeral nine_digits (written minus ds) n
    sized minus [] e = absurd (cc)
    sized minus (d ∷ ds) e = at (digits_after 0 (d ∷ ds)) refl
      where
        at : (r : Option ℕ) → digits_after 0 (d ∷ ds) ≡ r → Numeral nine_digits (written minus (d ∷ ds)) n
        at None q = let f : ◌≡◌ {A = Option ℤ} None (Some n) = rw q at e in absurd (cc)
        at (Some w) q =
            let a = only_digits 0 (d ∷ ds) w (omega arith) q in
            let f : Some (sgn minus w) ≡ Some n = rw q at e in
            let g : sgn minus w ≡ n = cc in
            record {
              minus = minus;
              first = d;
              more = ds;
              decimal = record { digits = a.digits; small = omega (arith, a.small) };
              bytes_are = refl;
              is = sym g ∙ ap (sgn minus) a.is;
            }

    go : Dec (b ≡ minus_sign) → Numeral nine_digits (b ∷ bs) n
    go (yes p) =
        let f : signed_read true (all_digits bs) ≡ Some n = rw (eq-eqb b minus_sign p) at e in
        subst (λ (x : ℕ). Numeral nine_digits (x ∷ bs) n) (sym p) (sized true bs f)
    go (no p) =
        let f : signed_read false (all_digits (b ∷ bs)) ≡ Some n = rw (ne_eqb b minus_sign p) at e in
        sized false (b ∷ bs) f

-- So each text is decided by how it is read.
pub taken_decides : (bytes : List ℕ) → Decided bytes (number_of bytes)
taken_decides bytes = go (number_of bytes) refl
  where
    go : (r : Option ℤ) → number_of bytes ≡ r → Decided bytes r
    go (Some n) e = number n (taken_numeral bytes n e) refl
    go None e = other (λ n t. differs n (numeral_taken bytes n t)) refl
      where
        differs : (n : ℤ) → number_of bytes ≡ Some n → ⊥
        differs n q = let z : ◌≡◌ {A = ℕ} 0 1 = cc in omega arith

-- What a way through the code returns is decided where it is what `number_of` gives.
pub decided_as : (bytes : List ℕ) (r : Option ℤ) → r ≡ number_of bytes → Decided bytes r
decided_as bytes r e = subst (Decided bytes) (sym e) (taken_decides bytes)
