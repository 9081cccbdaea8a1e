-- The loop that reads digits: what is left to read gives what all of it gives; then the sign. Assumes nothing.
use mathlib.Core.Path.{◌≡◌, refl, ap}
use mathlib.Core.Bool.{Bool, true, false}
use mathlib.Core.List.{List, [], ◌∷◌}
use Prim.Native.Nat.{ℕ, ◌+◌, ◌*◌, ◌-◌, ◌/◌, ◌≤◌, ◌<◌}
use native.Mathlib.Numerals.{add-one}
use native.Mathlib.Decide.{dec_le}
use native.Mathlib.Omega.{arith}
use borrow.Author.Tests.{eq-eqb, ne_eqb, lt-ltb, le-ltb, le-leb, lt-leb}
use lib.IntN.{ℤ}
use lib.ListN.{length, get_or, drop, drop_of_length-le}
use lib.Seq.{drop-cons}
use Rattle.integers.specs.Signs.{sgn}
use Rattle.decimals.specs.Decimals.{minus_sign, zero_digit, nine_digit}
use Rattle.decimals.specs.Machine.Reading.{too_great, digits_after, all_digits, signed_read, number_of}
use Rattle.std.specs.Prelude.{None, Option, Some}

pub no_digits : (text : List ℕ) → length text ≡ 0 → None ≡ all_digits text
unfolding all_digits
no_digits [] e = refl
no_digits (b ∷ bs) e = absurd (omega arith)

pub digits_begin : (text : List ℕ) → (length text ≡ 0 → ⊥) → digits_after 0 text ≡ all_digits text
unfolding all_digits
digits_begin [] h = absurd (h refl)
digits_begin (b ∷ bs) h = refl

module _ (text : List ℕ) (i v : ℕ) (w : Option ℕ) (e : digits_after v (drop i text) ≡ w) where
  pub digits_end : length text ≤ i → Some v ≡ w
  unfolding digits_after
  digits_end h = rw (drop_of_length-le text h) at e

  module _ (h : i < length text) where
    next : digits_after v (get_or text i 0 ∷ drop (i + 1) text) ≡ w
    next = let d : drop i text ≡ get_or text i 0 ∷ drop (i + 1) text = rw add-one (drop-cons text i 0 h) in rw d at e

    -- Any other byte is no digit, and more digits are too many.
    pub digits_none : (zero_digit ≤ get_or text i 0 → get_or text i 0 ≤ nine_digit → v < too_great / 10 → ⊥) → None ≡ w
    unfolding digits_after
    digits_none n = go (dec_le zero_digit (get_or text i 0)) (dec_le (get_or text i 0) nine_digit) (dec_le (too_great / 10) v)
      where
        go : Dec (zero_digit ≤ get_or text i 0) → Dec (get_or text i 0 ≤ nine_digit) → Dec (too_great / 10 ≤ v) → None ≡ w
        go (no l) m k = let x : get_or text i 0 < zero_digit = omega (arith, l) in rw (lt-ltb (get_or text i 0) zero_digit x) at next
        go (yes l) (no m) k =
            let x : nine_digit < get_or text i 0 = omega (arith, m) in
            rw (le-ltb (get_or text i 0) zero_digit l, lt-ltb nine_digit (get_or text i 0) x) at next
        go (yes l) (yes m) (yes k) =
            rw (le-ltb (get_or text i 0) zero_digit l, le-ltb nine_digit (get_or text i 0) m, le-leb (too_great / 10) v k) at next
        go (yes l) (yes m) (no k) = absurd (n l m (omega (arith, k)))

    pub digits_more : zero_digit ≤ get_or text i 0 → get_or text i 0 ≤ nine_digit → v < too_great / 10
        → digits_after (10 * v + (get_or text i 0 - zero_digit)) (drop (i + 1) text) ≡ w
    unfolding digits_after
    digits_more l m k =
        rw (le-ltb (get_or text i 0) zero_digit l, le-ltb nine_digit (get_or text i 0) m, lt-leb (too_great / 10) v k) at next

pub signed_none : (below : Bool) (d all : Option ℕ) → d ≡ None → d ≡ all → None ≡ signed_read below all
unfolding signed_read
signed_none below d all e f = rw (← f, e)

pub signed_some : (below : Bool) (d all : Option ℕ) (v : ℕ) (n : ℤ) → d ≡ Some v → d ≡ all → n ≡ sgn below v → Some n ≡ signed_read below all
unfolding signed_read
signed_some below d all v n e f g = rw (← f, e) (ap Some g)

pub number_minus : (text : List ℕ) → (length text ≡ 0 → ⊥) → get_or text 0 0 ≡ minus_sign → signed_read true (all_digits (drop 1 text)) ≡ number_of text
unfolding number_of
number_minus [] h e = absurd (h refl)
number_minus (b ∷ bs) h e = rw (eq-eqb b minus_sign e)

pub number_plain : (text : List ℕ) → (length text ≡ 0 → ⊥) → (get_or text 0 0 ≡ minus_sign → ⊥) → signed_read false (all_digits text) ≡ number_of text
unfolding number_of
number_plain [] h e = absurd (h refl)
number_plain (b ∷ bs) h e = rw (ne_eqb b minus_sign e)
