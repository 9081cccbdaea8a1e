-- How the code reads a number, byte by byte; proofs/Numbers.antt shows that it decides a text as specs/Numerals.antt says.
use Rattle.std.specs.Prelude.{Bool, true, false, cond, List, [], ◌∷◌, ℕ, ◌+◌, ◌*◌, ◌-◌, ◌/◌, ltb, leb, eqb, ℤ, None, Option, Some}
use Rattle.integers.specs.Signs.{sgn}
use Rattle.decimals.specs.Decimals.{minus_sign, zero_digit, nine_digit}

-- Past every number that is read.
abbrev pub too_great : ℕ
too_great = 1000000000

-- The value of digits after v, if it is below.
unfoldable pub digits_after : ℕ → List ℕ → Option ℕ
digits_after v [] = Some v
digits_after v (b ∷ bs) =
    cond (ltb b zero_digit) None
    (cond (ltb nine_digit b) None
    (cond (leb (too_great / 10) v) None (digits_after (10 * v + (b - zero_digit)) bs)))

-- The value of one or more digits.
unfoldable pub all_digits : List ℕ → Option ℕ
all_digits [] = None
all_digits (b ∷ bs) = digits_after 0 (b ∷ bs)

unfoldable pub signed_read : Bool → Option ℕ → Option ℤ
signed_read below None = None
signed_read below (Some v) = Some (sgn below v)

unfoldable pub number_of : List ℕ → Option ℤ
number_of [] = None
number_of (b ∷ bs) = cond (eqb b minus_sign) (signed_read true (all_digits bs)) (signed_read false (all_digits (b ∷ bs)))
