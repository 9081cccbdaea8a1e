-- How whole numbers are written: digits without a leading zero, a minus where the number is negative; and with a decimal point.
use Rattle.std.specs.Prelude.{Bool, true, false, cond, List, [], ◌∷◌, ◌++◌, ℕ, zero, suc, ◌+◌, ◌/◌, ◌%◌, ◌^◌, ltb, ℤ, nat_abs}
use Rattle.integers.specs.Signs.{negative}

-- The bytes of a decimal.
abbrev pub minus_sign : ℕ
minus_sign = 45

abbrev pub point : ℕ
point = 46

abbrev pub zero_digit : ℕ
zero_digit = 48

abbrev pub nine_digit : ℕ
nine_digit = zero_digit + 9

-- The digits that a number of 64 bits may have.
abbrev pub most_digits : ℕ
most_digits = 20

-- The decimal digits of n, in at most so many places.
unfoldable pub decimal : ℕ → ℕ → List ℕ
decimal zero n = []
decimal (suc places) n = cond (ltb n 10) ((zero_digit + n) ∷ []) (decimal places (n / 10) ++ ((zero_digit + n % 10) ∷ []))

-- Digits with a minus, or without.
abbrev pub written : Bool → List ℕ → List ℕ
written true ds = minus_sign ∷ ds
written false ds = ds

-- A whole number of 64 bits with its sign.
unfoldable pub signed_decimal : ℤ → List ℕ
signed_decimal z = written (negative z) (decimal most_digits (nat_abs z))

-- The last k digits of n, leading zeros too.
unfoldable pub last_digits : ℕ → ℕ → List ℕ
last_digits zero n = []
last_digits (suc k) n = (zero_digit + n / 10 ^ k % 10) ∷ last_digits k n

-- n over 10 ^ k, with a point and k digits after it.
unfoldable pub fraction : Bool → ℕ → ℕ → List ℕ
fraction below k n = written below (decimal most_digits (n / 10 ^ k) ++ (point ∷ last_digits k n))
