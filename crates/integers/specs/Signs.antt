-- A whole number as a sign (true: negative) and a magnitude, and the rounded quotient worked on magnitudes.
use Rattle.std.specs.Prelude.{Bool, true, false, not, ℕ, ◌+◌, ◌*◌, ◌-◌, ◌/◌, ℤ, pos, negsuc, neg_ℤ}

unfoldable pub negative : ℤ → Bool
negative (pos n) = false
negative (negsuc n) = true

-- The number of a sign and a magnitude.
unfoldable pub sgn : Bool → ℕ → ℤ
sgn false m = pos m
sgn true m = neg_ℤ (pos m)

-- The magnitude of ±m/d rounded.
unfoldable pub near : Bool → ℕ → ℕ → ℕ
near false m d = (2 * m + d) / (2 * d)
near true m d = (2 * m + (d - 1)) / (2 * d)

-- The sign of a product.
unfoldable pub differ : Bool → Bool → Bool
differ false t = t
differ true t = not t
