-- Floor quotient, rounded quotient and remainder of a whole number by a natural one: RULES, "Units and rounding".
use Rattle.std.specs.Prelude.{ℕ, suc, ◌*◌, ◌-◌, ◌/◌, ◌%◌, ℤ, pos, negsuc, ◌+ℤ◌, ◌*ℤ◌}

-- The floor of n/d: -(a + 1) lies in the block below that of a.
unfoldable pub floor : ℤ → ℕ → ℤ
floor (pos a) d = pos (a / d)
floor (negsuc a) d = negsuc (a / d)

-- The whole number nearest to n/d, a tie going up.
unfoldable pub rounded : ℤ → ℕ → ℤ
rounded n d = floor (pos 2 *ℤ n +ℤ pos d) (2 * d)

-- The remainder that is never negative.
unfoldable pub modulo : ℤ → ℕ → ℕ
modulo (pos a) d = a % d
modulo (negsuc a) d = d - suc (a % d)
