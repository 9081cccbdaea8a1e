-- RULES, "Places": the direction of (X, Y) and the latitude of (X, Y, Z), in hundredths of an arcsecond.
use Rattle.std.specs.Prelude.{Bool, false, cond, ℕ, zero, suc, ◌+◌, ◌*◌, ℤ, pos, neg_ℤ, nat_abs, ◌+ℤ◌, ◌*ℤ◌, eqb}
use Rattle.std.specs.Int.Signed.{le_z, lt_z}
use Rattle.integers.specs.Root.{root}
use Rattle.integers.specs.Signs.{negative, sgn}
use Rattle.cosine.specs.Cosine.{cosine, sine}
use Rattle.direction.specs.Angles.{units_angle}

-- Hundredths of an arcsecond in a quarter turn, and in a turn.
abbrev pub quarter_steps : ℕ
quarter_steps = 90 * 3600 * 100

abbrev pub turn_steps : ℕ
turn_steps = 4 * quarter_steps

-- The angle of k hundredths, in 10^-16 radian.
unfoldable pub steps_angle : ℤ → ℤ
steps_angle k = units_angle turn_steps k

-- The step k is not past (X, Y): X times its sine is at most Y times its cosine.
unfoldable pub not_past : ℤ → ℤ → ℕ → Bool
not_past x y k = le_z (x *ℤ sine (steps_angle (pos k))) (y *ℤ cosine (steps_angle (pos k)))

-- The greatest number below n with the property p; 0 where none has it.
unfoldable pub greatest : (ℕ → Bool) → ℕ → ℕ
greatest p zero = 0
greatest p (suc n) = cond (p n) n (greatest p n)

unfoldable pub in_quarter : ℤ → ℤ → ℕ
in_quarter x y = greatest (not_past x y) quarter_steps

-- Where a direction is sought: X positive and Y not negative.
unfoldable pub first_quarter : ℤ → ℤ → Bool
first_quarter x y = cond (lt_z (pos 0) x) (le_z (pos 0) y) false

-- The direction by clockwise quarter turns into the first quarter, at most `turns` of them, each of which counts a quarter. A turn takes (X, Y) to (Y, -X).
unfoldable pub within_turns : ℕ → ℤ → ℤ → ℕ
within_turns zero x y = in_quarter x y
within_turns (suc turns) x y = cond (first_quarter x y) (in_quarter x y) (quarter_steps + within_turns turns y (neg_ℤ x))

-- No vector but (0, 0) needs more than three turns; (0, 0) has direction 0.
unfoldable pub direction : ℤ → ℤ → ℕ
direction x y = cond (eqb (nat_abs x + nat_abs y) 0) 0 (within_turns 3 x y)

-- The direction of the flat length and the height above it, with the sign of Z.
unfoldable pub latitude : ℤ → ℤ → ℤ → ℤ
latitude x y z = sgn (negative z) (direction (pos (root (nat_abs (x *ℤ x +ℤ y *ℤ y)))) (pos (nat_abs z)))
