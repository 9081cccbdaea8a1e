-- RULES, "Working cosine and sums": a term a, b, c of a series, each in parts, at t milliseconds.
use Rattle.std.specs.Prelude.{ℕ, ◌*◌, ℤ, pos, ◌+ℤ◌, ◌*ℤ◌}
use Rattle.integers.specs.Division.{rounded, modulo}
use Rattle.units.specs.Units.{U, millennium, turn, angle_per_part}
use Rattle.cosine.specs.Cosine.{cosine}

-- The angle b + c*tau in 10^-16 radian, rounded, less whole turns.
unfoldable pub term_angle : ℕ → ℤ → ℤ → ℕ
term_angle b c t = modulo (pos (angle_per_part * b) +ℤ rounded (pos angle_per_part *ℤ c *ℤ t) millennium) turn

unfoldable pub term_cosine : ℕ → ℤ → ℤ → ℤ
term_cosine b c t = cosine (pos (term_angle b c t))

-- In parts.
unfoldable pub term_value : ℤ → ℕ → ℤ → ℤ → ℤ
term_value a b c t = rounded (a *ℤ term_cosine b c t) U
