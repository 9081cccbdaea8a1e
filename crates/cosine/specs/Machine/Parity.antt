-- The working angle w as the code holds it, v = w + U, and a term whose angle is reduced to v: its amplitude a has the sign that its quarter gives.
-- Held by the code of `working` and `term`; no rule speaks of it.
use Rattle.std.specs.Prelude.{ℕ, zero, suc, ◌+◌, ◌-◌, ◌*◌, ◌/◌, ◌≤◌, ℤ, pos, neg_ℤ, ◌-ℤ◌, ◌*ℤ◌}
use Rattle.integers.specs.Division.{rounded}
use Rattle.units.specs.Units.{U, quarter, angle_step}
use Rattle.cosine.specs.Cosine.{even_part, odd_part}

-- An eighth of a turn in working angles, rounded up: r is at most half a quarter from 0, so that no |w| is greater.
abbrev pub eighth : ℕ
eighth = quarter / (2 * angle_step) + 1

-- Where v of an angle lies.
pub record InRange (v : ℕ) : Type 0 where
  pub low : U - eighth ≤ v
  pub high : v ≤ U + eighth

-- No y is greater: eighth * eighth / U is 616,850,277, here rounded up to millions.
abbrev pub y_limit : ℕ
y_limit = 617000000

-- The greatest divisor of the two series.
abbrev pub divisor_limit : ℕ
divisor_limit = 12 * 13

-- The value of a term at an even quarter, and at an odd one.
unfoldable pub even_value : ℤ → ℕ → ℤ
even_value a v = rounded (a *ℤ even_part (pos v -ℤ pos U)) U

unfoldable pub odd_value : ℤ → ℕ → ℤ
odd_value a v = rounded (a *ℤ neg_ℤ (odd_part (pos v -ℤ pos U))) U

-- By the parity of the quarter.
unfoldable pub value_by_parity : ℕ → ℤ → ℕ → ℤ
value_by_parity zero a v = even_value a v
value_by_parity (suc _) a v = odd_value a v
