-- RULES, "Places": the angle of a whole number of units.
use Rattle.std.specs.Prelude.{ℕ, ℤ, pos, ◌*ℤ◌}
use Rattle.integers.specs.Division.{rounded}
use Rattle.units.specs.Units.{turn}

-- s units, of which a turn has `units`, in 10^-16 radian.
unfoldable pub units_angle : ℕ → ℤ → ℤ
units_angle units s = rounded (s *ℤ pos turn) units
