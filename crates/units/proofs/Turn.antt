-- The turn against 2 pi: none whose quarter is a whole number is nearer. Assumes nothing.
use Prim.Native.Nat.{ℕ, ◌*◌, ◌≤◌}
use native.Mathlib.Omega.{arith}
use Rattle.units.specs.Units.{turn, from_two_pi}

pub nearest_turn : (quarter : ℕ) → from_two_pi turn ≤ from_two_pi (4 * quarter)
nearest_turn quarter = omega arith
