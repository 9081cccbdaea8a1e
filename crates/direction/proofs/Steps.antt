-- The angle of a number of steps, worked on naturals. Assumes nothing.
use mathlib.Core.Path.{◌≡◌, sym, ap, ◌∙◌}
use mathlib.Core.Bool.{false}
use Prim.Native.Nat.{ℕ, ◌+◌, ◌*◌, ◌/◌, ◌%◌}
use native.Mathlib.Omega.{arith}
use lib.Dec.{lit<}
use lib.IntN.{pos}
use Rattle.integers.specs.Signs.{sgn, near}
use Rattle.integers.proofs.Division.{rounded_near, near_shift}
use Rattle.units.specs.Units.{turn}
use Rattle.direction.specs.Angles.{units_angle}
use Rattle.direction.specs.Direction.{turn_steps, steps_angle}

split : (k : ℕ) → k * turn ≡ k * (turn / turn_steps) * turn_steps + k * (turn % turn_steps)
split k = omega arith

near_steps : (k : ℕ) → near false (k * turn) turn_steps ≡ k * (turn / turn_steps) + near false (k * (turn % turn_steps)) turn_steps
near_steps k = ap (λ (m : ℕ). near false m turn_steps) (split k) ∙ near_shift false (k * (turn / turn_steps)) (k * (turn % turn_steps)) turn_steps (lit< tt)

pub step_is : (k : ℕ) → pos (k * (turn / turn_steps) + (2 * (k * (turn % turn_steps)) + turn_steps) / (2 * turn_steps)) ≡ steps_angle (pos k)
unfolding steps_angle units_angle sgn near
step_is k = sym (rounded_near false (k * turn) turn_steps (lit< tt) ∙ ap pos (near_steps k))
