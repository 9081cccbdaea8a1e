-- A step that is not past, before one that is, is the direction; worked for two vectors. Assumes nothing.
use mathlib.Core.Path.{◌≡◌, refl, sym, ap, ◌∙◌}
use mathlib.Core.Bool.{true, false}
use Prim.Native.Nat.{ℕ, ◌+◌, ◌*◌, ◌≤◌}
use native.Mathlib.Omega.{arith}
use lib.Dec.{lit<, lit≤}
use lib.IntN.{pos}
use Rattle.integers.specs.Division.{floor, rounded, modulo}
use Rattle.integers.specs.Signs.{sgn}
use Rattle.cosine.specs.Cosine.{q_of, r_of, w_of, y_of, horner, even_part, odd_part, cosine_by, sine_by, working_cosine, working_sine, cosine, sine}
use Rattle.direction.specs.Angles.{units_angle}
use Rattle.direction.specs.Direction.{quarter_steps, steps_angle, not_past, in_quarter, direction}
use Rattle.direction.proofs.Halving.{Between, between_done, past_on}
use Rattle.direction.proofs.Turns.{no_turn, two_turns}

in_quarter_is : (x y k : ℕ) → k + 1 ≤ quarter_steps → not_past (pos x) (pos y) k ≡ true → not_past (pos x) (pos y) (k + 1) ≡ false
    → in_quarter (pos x) (pos y) ≡ k
in_quarter_is x y k h e f = sym (between_done x y k (k + 1) between (omega arith))
  where
    between : Between x y k (k + 1)
    between = record { order = omega arith; end = h; low_not_past = e; high_past = λ j a b. past_on x y (k + 1) j a (omega arith) f }

-- (X, Y) = (1252845776, 1558966793): 18436787
pub up_right : direction (sgn false 1252845776) (sgn false 1558966793) ≡ 18436787
unfolding not_past steps_angle units_angle floor rounded modulo q_of r_of w_of y_of horner even_part odd_part cosine_by sine_by working_cosine working_sine
    cosine sine
up_right = no_turn 1252845776 1558966793 (lit< tt) ∙ ap (λ (n : ℕ). 0 * quarter_steps + n) (in_quarter_is 1252845776 1558966793 18436787 (lit≤ tt) refl refl)

-- Mercury on 2005-01-01, at the earlier instant: 93024962, that is 4.509977 radians
pub mercury : direction (sgn true 21282066905) (sgn true 103702719761) ≡ 93024962
unfolding not_past steps_angle units_angle floor rounded modulo q_of r_of w_of y_of horner even_part odd_part cosine_by sine_by working_cosine working_sine
    cosine sine
mercury =
    two_turns 21282066905 103702719761 (lit< tt)
    ∙ ap (λ (n : ℕ). 2 * quarter_steps + n) (in_quarter_is 21282066905 103702719761 28224962 (lit≤ tt) refl refl)
