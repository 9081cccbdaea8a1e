-- `direction::units_angle` meets its contract. Assumes nothing.
use mathlib.Core.Path.{◌≡◌, ap, ◌∙◌}
use mathlib.Core.List.{[], ◌∷◌}
use Prim.Native.Nat.{ℕ, ◌*◌, ◌<◌}
use native.Mathlib.Omega.{arith}
use lib.IntN.{ℤ, pos, ◌*ℤ◌}
use Rattle.integers.specs.Division.{rounded}
use Rattle.integers.proofs.Auto.{polys, ring! }
use Rattle.units.specs.Units.{turn}
use Rattle.arith.proofs.Signs.{back, ok}
use Rattle.direction.specs.Angles.{units_angle}
use Rattle.direction.proofs.units_angle.Goals as goal

swap_room : (a b d : ℕ) → a * b < d → b * a < d
swap_room a b d h = omega arith

swap : (x y : ℤ) → x *ℤ y ≡ y *ℤ x
swap x y = ring! (x ∷ y ∷ []) (search polys depth 60 fits 100000) tt

pub mul_div_round-requires : goal.mul_div_round-requires
mul_div_round-requires c = rw (back c.args.s c.ranges.s) (c.requires.0, c.requires.1, c.requires.2, swap_room _ _ _ c.requires.3)

pub returns : goal.returns
unfolding units_angle
returns c =
    back c.mul_div_round.result (ok c.mul_div_round.type_inv) ∙ rw (back c.args.s c.ranges.s) at c.mul_div_round.ensures
    ∙ ap (λ z. rounded z c.args.units) (swap (pos turn) c.args.s)
