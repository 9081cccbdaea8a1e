-- Places whose R are usable: how large they are, and that R may be handed on. Assumes nothing.
use mathlib.Core.Path.{◌≡◌}
use mathlib.Core.Bool.{true}
use Prim.Native.Nat.{ℕ, ◌+◌, ◌^◌, ◌≤◌, ◌<◌}
use native.Mathlib.Omega.{arith}
use lib.IntN.{ℤ, nat_abs, ◌-ℤ◌}
use Rattle.integers.proofs.Order.{nat_abs_sub}
use Rattle.units.specs.declared.Coordinates.{Coordinates}
use Rattle.rectangular.specs.declared.Vector.{Vector}
use Rattle.rectangular.specs.Vectors.{geocentric}
use Rattle.rectangular.specs.Rectangular.{place}
use Rattle.rectangular.specs.Sight.{greatest_radius, radius_usable}
use Rattle.rectangular.specs.Machine.Components.{Components}
use Rattle.rectangular.proofs.Places.{place_size, smaller}
use Rattle.rectangular.proofs.Usable.{radius_size}

pub geocentric_size : (k : ℕ) (a b : Vector) → Components k a → Components k b → Components (k + k) (geocentric a b)
unfolding geocentric
geocentric_size k a b h g = record {
  x_in = one a.x b.x h.x_in g.x_in;
  y_in = one a.y b.y h.y_in g.y_in;
  z_in = one a.z b.z h.z_in g.z_in;
}
  where
    one : (x y : ℤ) → nat_abs x ≤ k → nat_abs y ≤ k → nat_abs (x -ℤ y) ≤ k + k
    one x y h g = let s = nat_abs_sub x y in omega arith

pub place_reach : (c : Coordinates) → radius_usable c.radius ≡ true → Components greatest_radius (place c)
place_reach c h = smaller (nat_abs c.radius) greatest_radius (place c) (radius_size c.radius h) (place_size c)

pub radius_in : (r : ℤ) → radius_usable r ≡ true → nat_abs r < 2 ^ 63
radius_in r h = let s = radius_size r h in omega arith
