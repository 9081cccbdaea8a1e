-- The rectangular place of a body from its L, B and R (RULES, "Places"), in parts.
use Rattle.std.specs.Prelude.{ℤ, pos, ◌*ℤ◌}
use Rattle.integers.specs.Division.{rounded}
use Rattle.units.specs.Units.{U, angle_per_part}
use Rattle.cosine.specs.Cosine.{cosine, sine}
use Rattle.units.specs.declared.Coordinates.{Coordinates}
use Rattle.rectangular.specs.declared.Vector.{Vector}

-- From a radius R and the angles of B and L, in 10^-16 radian: R cos B is rounded before it meets cos L and sin L.
unfoldable pub rectangular : (radius latitude longitude : ℤ) → Vector
rectangular r b l = record {
  x = rounded (rounded (r *ℤ cosine b) U *ℤ cosine l) U;
  y = rounded (rounded (r *ℤ cosine b) U *ℤ sine l) U;
  z = rounded (r *ℤ sine b) U;
}

-- A part is angle_per_part units of an angle.
unfoldable pub place : Coordinates → Vector
place c = rectangular c.radius (pos angle_per_part *ℤ c.latitude) (pos angle_per_part *ℤ c.longitude)
