-- When a minute is listed (RULES, "Sun list"), by the working coordinates of planet and Earth there.
use Rattle.std.specs.Prelude.{Bool, ℕ, ◌+◌, ◌*◌, ℤ, pos, ◌*ℤ◌}
use Rattle.std.specs.Int.Signed.{le_z}
use Rattle.integers.specs.Division.{rounded}
use Rattle.units.specs.Units.{turn}
use Rattle.cosine.specs.Cosine.{sine}
use Rattle.units.specs.declared.Coordinates.{Coordinates}
use Rattle.rectangular.specs.declared.Vector.{Vector}
use Rattle.rectangular.specs.Vectors.{geocentric, sun, squared, unit}
use Rattle.rectangular.specs.Rectangular.{place}
use Rattle.separation.specs.Arcminutes.{arcminutes}

-- Of two unit vectors, to the Sun and to the planet: the squared length of their difference, in 1/U^2.
unfoldable pub squared_separation : (sun planet : Vector) → ℤ
squared_separation u v = squared (geocentric u v)

-- For a keep-out of k arcminutes: the squared chord of k + 1 arcminutes, twice the sine of its half.
unfoldable pub threshold : ℕ → ℤ
threshold k = let s = sine (rounded (pos ((k + 1) * turn)) (2 * arcminutes)) in pos 4 *ℤ (s *ℤ s)

-- The planet, seen from Earth, stands no farther from the Sun than the threshold.
unfoldable pub listed : ℕ → Coordinates → Coordinates → Bool
listed k planet earth = le_z (squared_separation (unit (sun (place earth))) (unit (geocentric (place planet) (place earth)))) (threshold k)
