-- A planet seen from Earth (RULES, "Places"): the distance D, when both places are usable, and what is then seen.
use Rattle.std.specs.Prelude.{Bool, cond, ◌&&◌, ℕ, ◌*◌, ◌/◌, ℤ, pos, ◌+ℤ◌, leb}
use Rattle.std.specs.Int.Signed.{le_z}
use Rattle.units.specs.Units.{parts}
use Rattle.units.specs.declared.Coordinates.{Coordinates}
use Rattle.rectangular.specs.declared.Vector.{Vector}
use Rattle.rectangular.specs.declared.View.{View}
use Rattle.rectangular.specs.declared.Frame.{Frame}
use Rattle.std.specs.Prelude.{None, Option, Some}
use Rattle.rectangular.specs.Vectors.{geocentric, length}
use Rattle.rectangular.specs.Rectangular.{place}
use Rattle.rectangular.specs.Frames.{in_frame}

-- A usable R is from 0.1 to 64 AU.
abbrev pub least_radius : ℕ
least_radius = parts / 10

abbrev pub greatest_radius : ℕ
greatest_radius = 64 * parts

unfoldable pub radius_usable : ℤ → Bool
radius_usable r = le_z (pos least_radius) r && le_z r (pos greatest_radius)

-- D is usable from 0.1 AU on, if both R together are not above 16 D.
abbrev pub least_distance : ℕ
least_distance = parts / 10

abbrev pub distance_factor : ℕ
distance_factor = 16

-- The four checks, in the order in which they are made: the planet's R, Earth's R, D, and 16 D.
unfoldable pub usable : (planet_radius earth_radius : ℤ) (distance : ℕ) → Bool
usable rp re d = radius_usable rp && (radius_usable re && (leb least_distance d && le_z (rp +ℤ re) (pos (distance_factor * d))))

-- What is seen of a planet from Earth, both vectors in one frame.
abbrev pub view_from : (planet earth : Vector) → View
view_from p e = record { earth = e; vector = geocentric p e; distance = length (geocentric p e) }

-- The same where both R and D are usable.
unfoldable pub sight_from : (planet_radius earth_radius : ℤ) (planet earth : Vector) → Option View
sight_from rp re p e = cond (usable rp re (length (geocentric p e))) (Some (view_from p e)) None

-- A planet and Earth in a frame.
unfoldable pub sight : Frame → (planet earth : Coordinates) → Option View
sight f planet earth = sight_from planet.radius earth.radius (in_frame f (place planet)) (in_frame f (place earth))

-- In the theory's frame, for the Sun list: D, whether both places are usable, and what is then seen.
unfoldable pub distance : Coordinates → Coordinates → ℕ
distance planet earth = length (geocentric (place planet) (place earth))

unfoldable pub places_usable : Coordinates → Coordinates → Bool
places_usable planet earth = usable planet.radius earth.radius (distance planet earth)

abbrev pub view : Coordinates → Coordinates → View
view planet earth = view_from (place planet) (place earth)
