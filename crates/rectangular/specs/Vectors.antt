-- Vectors (RULES, "Places"): the geocentric one and the Sun's, lengths, unit vectors.
use Rattle.std.specs.Prelude.{ℕ, ℤ, pos, neg_ℤ, nat_abs, ◌+ℤ◌, ◌-ℤ◌, ◌*ℤ◌}
use Rattle.integers.specs.Division.{rounded}
use Rattle.integers.specs.Root.{root}
use Rattle.units.specs.Units.{U}
use Rattle.rectangular.specs.declared.Vector.{Vector}

-- The planet's vector less Earth's.
unfoldable pub geocentric : Vector → Vector → Vector
geocentric planet earth = record { x = planet.x -ℤ earth.x; y = planet.y -ℤ earth.y; z = planet.z -ℤ earth.z }

-- The Sun, seen from Earth: minus Earth's vector.
unfoldable pub sun : Vector → Vector
sun earth = record { x = neg_ℤ earth.x; y = neg_ℤ earth.y; z = neg_ℤ earth.z }

-- The sum of squares.
unfoldable pub squared : Vector → ℤ
squared v = v.x *ℤ v.x +ℤ v.y *ℤ v.y +ℤ v.z *ℤ v.z

-- The length is the floor of its square root.
unfoldable pub length : Vector → ℕ
length v = root (nat_abs (squared v))

-- The unit vector, over U: each component divided by the vector's own length.
unfoldable pub unit : Vector → Vector
unit v = record { x = rounded (pos U *ℤ v.x) (length v); y = rounded (pos U *ℤ v.y) (length v); z = rounded (pos U *ℤ v.z) (length v) }
