-- How large the numbers of a usable sight are: what the functions of this crate ask of each other.
use Rattle.std.specs.Prelude.{ℕ, ◌+◌, ◌*◌, ◌^◌, ◌<◌}
use Rattle.units.specs.Units.{parts}
use Rattle.rectangular.specs.declared.Vector.{Vector}
use Rattle.rectangular.specs.Sight.{greatest_radius}
use Rattle.rectangular.specs.Machine.Components.{Components, grown}

-- No component of a usable geocentric vector is greater.
abbrev pub reach : ℕ
reach = grown greatest_radius + grown greatest_radius

-- Its length is less than 222 AU, and a component of the vector turned to the equator at most twice that.
abbrev pub length_reach : ℕ
length_reach = 222 * parts

abbrev pub equator_reach : ℕ
equator_reach = 2 * length_reach

-- A geocentric vector and a distance D that come from usable sights.
pub record Clear (vector : Vector) (distance : ℕ) : Type 0 where
  pub vector_in : Components reach vector
  pub distance_in : distance < 2 ^ 46
