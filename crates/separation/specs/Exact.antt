-- The exact test (RULES, "Sun list"): exact places, the exact vectors of the Sun and of the planet, and when the planet is within an angle.
-- All in fractions, unrounded.
use Rattle.std.specs.Prelude.{ℕ, ◌*◌, ◌^◌, pos, nat_abs}
use Rattle.integers.specs.Order.{◌≺◌}
use Rattle.integers.specs.Fractions.{Fraction, ◌*ᶠ◌, ◌+ᶠ◌, ◌-ᶠ◌, negᶠ, ◌≤ᶠ◌}
use Rattle.units.specs.Units.{parts, two_pi}
use Rattle.reference_cosine.specs.Reference.{reference_cosine, reference_sine}
use Rattle.separation.specs.Arcminutes.{arcminutes}

-- The exact L, B and R of a body, in parts, each a fraction whose lower number is positive.
pub record ExactCoordinates : Type 0 where
  pub longitude : Fraction
  pub latitude : Fraction
  pub radius : Fraction

pub record Vectorᶠ : Type 0 where
  pub x : Fraction
  pub y : Fraction
  pub z : Fraction

-- The reference cosine and sine of an angle in parts.
unfoldable pub cosᶠ : Fraction → Fraction
cosᶠ angle = reference_cosine angle.upper (parts * nat_abs angle.lower)

unfoldable pub sinᶠ : Fraction → Fraction
sinᶠ angle = reference_sine angle.upper (parts * nat_abs angle.lower)

-- The rectangular place, from the exact sums and the reference cosines.
unfoldable pub exact_place : ExactCoordinates → Vectorᶠ
exact_place c = record {
  x = c.radius *ᶠ cosᶠ c.latitude *ᶠ cosᶠ c.longitude;
  y = c.radius *ᶠ cosᶠ c.latitude *ᶠ sinᶠ c.longitude;
  z = c.radius *ᶠ sinᶠ c.latitude;
}

-- Seen from Earth: the Sun, and the planet.
unfoldable pub exact_sun : ExactCoordinates → Vectorᶠ
exact_sun earth = record { x = negᶠ (exact_place earth).x; y = negᶠ (exact_place earth).y; z = negᶠ (exact_place earth).z }

unfoldable pub exact_geocentric : ExactCoordinates → ExactCoordinates → Vectorᶠ
exact_geocentric planet earth = record {
  x = (exact_place planet).x -ᶠ (exact_place earth).x;
  y = (exact_place planet).y -ᶠ (exact_place earth).y;
  z = (exact_place planet).z -ᶠ (exact_place earth).z;
}

-- The scalar product.
unfoldable pub dotᶠ : Vectorᶠ → Vectorᶠ → Fraction
dotᶠ a b = a.x *ᶠ b.x +ᶠ a.y *ᶠ b.y +ᶠ a.z *ᶠ b.z

-- The reference cosine of k arcminutes; the reference's turn is two_pi/10^30.
unfoldable pub cosine_of_arcminutes : ℕ → Fraction
cosine_of_arcminutes k = reference_cosine (pos (k * two_pi)) (arcminutes * 10 ^ 30)

-- The angle between the two vectors is at most k arcminutes: by the cosine that their scalar product gives, squared on both sides.
pub record ExactTest (k : ℕ) (sun planet : Vectorᶠ) : Type 0 where
  pub ahead : pos 0 ≺ (dotᶠ sun planet).upper
  pub close : cosine_of_arcminutes k *ᶠ cosine_of_arcminutes k *ᶠ (dotᶠ sun sun *ᶠ dotᶠ planet planet) ≤ᶠ dotᶠ sun planet *ᶠ dotᶠ sun planet

-- Seen from Earth, the planet is within k arcminutes of the Sun.
abbrev pub WithinArcminutes : ℕ → ExactCoordinates → ExactCoordinates → Type 0
WithinArcminutes k planet earth = ExactTest k (exact_sun earth) (exact_geocentric planet earth)
