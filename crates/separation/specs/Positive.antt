-- The words of the theorem that the exact test orders fractions, since all their lower numbers are positive: cross products turn no comparison round.
use Rattle.std.specs.Prelude.{ℕ, pos}
use Rattle.integers.specs.Order.{◌≺◌}
use Rattle.integers.specs.Fractions.{Fraction, ◌*ᶠ◌}
use Rattle.separation.specs.Exact.{ExactCoordinates, Vectorᶠ, dotᶠ, cosine_of_arcminutes}

-- The lower number of a fraction is positive.
abbrev pub Positive : Fraction → Type 0
Positive f = pos 0 ≺ f.lower

-- Those of L, B and R.
pub record PositiveCoordinates (c : ExactCoordinates) : Type 0 where
  pub longitude : Positive c.longitude
  pub latitude : Positive c.latitude
  pub radius : Positive c.radius

-- Those of the three scalar products and of both sides of the comparison in `ExactTest`.
pub record PositiveTest (k : ℕ) (sun planet : Vectorᶠ) : Type 0 where
  pub across : Positive (dotᶠ sun planet)
  pub sun_squared : Positive (dotᶠ sun sun)
  pub planet_squared : Positive (dotᶠ planet planet)
  pub left : Positive (cosine_of_arcminutes k *ᶠ cosine_of_arcminutes k *ᶠ (dotᶠ sun sun *ᶠ dotᶠ planet planet))
  pub right : Positive (dotᶠ sun planet *ᶠ dotᶠ sun planet)
