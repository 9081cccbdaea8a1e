-- How near working coordinates must be to exact ones for the promise of the list: its proof asks this of them.
use Rattle.std.specs.Prelude.{ℕ, ◌*◌, ◌^◌, ◌≤◌, pos, nat_abs}
use Rattle.integers.specs.Fractions.{wholeᶠ, Apart}
use Rattle.units.specs.declared.Coordinates.{Coordinates}
pub use Rattle.reference_cosine.specs.Machine.Angles.{angle_limit}
use Rattle.separation.specs.Exact.{ExactCoordinates}

-- In parts: twice the 10^-6 within which L, B and R are promised to lie from their exact sums.
abbrev pub tolerance : ℕ
tolerance = 2 * 10 ^ 5

pub record NearCoordinates (c : Coordinates) (e : ExactCoordinates) : Type 0 where
  pub longitude_limit : nat_abs c.longitude ≤ angle_limit
  pub latitude_limit : nat_abs c.latitude ≤ angle_limit
  pub longitude : Apart (wholeᶠ (pos tolerance)) (wholeᶠ c.longitude) e.longitude
  pub latitude : Apart (wholeᶠ (pos tolerance)) (wholeᶠ c.latitude) e.latitude
  pub radius : Apart (wholeᶠ (pos tolerance)) (wholeᶠ c.radius) e.radius
