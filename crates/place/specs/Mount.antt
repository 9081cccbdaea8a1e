-- The mount's answer (RULES, "Places"): three doubles, or the refusal.
use Rattle.std.specs.Prelude.{List, ℕ, ◌^◌, ◌≤◌, ℤ, pos, nat_abs, Float}
use Rattle.std.specs.Float.{binary64}
use Rattle.std.specs.Float.Ieee.{of_int, div}
use Rattle.units.specs.Units.{parts}
use Rattle.units.specs.declared.Instant.{Instant}
use Rattle.place.specs.declared.Equatorial.{Equatorial}
use Rattle.place.specs.declared.MountPlace.{MountPlace}
use Rattle.std.specs.Prelude.{Err, Ok, Result}
use Rattle.units.specs.declared.Refusal.{Refusal}
use Rattle.place.specs.Place.{place_answer}

-- One division of doubles, rounded once; both numbers are exact as doubles before it.
abbrev pub hundredths_per_degree : ℕ
hundredths_per_degree = 360000

unfoldable pub degrees : ℤ → Float
degrees k = div binary64 (of_int binary64 k) (of_int binary64 (pos hundredths_per_degree))

unfoldable pub astronomical_units : ℤ → Float
astronomical_units n = div binary64 (of_int binary64 n) (of_int binary64 (pos parts))

unfoldable pub mount_place : Equatorial → MountPlace
mount_place p = record {
  right_ascension = degrees p.right_ascension;
  declination = degrees p.declination;
  distance = astronomical_units p.distance;
}

unfoldable pub mount : Result Equatorial Refusal → Result MountPlace Refusal
mount (Ok p) = Ok (mount_place p)
mount (Err r) = Err r

unfoldable pub mount_answer : (planet earth : List ℕ) → Instant → Result MountPlace Refusal
mount_answer planet earth t = mount (place_answer planet earth t)

-- The numbers of a place are small enough that each is exact as a double.
pub record Small (p : Equatorial) : Type 0 where
  pub ascension_in : nat_abs p.right_ascension ≤ 2 ^ 52
  pub declination_in : nat_abs p.declination ≤ 2 ^ 52
  pub distance_in : nat_abs p.distance ≤ 2 ^ 52
