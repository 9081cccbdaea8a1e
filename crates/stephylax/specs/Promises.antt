-- What the C calls for coordinates and for a list promise: their answer, and what holds of the lent memory where `refusal` is 0.
use Rattle.std.specs.Prelude.{◌≡◌, List, ℕ, ◌≤◌, ℤ, pos, length}
use Rattle.units.specs.declared.Instant.{Instant}
use Rattle.units.specs.declared.Coordinates.{Coordinates}
use Rattle.series.specs.Sums.{coordinates_answer}
use Rattle.series.specs.Call.{NearSeries}
use Rattle.runs.specs.Runs.{most_minutes}
use Rattle.sunlist.specs.SunList.{sun_list, sun_list_out}
use Rattle.sunlist.specs.Demand.{Demand3}
use Rattle.answers.specs.declared.One.{One}
use Rattle.answers.specs.declared.Three.{Three}
use Rattle.answers.specs.Answers.{list_shown, coordinates_shown}

-- An instant, and coordinates, as C has them: L, B and R are the first, second and third number.
abbrev pub instant : ℤ → Instant
instant t = record { ms = t }

abbrev pub coordinates_of : Three → Coordinates
coordinates_of r = record { longitude = r.first; latitude = r.second; radius = r.third }

-- Of the packed bytes, the instant and the answer r.
pub record CCoordinatesPromised (bytes : List ℕ) (t : ℤ) (r : Three) : Type 0 where
  pub answer : r ≡ coordinates_shown (coordinates_answer bytes (instant t))
  -- Not refused: the bytes are a series, and L, B and R are within 10^-6 of its exact sums.
  pub near_series : r.refusal ≡ 0 → NearSeries bytes (instant t) (coordinates_of r)

-- The count that an answer shows, and demand 3 of it.
pub record CountedDemand3 (planet earth : List ℕ) (t0 minutes keep_out : ℤ) (value : ℤ) (after : List ℕ) : Type 0 where
  pub count : ℕ
  pub shown : value ≡ pos count
  pub few : count ≤ most_minutes
  pub demand : Demand3 planet earth (instant t0) minutes keep_out count after

-- Of the call's arguments, the output before the call, the answer r, and the output after it.
pub record CSunListPromised (planet earth : List ℕ) (t0 minutes keep_out : ℤ) (before : List ℕ) (r : One) (after : List ℕ) : Type 0 where
  pub answer : r ≡ list_shown (sun_list planet earth (instant t0) minutes keep_out (length before))
  pub output : after ≡ sun_list_out planet earth (instant t0) minutes keep_out before
  -- Not refused: the value is the count itself, at most 1,440, and the numbers in the output keep demand 3.
  pub demand : r.refusal ≡ 0 → CountedDemand3 planet earth t0 minutes keep_out r.value after
