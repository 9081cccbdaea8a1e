-- Demand 3, as a statement about the numbers that the call wrote, against the exact test (RULES, "Sun list"): in fractions with no rounding, light
-- time left out.
use Rattle.std.specs.Prelude.{◌≡◌, true, List, ℕ, suc, ◌+◌, ◌*◌, ◌≤◌, ◌<◌, ℤ, pos, length, get_or}
use Rattle.units.specs.declared.Instant.{Instant}
use Rattle.limits.specs.declared.Term.{Term}
use Rattle.packed.specs.Series.{parse, accepted}
use Rattle.series.specs.Sums.{coordinates}
use Rattle.series.specs.Exact.{exact_longitude, exact_latitude, exact_radius}
use Rattle.separation.specs.Exact.{ExactCoordinates, WithinArcminutes}
use Rattle.separation.specs.Listed.{listed}
use Rattle.sunlist.specs.SunList.{minute}

-- The exact sums of a series at an instant.
unfoldable pub exact_coordinates : Instant → List (List Term) → ExactCoordinates
exact_coordinates t blocks = record {
  longitude = exact_longitude t.ms blocks;
  latitude = exact_latitude t.ms blocks;
  radius = exact_radius t.ms blocks;
}

-- Run i of the output: its first and its last minute; it holds both and all between.
abbrev pub first_minute : List ℕ → ℕ → ℕ
first_minute out i = get_or out (2 * i) 0

abbrev pub last_minute : List ℕ → ℕ → ℕ
last_minute out i = get_or out (2 * i + 1) 0

abbrev pub InRun : List ℕ → ℕ → ℕ → Type 0
InRun out i j = (first_minute out i ≤ j) × (j ≤ last_minute out i)

-- A list answered with this count, and the output after the call.
pub record Demand3 (planet_bytes earth_bytes : List ℕ) (t0 : Instant) (minutes keep_out : ℤ) (count : ℕ) (out : List ℕ) : Type 0 where
  -- Both are packed series, the window has n minutes, the keep-out is k arcminutes.
  pub planet : List (List Term)
  pub earth : List (List Term)
  pub planet_series : parse planet_bytes ≡ accepted planet
  pub earth_series : parse earth_bytes ≡ accepted earth
  pub n : ℕ
  pub k : ℕ
  pub window : minutes ≡ pos n
  pub angle : keep_out ≡ pos k
  -- The count is of numbers, two for each run, and they stand in the output.
  pub runs : ℕ
  pub count_is : count ≡ 2 * runs
  pub room : count ≤ length out
  -- None missing: a minute at which the exact sums put the planet within the angle is in a run, and in one only.
  pub none_missing : (j : ℕ) → j < n → WithinArcminutes k (exact_coordinates (minute t0 j) planet) (exact_coordinates (minute t0 j) earth)
      → (i : ℕ) × (i < runs) × InRun out i j
  pub once : (j i i' : ℕ) → i < runs → i' < runs → InRun out i j → InRun out i' j → i ≡ i'
  -- None in a run is farther out than two arcminutes more.
  pub not_farther : (j i : ℕ) → i < runs → InRun out i j
      → WithinArcminutes (k + 2) (exact_coordinates (minute t0 j) planet) (exact_coordinates (minute t0 j) earth)
  -- The runs are the maximal runs of listed minutes: all of these and only these, within the window, rising, with a minute or more between two runs.
  pub only_listed : (j i : ℕ) → i < runs → InRun out i j → listed k (coordinates (minute t0 j).ms planet) (coordinates (minute t0 j).ms earth) ≡ true
  pub all_listed : (j : ℕ) → j < n → listed k (coordinates (minute t0 j).ms planet) (coordinates (minute t0 j).ms earth) ≡ true
      → (i : ℕ) × (i < runs) × InRun out i j
  pub in_window : (i : ℕ) → i < runs → (first_minute out i ≤ last_minute out i) × (last_minute out i < n)
  pub rising : (i : ℕ) → suc i < runs → last_minute out i + 2 ≤ first_minute out (suc i)
