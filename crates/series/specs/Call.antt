-- What a call for coordinates promises of its answer: which answer it is, and how near coordinates are to the exact sums.
use Rattle.std.specs.Prelude.{◌≡◌, List, ℕ}
use Rattle.units.specs.declared.Instant.{Instant}
use Rattle.units.specs.declared.Coordinates.{Coordinates}
use Rattle.limits.specs.declared.Term.{Term}
use Rattle.packed.specs.Series.{parse, accepted}
use Rattle.std.specs.Prelude.{Ok, Result}
use Rattle.units.specs.declared.Refusal.{Refusal}
use Rattle.series.specs.Sums.{coordinates_answer}
use Rattle.series.specs.Exact.{NearExact}

-- The bytes are a packed series, and the whole numbers c are within 10^-6 of its exact L, B and R at t.
pub record NearSeries (bytes : List ℕ) (t : Instant) (c : Coordinates) : Type 0 where
  pub blocks : List (List Term)
  pub series : parse bytes ≡ accepted blocks
  pub near : NearExact c t.ms blocks

-- Of the bytes, the instant and the answer r.
pub record CoordinatesPromised (bytes : List ℕ) (t : Instant) (r : Result Coordinates Refusal) : Type 0 where
  pub answer : r ≡ coordinates_answer bytes t
  pub near_series : (c : Coordinates) → r ≡ Ok c → NearSeries bytes t c
