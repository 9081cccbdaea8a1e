-- The fractions that the exact test compares for two series at an instant have positive lower numbers: demand 3 speaks of the fractions themselves.
-- Assumes nothing.
use mathlib.Core.List.{List}
use Prim.Native.Nat.{ℕ}
use Rattle.units.specs.declared.Instant.{Instant}
use Rattle.limits.specs.declared.Term.{Term}
use Rattle.series.proofs.Positive.{longitude_lower, latitude_lower, radius_lower}
use Rattle.separation.specs.Exact.{exact_sun, exact_geocentric}
use Rattle.separation.specs.Positive.{PositiveCoordinates, PositiveTest}
use Rattle.separation.proofs.Positive.{positive_test}
use Rattle.sunlist.specs.Demand.{exact_coordinates}

exact_positive : (t : Instant) (blocks : List (List Term)) → PositiveCoordinates (exact_coordinates t blocks)
unfolding exact_coordinates
exact_positive t blocks = record { longitude = longitude_lower t.ms blocks; latitude = latitude_lower t.ms blocks; radius = radius_lower t.ms blocks }

pub tested_positive : (k : ℕ) (t : Instant) (planet earth : List (List Term))
    → PositiveTest k (exact_sun (exact_coordinates t earth)) (exact_geocentric (exact_coordinates t planet) (exact_coordinates t earth))
tested_positive k t planet earth = positive_test k (exact_coordinates t planet) (exact_coordinates t earth) (exact_positive t planet) (exact_positive t earth)
