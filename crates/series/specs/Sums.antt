-- RULES, "Working cosine and sums": the running sum V of a coordinate, L, B and R at t, and what the call answers.
use Rattle.std.specs.Prelude.{cond, List, [], ◌∷◌, ℕ, ◌*◌, ℤ, pos, ◌+ℤ◌, ◌*ℤ◌, take, drop}
use Rattle.integers.specs.Division.{rounded}
use Rattle.units.specs.Units.{millennium, powers}
use Rattle.units.specs.declared.Instant.{Instant}
use Rattle.units.specs.declared.Coordinates.{Coordinates}
use Rattle.units.specs.declared.Refusal.TheVariants.{PastLimit, TooFar}
use Rattle.limits.specs.declared.Term.{Term}
use Rattle.limits.specs.Wide.{Range, four_millennia}
use Rattle.packed.specs.Series.{Parsed, accepted, refused, parse}
use Rattle.pieces.specs.Sums.{block_sum}
use Rattle.std.specs.Prelude.{Err, Ok, Result}
use Rattle.units.specs.declared.Refusal.{Refusal}

-- V of the blocks of a coordinate, from some power on: the sum of the first, and what is above it carried by t/T.
unfoldable pub running_sum : ℤ → List (List Term) → ℤ
running_sum t [] = pos 0
running_sum t (b ∷ []) = block_sum t b
running_sum t (b ∷ c ∷ bs) = block_sum t b +ℤ rounded (running_sum t (c ∷ bs) *ℤ t) millennium

-- The blocks of each coordinate: powers 0 to 5 of the longitude stand first, then the latitude's, then the radius'.
unfoldable pub longitude_blocks : List (List Term) → List (List Term)
longitude_blocks blocks = take powers blocks

unfoldable pub latitude_blocks : List (List Term) → List (List Term)
latitude_blocks blocks = take powers (drop powers blocks)

unfoldable pub radius_blocks : List (List Term) → List (List Term)
radius_blocks blocks = take powers (drop (2 * powers) blocks)

unfoldable pub coordinates : ℤ → List (List Term) → Coordinates
coordinates t blocks = record {
  longitude = running_sum t (longitude_blocks blocks);
  latitude = running_sum t (latitude_blocks blocks);
  radius = running_sum t (radius_blocks blocks);
}

-- What the call answers over a range of time. An instant that the range does not take is refused before the series, and one at which this series
-- may not be asked after it: 2, what the series is refused for, 17 (RULES, "Refusals and what they leave").
unfoldable pub of_parsed : Range → Instant → Parsed → Result Coordinates Refusal
of_parsed range t (accepted blocks) = cond (range.asked blocks t.ms) (Ok (coordinates t.ms blocks)) (Err (TooFar t))
of_parsed range t (refused r) = Err r

unfoldable pub coordinates_by : Range → List ℕ → Instant → Result Coordinates Refusal
coordinates_by range bytes t = cond (range.taken t.ms) (of_parsed range t (parse bytes)) (Err (PastLimit t))

-- What it answers: up to four millennia.
abbrev pub coordinates_answer : List ℕ → Instant → Result Coordinates Refusal
coordinates_answer bytes t = coordinates_by four_millennia bytes t
