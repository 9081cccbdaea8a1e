-- The answered place (RULES, "Places", "The wide range" and "Refusals and what they leave"): both bodies at t and at the earlier instant, and the
-- refusals in their order. They are 2 at t, then the planet's series, then Earth's, then 17 and 11 at t, then 2, 17 and 11 at the earlier instant.
use Rattle.std.specs.Prelude.{cond, List, ℕ}
use Rattle.units.specs.declared.Instant.{Instant}
use Rattle.units.specs.declared.Refusal.TheVariants.{PastLimit, NotUsable, TooFar}
use Rattle.limits.specs.declared.Term.{Term}
use Rattle.limits.specs.Wide.{Range, four_millennia, both_asked}
use Rattle.packed.specs.Series.{Parsed, accepted, refused, parse}
use Rattle.series.specs.Sums.{coordinates}
use Rattle.rectangular.specs.declared.Frame.TheVariants.{Catalogues}
use Rattle.std.specs.Prelude.{Err, None, Ok, Option, Result, Some}
use Rattle.place.specs.declared.Equatorial.{Equatorial}
use Rattle.place.specs.declared.Geocentric.{Geocentric}
use Rattle.units.specs.declared.Refusal.{Refusal}
use Rattle.rectangular.specs.declared.View.{View}
use Rattle.rectangular.specs.Sight.{sight}
use Rattle.place.specs.Apparent.{earlier, apparent, equatorial}

-- Both bodies at an instant, in the frame of the catalogues.
unfoldable pub sight_at : (planet earth : List (List Term)) → Instant → Option View
sight_at planet earth t = sight Catalogues (coordinates t.ms planet) (coordinates t.ms earth)

-- What is seen, where an instant is in the range, else 2; and where both series may be asked at it, else 17. Each has the instant.
abbrev pub in_range : Range → Instant → Result Geocentric Refusal → Result Geocentric Refusal
in_range range t seen = cond (range.taken t.ms) seen (Err (PastLimit t))

abbrev pub if_asked : Range → (planet earth : List (List Term)) → Instant → Result Geocentric Refusal → Result Geocentric Refusal
if_asked range planet earth t seen = cond (both_asked range planet earth t.ms) seen (Err (TooFar t))

-- With the sight at the earlier instant: 11, or its vector, and D as it was at t.
unfoldable pub taken_again : ℕ → Option View → Result Geocentric Refusal
taken_again d (Some g) = Ok (record { vector = g.vector; distance = d })
taken_again d None = Err (NotUsable 0)

-- At the earlier instant e, with D as it was at t: 2, then 17, then 11.
abbrev pub at_earlier : Range → (planet earth : List (List Term)) → ℕ → Instant → Result Geocentric Refusal
at_earlier range planet earth d e = in_range range e (if_asked range planet earth e (taken_again d (sight_at planet earth e)))

-- With the sight at t: 11, or both bodies again.
unfoldable pub taken : Range → (planet earth : List (List Term)) → Instant → Option View → Result Geocentric Refusal
taken range planet earth t (Some g) = at_earlier range planet earth g.distance (earlier t g.distance)
taken range planet earth t None = Err (NotUsable 0)

-- The planet's series is judged, then Earth's, then 17.
unfoldable pub of_series : Range → (planet earth : Parsed) → Instant → Result Geocentric Refusal
of_series range (refused r) earth t = Err r
of_series range (accepted planet) (refused r) t = Err r
of_series range (accepted planet) (accepted earth) t = if_asked range planet earth t (taken range planet earth t (sight_at planet earth t))

unfoldable pub sighting_by : Range → (planet earth : List ℕ) → Instant → Result Geocentric Refusal
sighting_by range planet earth t = in_range range t (of_series range (parse planet) (parse earth) t)

-- The apparent place of what is seen.
unfoldable pub of_sighting : Instant → Result Geocentric Refusal → Result Equatorial Refusal
of_sighting t (Ok g) = Ok (equatorial (apparent t g.vector).vector g.distance)
of_sighting t (Err r) = Err r

-- The answer over a range. The rule has four millennia; with two, time ends as it did before the wide range, and `as_before` (proofs/Former) says where
-- both answer the same.
unfoldable pub place_answer_by : Range → (planet earth : List ℕ) → Instant → Result Equatorial Refusal
place_answer_by range planet earth t = of_sighting t (sighting_by range planet earth t)

abbrev pub sighting : (planet earth : List ℕ) → Instant → Result Geocentric Refusal
sighting planet earth t = sighting_by four_millennia planet earth t

abbrev pub place_answer : (planet earth : List ℕ) → Instant → Result Equatorial Refusal
place_answer planet earth t = place_answer_by four_millennia planet earth t
