-- RULES, "Marked cases": the table of the cases, and what it is for one to be right.
use Rattle.std.specs.Prelude.{◌≡◌, List, [], ◌∷◌, ℕ, ◌*◌, ℤ, pos, neg_ℤ}
use Rattle.units.specs.Units.{U, quarter}
use Rattle.units.specs.declared.Instant.{Instant}
use Rattle.units.specs.declared.Refusal.TheVariants.{NotShortest}
use Rattle.calendar.specs.Promises.{Figure, Right as RightDate, marked as marked_dates}
use Rattle.cosine.specs.Cosine.{cosine}
use Rattle.packed.specs.Series.{Parsed, refused, parse}
use Rattle.series.specs.Sums.{coordinates_answer}
use Rattle.std.specs.Prelude.{Ok, Result}
use Rattle.units.specs.declared.Coordinates.{Coordinates}
use Rattle.units.specs.declared.Refusal.{Refusal}
use Rattle.place.specs.Apparent.{light_time}

-- A figure of the calendar (calendar/specs/Promises.antt has the nine); an angle and its cosine; a distance and its light time; packed
-- bytes, an instant and their coordinates; packed bytes and what they mean.
pub data Case : Type 0 where
  date : Figure → Case
  cosine_at : ℤ → ℤ → Case
  light : ℕ → ℤ → Case
  coordinates_at : List ℕ → Instant → Result Coordinates Refusal → Case
  packed : List ℕ → Parsed → Case

-- The definitions that the library is proved against give the case's answer.
abbrev pub Right : Case → Type 0
Right (date f) = RightDate f
Right (cosine_at x c) = cosine x ≡ c
Right (light d ms) = light_time d ≡ ms
Right (coordinates_at bytes t a) = coordinates_answer bytes t ≡ a
Right (packed bytes p) = parse bytes ≡ p

abbrev pub AllRight : List Case → Type 0
AllRight [] = Unit {0}
AllRight (f ∷ fs) = Right f × AllRight fs

-- One constant term of 3.00000000000 in L1, packed: no terms in L0; one in L1, with its a, b and c; none in the sixteen blocks after.
abbrev pub rate_bytes : List ℕ
rate_bytes =
    0 ∷ 1 ∷ 128 ∷ 224 ∷ 165 ∷ 150 ∷ 187 ∷ 17 ∷ 0 ∷ 0
    ∷ 0 ∷ 0 ∷ 0 ∷ 0 ∷ 0 ∷ 0 ∷ 0 ∷ 0 ∷ 0 ∷ 0 ∷ 0 ∷ 0 ∷ 0 ∷ 0 ∷ 0 ∷ 0 ∷ []

-- Half a millennium before 2000.
abbrev pub rate_instant : Instant
rate_instant = record { ms = neg_ℤ (pos 15778800000000) }

abbrev pub rate_coordinates : Result Coordinates Refusal
rate_coordinates = Ok (record { longitude = neg_ℤ (pos 150000000000); latitude = pos 0; radius = pos 0 })

-- The calendar's figures, then other cases.
abbrev pub after_dates : List Figure → List Case → List Case
after_dates [] cs = cs
after_dates (f ∷ fs) cs = date f ∷ after_dates fs cs

abbrev pub marked : List Case
marked =
    after_dates marked_dates
    (cosine_at (pos 0) (pos U)
    ∷ cosine_at (pos quarter) (pos 0)
    ∷ cosine_at (pos (2 * quarter)) (neg_ℤ (pos U))
    ∷ light 105919798623 (pos 528545)
    ∷ coordinates_at rate_bytes rate_instant rate_coordinates
    ∷ packed (128 ∷ 0 ∷ []) (refused (NotShortest 1))
    ∷ [])
