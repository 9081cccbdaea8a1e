-- RULES, "Programs": what the program `position` prints for two packed series and a time.
use Rattle.std.specs.Prelude.{List, ℕ}
use Rattle.std.specs.Prelude.{Err, Ok, Result}
use Rattle.place.specs.declared.Equatorial.{Equatorial}
use Rattle.units.specs.declared.Instant.{Instant}
use Rattle.units.specs.declared.Refusal.{Refusal}
use Rattle.place.specs.Place.{place_answer}
use Rattle.refusal_words.specs.Words.{refusal_text}
use Rattle.position_lines.specs.Lines.{place_text}

-- A place, or its refusal.
unfoldable pub answer_text : Result Equatorial Refusal → List ℕ
answer_text (Ok p) = place_text p
answer_text (Err r) = refusal_text r

-- The place of the planet at the instant, seen from Earth; or the refusal of the instant.
unfoldable pub position_text : (planet earth : List ℕ) → Result Instant Refusal → List ℕ
position_text planet earth (Ok t) = answer_text (place_answer planet earth t)
position_text planet earth (Err r) = refusal_text r
