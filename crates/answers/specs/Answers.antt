-- The number and the values of each answer, as the C interface has them: `refusal` is 0 or the refusal's number, `figure` what comes with a
-- refusal (RULES, "Refusals and what they leave"); what an answer does not use is 0.
use Rattle.std.specs.Prelude.{Bool, cond, ℕ, min, ℤ, pos, negsuc, Float}
use Rattle.std.specs.Float.{binary64}
use Rattle.std.specs.Float.Ieee.{of_int}
use Rattle.units.specs.declared.Refusal.{Refusal}
use Rattle.units.specs.Refusals.{number, figure}
use Rattle.std.specs.Prelude.{Err, Ok, Result}
use Rattle.units.specs.declared.Coordinates.{Coordinates}
use Rattle.calendar.specs.declared.Date.{Date}
use Rattle.place.specs.declared.Equatorial.{Equatorial}
use Rattle.units.specs.declared.Instant.{Instant}
use Rattle.calendar.specs.declared.Moment.{Moment as Dated}
use Rattle.place.specs.declared.MountPlace.{MountPlace}
use Rattle.packed.specs.declared.Content.{Content}
use Rattle.series_lines.specs.declared.Outcome.{Outcome}
use Rattle.series_lines.specs.declared.Outcome.TheVariants.{More, Accepted, Refused}
use Rattle.mending.specs.declared.Clean.{Clean}
use Rattle.answers.specs.declared.One.{One}
use Rattle.answers.specs.declared.Examined.{Examined}
use Rattle.answers.specs.declared.Moment.{Moment}
use Rattle.answers.specs.declared.Three.{Three}
use Rattle.answers.specs.declared.Doubles.{Doubles}
use Rattle.answers.specs.declared.Standing.{Standing}
use Rattle.answers.specs.declared.Mended.{Mended}

-- The greatest signed number of 64 bits.
abbrev pub greatest : ℕ
greatest = 9223372036854775807

-- A number as a signed one of 64 bits; past the greatest, which no memory counts to, the greatest.
unfoldable pub clip : ℕ → ℤ
clip n = pos (min n greatest)

unfoldable pub clipped : ℤ → ℤ
clipped (pos n) = clip n
clipped (negsuc n) = negsuc n

-- The three shapes of an answer, refused.
unfoldable pub one_refused : Refusal → One
one_refused r = record { refusal = number r; figure = clipped (figure r); value = pos 0 }

unfoldable pub moment_refused : Refusal → Moment
moment_refused r = record { refusal = number r; figure = clipped (figure r); year = pos 0; month = pos 0; day = pos 0; ms = pos 0 }

unfoldable pub three_refused : Refusal → Three
three_refused r = record { refusal = number r; figure = clipped (figure r); first = pos 0; second = pos 0; third = pos 0 }

-- A count or a length.
unfoldable pub one_counted : ℕ → One
one_counted n = record { refusal = 0; figure = pos 0; value = clip n }

-- RULES, "Calendar": stephylax_day, stephylax_date, stephylax_instant.
unfoldable pub day_shown : Result ℤ Refusal → One
day_shown (Ok n) = record { refusal = 0; figure = pos 0; value = n }
day_shown (Err r) = one_refused r

unfoldable pub date_shown : Result Date Refusal → Moment
date_shown (Ok d) = record { refusal = 0; figure = pos 0; year = d.year; month = d.month; day = d.day; ms = pos 0 }
date_shown (Err r) = moment_refused r

unfoldable pub instant_shown : Result Instant Refusal → One
instant_shown (Ok t) = record { refusal = 0; figure = pos 0; value = t.ms }
instant_shown (Err r) = one_refused r

unfoldable pub moment_shown : Result Dated Refusal → Moment
moment_shown (Ok m) = record { refusal = 0; figure = pos 0; year = m.date.year; month = m.date.month; day = m.date.day; ms = m.ms }
moment_shown (Err r) = moment_refused r

-- RULES, "Series, as text and packed" and "The wide range": stephylax_checked, the number of terms, and 1 where the series is good for the wide
-- range, else 0.
unfoldable pub examined_refused : Refusal → Examined
examined_refused r = record { refusal = number r; figure = clipped (figure r); terms = pos 0; wide = pos 0 }

unfoldable pub flag : Bool → ℤ
flag so = cond so (pos 1) (pos 0)

unfoldable pub content_shown : Content → Examined
content_shown c = record { refusal = 0; figure = pos 0; terms = clip c.terms; wide = flag c.wide }

unfoldable pub checked_shown : Result Content Refusal → Examined
checked_shown (Ok c) = content_shown c
checked_shown (Err r) = examined_refused r

-- RULES, "Series, as text and packed" and "Published files": stephylax_written, the length of the packed form of a text or of a published file, so far
-- or in all, or of the printed text.
unfoldable pub text_shown : Outcome → One
text_shown (More n) = one_counted n
text_shown (Accepted n) = one_counted n
text_shown (Refused r) = one_refused r

-- stephylax_answer, what stands of a text or of a published file in pieces: the same, and 1 once it has ended and is accepted, else 0.
unfoldable pub accepted : Outcome → ℤ
accepted (More n) = pos 0
accepted (Accepted n) = pos 1
accepted (Refused r) = pos 0

unfoldable pub standing_shown : Outcome → Standing
standing_shown o =
    let w = text_shown o in
    record { refusal = w.refusal; figure = w.figure; length = w.value; accepted = accepted o }

-- RULES, "Mending": stephylax_mended. The verdict is 0 with the packed length, or the number of the reader's refusal with its figure; it is of
-- a text that has ended, so More is never shown (text_promises/proofs/Judgement.antt: never_more).
unfoldable pub mended_refused : Refusal → Mended
mended_refused r = record { refusal = number r; figure = clipped (figure r); length = pos 0; changes = pos 0; verdict = 0; place = pos 0 }

unfoldable pub verdict_place : Outcome → ℤ
verdict_place (More n) = clip n
verdict_place (Accepted n) = clip n
verdict_place (Refused r) = clipped (figure r)

unfoldable pub clean_shown : Clean → Mended
clean_shown c =
    record {
      refusal = 0;
      figure = pos 0;
      length = clip c.length;
      changes = clip c.changes;
      verdict = (text_shown c.verdict).refusal;
      place = verdict_place c.verdict;
    }

unfoldable pub mending_shown : Result Clean Refusal → Mended
mending_shown (Ok c) = clean_shown c
mending_shown (Err r) = mended_refused r

unfoldable pub printed_shown : Result ℕ Refusal → One
printed_shown (Ok n) = one_counted n
printed_shown (Err r) = one_refused r

-- RULES, "Sun list": stephylax_written, how many numbers.
unfoldable pub list_shown : Result ℕ Refusal → One
list_shown (Ok n) = one_counted n
list_shown (Err r) = one_refused r

-- RULES, "Working cosine and sums": stephylax_coordinates.
unfoldable pub coordinates_shown : Result Coordinates Refusal → Three
coordinates_shown (Ok c) = record { refusal = 0; figure = pos 0; first = c.longitude; second = c.latitude; third = c.radius }
coordinates_shown (Err r) = three_refused r

-- RULES, "Places": stephylax_place.
unfoldable pub place_shown : Result Equatorial Refusal → Three
place_shown (Ok p) = record { refusal = 0; figure = pos 0; first = p.right_ascension; second = p.declination; third = p.distance }
place_shown (Err r) = three_refused r

-- RULES, "Places": stephylax_mount, the three doubles, or the refusal's number.
abbrev zero_double : Float
zero_double = of_int binary64 (pos 0)

unfoldable pub mount_numbered : Result MountPlace ℕ → Doubles
mount_numbered (Ok p) = record { refusal = 0; first = p.right_ascension; second = p.declination; third = p.distance }
mount_numbered (Err n) = record { refusal = n; first = zero_double; second = zero_double; third = zero_double }

unfoldable pub mount_shown : Result MountPlace Refusal → Doubles
mount_shown (Ok p) = mount_numbered (Ok p)
mount_shown (Err r) = mount_numbered (Err (number r))
