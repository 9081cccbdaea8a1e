-- RULES, "Programs": a clock time of hour, minute and second, in milliseconds from 0h.
use Rattle.std.specs.Prelude.{Bool, false, cond, ℕ, ◌*◌, ◌/◌, ltb, ℤ, pos, negsuc, ◌+ℤ◌, ◌*ℤ◌}
use Rattle.units.specs.Units.{minute_ms}
use Rattle.arith.specs.Naturals.{natural_or}
use Rattle.calendar.specs.Calendar.{instant_of_date}
use Rattle.std.specs.Prelude.{Result}
use Rattle.units.specs.declared.Instant.{Instant}
use Rattle.units.specs.declared.Refusal.{Refusal}

-- The hours of a day, the minutes of an hour, the seconds of a minute; an hour and a second in milliseconds. src/arguments.rt has the same names.
abbrev pub hours : ℕ
hours = 24

abbrev pub minutes : ℕ
minutes = 60

abbrev pub seconds : ℕ
seconds = 60

abbrev pub hour_ms : ℕ
hour_ms = minutes * minute_ms

abbrev pub second_ms : ℕ
second_ms = minute_ms / seconds

-- x is one of 0, 1, .., k - 1.
unfoldable pub below : ℤ → ℕ → Bool
below (pos n) k = ltb n k
below (negsuc n) k = false

-- The clock times are from 0:00:00 to 23:59:59.
unfoldable pub on_clock : ℤ → ℤ → ℤ → Bool
on_clock hour minute second = cond (below hour hours) (cond (below minute minutes) (below second seconds) false) false

-- The milliseconds of a clock time; -1, which no day has, where there is no such time.
unfoldable pub ms_of_day : ℤ → ℤ → ℤ → ℤ
ms_of_day hour minute second =
    cond (on_clock hour minute second) (pos hour_ms *ℤ hour +ℤ pos minute_ms *ℤ minute +ℤ pos second_ms *ℤ second) (negsuc 0)

-- The instant of a date and a clock time.
abbrev pub instant_of_clock : ℤ → ℤ → ℤ → ℤ → ℤ → ℤ → Result Instant Refusal
instant_of_clock year month day hour minute second = instant_of_date year month day (ms_of_day hour minute second)

-- The minute of the day of a clock time; 0 where there is no such time.
abbrev pub minute_of_day : ℤ → ℤ → ℕ
minute_of_day hour minute = natural_or (ms_of_day hour minute (pos 0)) 0 / minute_ms
