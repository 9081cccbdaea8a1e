-- RULES, "Calendar", with the refusals 1 and 2: what each public call answers, for every value of its arguments.
use Rattle.std.specs.Prelude.{
  Bool,
  true,
  false,
  ◌&&◌,
  ◌||◌,
  not,
  cond,
  [],
  ◌∷◌,
  ℕ,
  zero,
  suc,
  ◌+◌,
  ◌*◌,
  ◌-◌,
  ◌/◌,
  ◌%◌,
  eqb,
  ℤ,
  pos,
  nat_abs,
  neg_ℤ,
  ◌+ℤ◌,
  ◌-ℤ◌,
  ◌*ℤ◌,
  get_or,
}
use Rattle.std.specs.Int.Signed.{le_z}
use Rattle.integers.specs.Division.{floor, modulo}
use Rattle.units.specs.Units.{in_limit}
use Rattle.units.specs.declared.Instant.{Instant}
use Rattle.units.specs.declared.Refusal.TheVariants.{NoSuchDate, PastLimit}
use Rattle.calendar.specs.Constants.{years_before_zero, last_year, reform_year, first_skipped, last_skipped, first_gregorian}
use Rattle.calendar.specs.Constants.{year_field, month_field, day_field, ms_field, number_field}
use Rattle.calendar.specs.Constants.{four_years, year_shift, month_rate, rate_scale, day_shift, last_day, day_ms, last_ms, half_day_ms, epoch_day}
use Rattle.calendar.specs.declared.Date.{Date}
use Rattle.std.specs.Prelude.{Err, Ok, Result}
use Rattle.calendar.specs.declared.Moment.{Moment}
use Rattle.units.specs.declared.Refusal.{Refusal}

-- x is from a to b.
abbrev pub between : ℤ → ℤ → ℤ → Bool
between a x b = le_z a x && le_z x b

-- ---- the dates that exist

-- The year exists; year 0 does.
abbrev pub in_years : ℤ → Bool
in_years y = between (neg_ℤ (pos years_before_zero)) y (pos last_year)

-- The number yyyymmdd, by which dates are told early from late.
abbrev pub written : ℤ → ℤ → ℤ → ℤ
written y m d = pos 10000 *ℤ y +ℤ pos 100 *ℤ m +ℤ d

-- One of the ten days between the calendars, which do not exist.
abbrev pub skipped : ℤ → ℤ → ℤ → Bool
skipped y m d = between (pos first_skipped) (written y m d) (pos last_skipped)

-- The date is of the Gregorian calendar, not of the Julian.
abbrev pub gregorian : ℤ → ℤ → ℤ → Bool
gregorian y m d = le_z (pos first_gregorian) (written y m d)

-- Every fourth year is a leap year; after the reform's year one of a full century is so only if 400 divides it.
unfoldable pub leap : ℤ → Bool
leap y = eqb (modulo y 4) 0 && (le_z y (pos reform_year) || not (eqb (modulo y 100) 0) || eqb (modulo y 400) 0)

-- The days of month m, for m from 1 to 12.
unfoldable pub month_length : ℤ → ℤ → ℤ
month_length y m =
    pos (get_or (31 ∷ cond (leap y) 29 28 ∷ 31 ∷ 30 ∷ 31 ∷ 30 ∷ 31 ∷ 31 ∷ 30 ∷ 31 ∷ 30 ∷ 31 ∷ []) (nat_abs m - 1) 0)

-- ---- the field that refusal 1 names

-- The field where its test fails, else what the later fields say.
abbrev pub unless : Bool → ℕ → ℕ → ℕ
unless good field later = cond good later field

-- The first of year, month and day that does not exist, or 0; a skipped day is a bad day.
unfoldable pub first_bad : ℤ → ℤ → ℤ → ℕ
first_bad y m d =
    unless (in_years y) year_field
    (unless (between (pos 1) m (pos 12)) month_field
    (unless (between (pos 1) d (month_length y m)) day_field
    (unless (not (skipped y m d)) day_field 0)))

-- The same of a date with milliseconds.
unfoldable pub first_bad_of_four : ℤ → ℤ → ℤ → ℤ → ℕ
first_bad_of_four y m d ms =
    cond (eqb (first_bad y m d) 0)
    (unless (between (pos 0) ms (pos last_ms)) ms_field 0)
    (first_bad y m d)

-- ---- noon day numbers

-- The year a and the month m of the formula: January and February are months 13 and 14 of the year before.
abbrev pub counted_year : ℤ → ℤ → ℤ
counted_year y m = cond (le_z m (pos 2)) (y -ℤ pos 1) y

abbrev pub counted_month : ℤ → ℤ
counted_month m = cond (le_z m (pos 2)) (m +ℤ pos 12) m

-- The days by which the Gregorian count differs from the Julian, in which every fourth year is a leap year.
abbrev pub beta : Bool → ℤ → ℤ
beta true a = pos 2 -ℤ floor a 100 +ℤ floor (floor a 100) 4
beta false a = pos 0

-- N of the year a, the month m and the day j, with beta.
abbrev pub formula : ℤ → ℤ → ℤ → ℤ → ℤ
formula a m j b =
    floor (pos four_years *ℤ (a +ℤ pos year_shift)) 4 +ℤ floor (pos month_rate *ℤ (m +ℤ pos 1)) rate_scale
    +ℤ j +ℤ b -ℤ pos day_shift

-- N of a date.
unfoldable pub noon_number : ℤ → ℤ → ℤ → ℤ
noon_number y m d = formula (counted_year y m) (counted_month m) d (beta (gregorian y m d) (counted_year y m))

-- Date to N.
unfoldable pub day_of_date : ℤ → ℤ → ℤ → Result ℤ Refusal
day_of_date y m d = cond (eqb (first_bad y m d) 0) (Ok (noon_number y m d)) (Err (NoSuchDate (first_bad y m d)))

-- ---- day numbers back to dates

-- The answer is the day number n.
unfoldable pub is_day : ℤ → Result ℤ Refusal → Bool
is_day n (Ok k) = between n k n
is_day n (Err r) = false

-- The date exists, and n is its day number.
abbrev pub has_number : ℤ → Date → Bool
has_number n w = is_day n (day_of_date w.year w.month w.day)

-- The date that is written as the number k, yyyymmdd, its year counted from the first year.
abbrev pub written_as : ℕ → Date
written_as k = record { year = pos (k / 10000) -ℤ pos years_before_zero; month = pos (k / 100 % 100); day = pos (k % 100) }

-- The date with the day number n, looked for downward among those that are written as a number below k. (Month 0, where none has it: no call reaches that.)
unfoldable pub date_below : ℕ → ℤ → Date
date_below zero n = written_as 0
date_below (suc k) n = cond (has_number n (written_as k)) (written_as k) (date_below k n)

-- The date with the day number n, looked for among all; each n from 0 to last_day has one, and no other (`OneDate` in specs/Promises).
unfoldable pub date_numbered : ℤ → Date
date_numbered n = date_below (10000 * (years_before_zero + last_year + 1)) n

-- N to its date.
unfoldable pub date_of_day : ℤ → Result Date Refusal
date_of_day n = cond (between (pos 0) n (pos last_day)) (Ok (date_numbered n)) (Err (NoSuchDate number_field))

-- ---- instants

-- t of a day number and of the milliseconds from its 0h.
unfoldable pub instant : ℤ → ℤ → ℤ
instant n ms = pos day_ms *ℤ (n -ℤ pos epoch_day) +ℤ ms -ℤ pos half_day_ms

-- t, or refusal 2 where it passes its limit.
abbrev pub limited : ℤ → Result Instant Refusal
limited t = cond (in_limit t) (Ok (record { ms = t })) (Err (PastLimit (record { ms = t })))

-- Date with ms to t: refusal 1 comes before 2.
unfoldable pub instant_of_date : ℤ → ℤ → ℤ → ℤ → Result Instant Refusal
instant_of_date y m d ms =
    cond (eqb (first_bad_of_four y m d ms) 0)
    (limited (instant (noon_number y m d) ms))
    (Err (NoSuchDate (first_bad_of_four y m d ms)))

-- The N and the ms of t.
abbrev pub day_of_instant : ℤ → ℤ
day_of_instant t = floor (t +ℤ pos half_day_ms) day_ms +ℤ pos epoch_day

abbrev pub ms_of_instant : ℤ → ℤ
ms_of_instant t = pos (modulo (t +ℤ pos half_day_ms) day_ms)

-- t to its date with ms.
unfoldable pub date_of_instant : Instant → Result Moment Refusal
date_of_instant t =
    cond (in_limit t.ms)
    (Ok (record { date = date_numbered (day_of_instant t.ms); ms = ms_of_instant t.ms }))
    (Err (PastLimit t))
