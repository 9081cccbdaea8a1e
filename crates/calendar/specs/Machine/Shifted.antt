-- The calendar as the code counts it, in naturals: a year is held as its index, the year plus year_shift, so that no number is negative.
-- Nothing here has to be believed: proofs/FirstBad, proofs/Formula and proofs/DatesFound show that it is the calendar of specs/Calendar.
use Rattle.std.specs.Prelude.{◌≡◌, cond, ℕ, ◌+◌, ◌*◌, ◌/◌, ◌%◌, ◌-◌, ◌≤◌, ℤ, pos, negsuc, ◌-ℤ◌, leb, ltb, eqb}
use Rattle.calendar.specs.Constants.{years_before_zero, last_year, reform_year, first_skipped, first_gregorian}
use Rattle.calendar.specs.Constants.{year_field, month_field, day_field}
use Rattle.calendar.specs.Constants.{four_years, year_shift, month_rate, rate_scale, day_shift, day_ms, half_day_ms, epoch_day}
use Rattle.calendar.specs.declared.Date.{Date}
use Rattle.calendar.specs.declared.Shifted.{Shifted}

-- The indices of the first, the last and the reform's year.
abbrev pub first_index : ℕ
first_index = year_shift - years_before_zero

abbrev pub last_index : ℕ
last_index = last_year + year_shift

abbrev pub reform_index : ℕ
reform_index = reform_year + year_shift

-- The keys of the first skipped and of the first Gregorian day: a key is yyyymmdd with the year's index for the year.
abbrev pub key_shift : ℕ
key_shift = 10000 * year_shift

abbrev pub skipped_key : ℕ
skipped_key = first_skipped + key_shift

abbrev pub gregorian_key : ℕ
gregorian_key = first_gregorian + key_shift

-- The day number of the first Gregorian day.
abbrev pub reform_day : ℕ
reform_day = 2299161

-- The days from March 1 of the year with index 0 to day number 0, and the day number of March 1 of year 0 in the Gregorian count.
abbrev pub march_shift : ℕ
march_shift = day_shift - 1 - month_rate * 4 / rate_scale

abbrev pub year_zero : ℕ
year_zero = four_years * year_shift / 4 - march_shift + 2

-- The days of four Gregorian centuries, and of five months from March or August on.
abbrev pub four_centuries : ℕ
four_centuries = 146097

abbrev pub five_months : ℕ
five_months = 153

-- The milliseconds from 0h of day number 0 to instant 0.
abbrev pub epoch_ms : ℕ
epoch_ms = day_ms * epoch_day + half_day_ms

-- The index of a year that exists, and 0 for any other.
unfoldable pub year_index : ℤ → ℕ
year_index (pos n) = cond (leb n last_year) (n + year_shift) 0
year_index (negsuc n) = cond (leb n (years_before_zero - 1)) (year_shift - 1 - n) 0

-- The key of the date with index c: yyyymmdd plus key_shift.
abbrev pub key : ℕ → ℕ → ℕ → ℕ
key c m d = 10000 * c + 100 * m + d

-- 1 in a leap year, else 0.
unfoldable pub leap_day : ℕ → ℕ
leap_day c =
    cond (eqb (c % 4) 0)
    (cond (leb c reform_index) 1 (cond (eqb ((c - year_shift) % 100) 0) (cond (eqb ((c - year_shift) % 400) 0) 1 0) 1))
    0

unfoldable pub month_days : ℕ → ℕ → ℕ
month_days c m = cond (eqb m 2) (28 + leap_day c) (30 + (m + m / 8) % 2)

-- The bad field of a skipped day, else 0.
abbrev pub in_gap : ℕ → ℕ
in_gap k = cond (ltb k skipped_key) 0 (cond (ltb k gregorian_key) day_field 0)

-- The first of year, month and day that does not exist, and 0 where the date exists.
unfoldable pub bad_field : ℕ → ℕ → ℕ → ℕ
bad_field c m d =
    cond (eqb c 0) year_field
    (cond (eqb m 0) month_field
    (cond (ltb 12 m) month_field
    (cond (eqb d 0) day_field
    (cond (ltb (month_days c m) d) day_field
    (in_gap (key c m d))))))

-- What year_index gives: 0, or the index of a year.
pub record Index (c : ℕ) : Type 0 where
  pub small : c ≤ last_index
  pub least : (c ≡ 0 → ⊥) → first_index ≤ c

-- An index that some year has, and a date with it that exists.
pub record Sound (c m d : ℕ) : Type 0 where
  pub least : first_index ≤ c
  pub small : c ≤ last_index
  pub exists : bad_field c m d ≡ 0

-- January and February are months 13 and 14 of the year before.
abbrev pub march_year : ℕ → ℕ → ℕ
march_year c m = cond (ltb m 3) (c - 1) c

abbrev pub march_month : ℕ → ℕ
march_month m = cond (ltb m 3) (m + 12) m

-- The noon day number, Julian: a is the year's index.
abbrev pub julian : ℕ → ℕ → ℕ → ℕ
julian a m d = four_years * a / 4 + month_rate * (m + 1) / rate_scale + d - day_shift

-- With beta = 2 - A + A / 4 from 1582-10-15 on.
abbrev pub with_beta : ℕ → ℕ → ℕ
with_beta A n = n + (2 + A / 4) - A

unfoldable pub noon : ℕ → ℕ → ℕ → ℕ
noon c m d =
    cond (ltb (key c m d) gregorian_key)
    (julian (march_year c m) (march_month m) d)
    (with_beta ((march_year c m - year_shift) / 100) (julian (march_year c m) (march_month m) d))

-- The century of a Gregorian day number, and the number that a Julian count would give its date.
abbrev pub century : ℕ → ℕ
century n = (4 * (n - year_zero) + 3) / four_centuries

unfoldable pub julian_count : ℕ → ℕ
julian_count n = cond (ltb n reform_day) n (n + century n - (2 + century n / 4))

-- Of a Julian count: the index of the year that begins in March, the day in it from 0, the month from 0.
unfoldable pub year_of : ℕ → ℕ
year_of j = (4 * (j + march_shift) + 3) / four_years

abbrev pub day_of : ℕ → ℕ → ℕ
day_of j a = j + march_shift - four_years * a / 4

abbrev pub month_of : ℕ → ℕ
month_of r = (5 * r + 2) / five_months

-- The days before the month k of the year that begins in March.
abbrev pub before_month : ℕ → ℕ
before_month k = (five_months * k + 2) / 5

-- The date of the day r, from 0, of the month k, from 0, of the year that begins in March.
abbrev pub from_march : ℕ → ℕ → ℕ → Shifted
from_march a k r =
    record {
      index = cond (ltb k 10) a (a + 1);
      month = cond (ltb k 10) (k + 3) (k - 9);
      day = r - before_month k + 1;
    }

abbrev pub in_year : ℕ → ℕ → Shifted
in_year a r = from_march a (month_of r) r

abbrev pub of_count : ℕ → Shifted
of_count j = in_year (year_of j) (day_of j (year_of j))

-- The date of a day number, and that date with its year as it is written.
abbrev pub date_at : ℕ → Shifted
date_at n = of_count (julian_count n)

abbrev pub plain : Shifted → Date
plain s = record { year = pos s.index -ℤ pos year_shift; month = pos s.month; day = pos s.day }
