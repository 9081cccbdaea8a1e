-- The constants of RULES, "Calendar", each named once; src/lib.rt has the same names.
use Rattle.std.specs.Prelude.{ℕ, ◌-◌, ◌/◌}

-- The years are from -4712 to 9999.
abbrev pub years_before_zero : ℕ
years_before_zero = 4712

abbrev pub last_year : ℕ
last_year = 9999

-- The year in which the Gregorian calendar follows the Julian, and, written yyyymmdd, its first and its last skipped day and the first Gregorian day.
abbrev pub reform_year : ℕ
reform_year = 1582

abbrev pub first_skipped : ℕ
first_skipped = 15821005

abbrev pub last_skipped : ℕ
last_skipped = 15821014

abbrev pub first_gregorian : ℕ
first_gregorian = 15821015

-- What refusal 1 calls the fields of a date with milliseconds, in the order in which they are judged, and a day number.
abbrev pub year_field : ℕ
year_field = 1

abbrev pub month_field : ℕ
month_field = 2

abbrev pub day_field : ℕ
day_field = 3

abbrev pub ms_field : ℕ
ms_field = 4

abbrev pub number_field : ℕ
number_field = 5

-- The formula of the noon day number: the days of four Julian years, the shift that leaves no year negative, 30.6001 days a month as a fraction,
-- and the shift of the days.
abbrev pub four_years : ℕ
four_years = 1461

abbrev pub year_shift : ℕ
year_shift = 4716

abbrev pub month_rate : ℕ
month_rate = 306001

abbrev pub rate_scale : ℕ
rate_scale = 10000

abbrev pub day_shift : ℕ
day_shift = 1524

-- The noon day numbers are from 0 to this.
abbrev pub last_day : ℕ
last_day = 5373484

-- The milliseconds of a day, the last of them, counted from 0, and half a day.
abbrev pub day_ms : ℕ
day_ms = 86400000

abbrev pub last_ms : ℕ
last_ms = day_ms - 1

abbrev pub half_day_ms : ℕ
half_day_ms = day_ms / 2

-- The day number of 2000-01-01, at whose noon t is 0.
abbrev pub epoch_day : ℕ
epoch_day = 2451545
