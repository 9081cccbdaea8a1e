-- The fields of a date by their numbers, and a date of three fields as the code counts it.
use Rattle.std.specs.Prelude.{◌≡◌, ℕ, ◌≤◌, ℤ, pos, Result, Ok, Err}
use Rattle.calendar.specs.Calendar.{noon_number}
use Rattle.calendar.specs.Constants.{year_field, month_field, day_field, ms_field, number_field, last_day}
use Rattle.calendar.specs.declared.Field.{Field}
use Rattle.calendar.specs.declared.Field.TheVariants.{Year, Month, Day, Ms, Number}
use Rattle.calendar.specs.declared.Shifted.{Shifted}
use Rattle.calendar.specs.Machine.Shifted.{Sound, noon}

abbrev pub field_number : Field → ℕ
field_number Year = year_field
field_number Month = month_field
field_number Day = day_field
field_number Ms = ms_field
field_number Number = number_field

-- The number of the field that a judgement of the code names, or 0.
abbrev pub bad_number : {A : Type 0} → Result A Field → ℕ
bad_number (Ok x) = 0
bad_number (Err field) = field_number field

-- What is known of the date of three fields that exist: it is one, and its day number is theirs.
pub record Counted (y m d : ℤ) (s : Shifted) : Type 0 where
  pub sound : Sound s.index s.month s.day
  pub number : pos (noon s.index s.month s.day) ≡ noon_number y m d
  pub small : noon s.index s.month s.day ≤ last_day
