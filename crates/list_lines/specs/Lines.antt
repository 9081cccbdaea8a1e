-- The line of a run: its first and last minute, then their clock times, as `12 to 40, 00:12 to 00:40`.
use Rattle.std.specs.Prelude.{List, [], ◌∷◌, ◌++◌, ℕ, ◌+◌, ◌*◌, ◌/◌, ◌%◌}
use Rattle.decimals.specs.Texts.{text}
use Rattle.decimals.specs.Decimals.{zero_digit, most_digits, decimal}

-- The minutes of an hour, and of a day.
abbrev pub hour : ℕ
hour = 60

abbrev pub day : ℕ
day = 24 * hour

-- A number below a hundred as two digits.
unfoldable pub two_digits : ℕ → List ℕ
two_digits n = (zero_digit + n / 10) ∷ (zero_digit + n % 10) ∷ []

-- A minute of the day as hour and minute.
unfoldable pub clock_text : ℕ → List ℕ
clock_text m = two_digits (m / hour) ++ (text ":" ++ two_digits (m % hour))

-- The minutes of a run, and their clock times, where minute 0 is at this minute of the day.
unfoldable pub minutes_text : ℕ → ℕ → List ℕ
minutes_text first last = decimal most_digits first ++ (text " to " ++ (decimal most_digits last ++ text ", "))

unfoldable pub clocks_text : ℕ → ℕ → ℕ → List ℕ
clocks_text start first last = clock_text ((start + first) % day) ++ (text " to " ++ (clock_text ((start + last) % day) ++ text "\n"))

unfoldable pub run_text : ℕ → ℕ → ℕ → List ℕ
run_text start first last = minutes_text first last ++ clocks_text start first last

-- No text of a run's minutes is longer, none of its clock times, and no line.
abbrev pub minutes_most : ℕ
minutes_most = 2 * most_digits + 6

abbrev pub clocks_most : ℕ
clocks_most = 15

abbrev pub run_most : ℕ
run_most = minutes_most + clocks_most
