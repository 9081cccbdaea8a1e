-- Which three numbers a line of the date program has, or what is wrong with it. A number is an optional minus and one or more digits, and any
-- number of 64 bits; single spaces part the numbers; nothing else stands on the line. A line is read byte by byte, and the first fault stays.
use Rattle.std.specs.Prelude.{Bool, true, false, cond, List, [], ◌∷◌, ℕ, ◌+◌, ◌*◌, ◌-◌, ◌/◌, ltb, eqb, ℤ, pos, Option, Some, None, Result, Ok, Err}
use Rattle.integers.specs.Signs.{sgn}
use Rattle.calendar.specs.declared.Date.{Date}
use Rattle.decimals.specs.Decimals.{minus_sign, zero_digit, nine_digit}
use Rattle.date_lines.specs.declared.reader.Fault.{Fault}
use Rattle.date_lines.specs.declared.reader.Fault.TheVariants.{Empty, Byte, Space, Large, Few, Many}
use Rattle.date_lines.specs.declared.reader.Line.{Line}

-- The byte that parts two numbers; `line_feed` ends a line.
abbrev pub space : ℕ
space = 32

-- The magnitudes of the least and of the greatest number of 64 bits, and the greatest that has room for one more digit.
abbrev pub least_size : ℕ
least_size = 9223372036854775808

abbrev pub greatest_size : ℕ
greatest_size = least_size - 1

abbrev pub digit_limit : ℕ
digit_limit = greatest_size / 10

-- A line with so many numbers ended, of which these are the year and the month, and nothing of the next.
abbrev pub waiting : ℕ → ℤ → ℤ → Line
waiting count year month = record { count = count; year = year; month = month; minus = false; value = None }

-- A line before its first byte.
abbrev pub fresh : Result Line Fault
fresh = Ok (waiting 0 (pos 0) (pos 0))

-- A line that has a fault: the line is empty; a byte that no number has there; a space that does not part two numbers; a number past 64 bits;
-- fewer than three numbers; more. Nothing else is kept of it.
abbrev pub faulty : Fault → Result Line Fault
faulty f = Err f

-- The greatest magnitude of 64 bits, with a minus and without.
unfoldable pub greatest : Bool → ℕ
greatest minus = cond minus least_size greatest_size

-- The magnitude passes 64 bits.
abbrev pub too_large : Bool → ℕ → Bool
too_large minus v = ltb (greatest minus) v

-- The number of a sign and a magnitude.
abbrev pub number : Bool → ℕ → ℤ
number minus v = sgn minus v

-- The same, if it has 64 bits.
unfoldable pub number_read : Bool → ℕ → Result ℤ Fault
number_read minus v = cond (too_large minus v) (Err Large) (Ok (number minus v))

-- The number n has ended: the year, the month, or the day, after which nothing may come.
abbrev pub ended : Line → ℤ → Line
ended s n =
    cond (eqb s.count 0) (waiting 1 n (pos 0))
    (cond (eqb s.count 1) (waiting 2 s.year n) (waiting 3 s.year s.month))

-- A space ends a number, where there is one.
abbrev pub space_after : Line → Option ℕ → Result Line Fault
space_after s None = cond s.minus (faulty Byte) (faulty Space)
space_after s (Some v) = cond (too_large s.minus v) (faulty Large) (Ok (ended s (number s.minus v)))

unfoldable pub at_space : Line → Result Line Fault
at_space s = space_after s s.value

-- A minus begins a number, where there is none.
abbrev pub minus_after : Line → Option ℕ → Result Line Fault
minus_after s None = cond s.minus (faulty Byte) (Ok (record s { minus = true }))
minus_after s (Some v) = faulty Byte

unfoldable pub at_minus : Line → Result Line Fault
at_minus s = minus_after s s.value

-- The magnitude of the digits so far.
abbrev pub so_far : Option ℕ → ℕ
so_far None = 0
so_far (Some v) = v

-- A digit continues it; one more digit than 64 bits hold is too many.
unfoldable pub at_digit : Line → ℕ → Result Line Fault
at_digit s b =
    cond (ltb b zero_digit) (faulty Byte)
    (cond (ltb nine_digit b) (faulty Byte)
    (cond (ltb digit_limit (so_far s.value)) (faulty Large)
    (Ok (record s { value = Some (10 * so_far s.value + (b - zero_digit)) }))))

-- One byte that is no line feed; a fault stays.
unfoldable pub take : Result Line Fault → ℕ → Result Line Fault
take (Ok s) b =
    cond (eqb b space) (at_space s)
    (cond (ltb 2 s.count) (faulty Many)
    (cond (eqb b minus_sign) (at_minus s) (at_digit s b)))
take (Err f) b = Err f

-- Three numbers, as a date.
abbrev pub numbers : ℤ → ℤ → ℤ → Date
numbers y m d = record { year = y; month = m; day = d }

-- What a line said, at its end: its three numbers, or its first fault.
abbrev pub end_after : Line → Option ℕ → Result Date Fault
end_after s None = cond s.minus (Err Byte) (cond (eqb s.count 0) (Err Empty) (Err Space))
end_after s (Some v) =
    cond (too_large s.minus v) (Err Large)
    (cond (ltb s.count 2) (Err Few) (Ok (numbers s.year s.month (number s.minus v))))

unfoldable pub reading : Result Line Fault → Result Date Fault
reading (Ok s) = end_after s s.value
reading (Err f) = Err f

-- The bytes of a line, in order.
unfoldable pub read : Result Line Fault → List ℕ → Result Line Fault
read s [] = s
read s (b ∷ bs) = read (take s b) bs
