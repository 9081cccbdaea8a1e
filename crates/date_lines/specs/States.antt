-- A line of the date program as seven plain fields, any values of which are a state: the same readings as in Lines, with a number for each fault.
use Rattle.std.specs.Prelude.{◌≡◌, Bool, true, false, cond, List, [], ◌∷◌, ◌++◌, length, ℕ, ◌+◌, ◌*◌, ◌-◌, ltb, eqb, ℤ, pos}
use Rattle.std.specs.Prelude.{Option, Some, None, Result, Ok, Err}
use Rattle.std.proofs.lemmas.List.Edits.{sets}
use Rattle.integers.specs.Signs.{sgn}
use Rattle.calendar.specs.declared.Date.{Date}
use Rattle.decimals.specs.Decimals.{minus_sign, zero_digit, nine_digit}
use Rattle.date_lines.specs.Lines.{space, digit_limit, greatest, numbers}
use Rattle.date_lines.specs.Replies.{reply}
use Rattle.decimals.specs.Texts.{line_feed}
use Rattle.date_lines.specs.declared.states.Progress.{Progress}
use Rattle.date_lines.specs.declared.reader.Fault.{Fault}
use Rattle.date_lines.specs.declared.reader.Fault.TheVariants.{Empty, Byte, Space, Large, Few, Many}
use Rattle.date_lines.specs.declared.reader.Line.{Line}
use Rattle.date_lines.specs.declared.states.State.{State}
use Rattle.date_lines.specs.declared.states.Reading.{Reading}
use Rattle.date_lines.specs.declared.states.Reading.TheVariants.{Three, Bad}

-- The faults: the line is empty; a byte that no number has there; a space that does not part two numbers; a number past 64 bits; fewer than
-- three numbers; more.
abbrev pub fault_empty : ℕ
fault_empty = 1

abbrev pub fault_byte : ℕ
fault_byte = 2

abbrev pub fault_space : ℕ
fault_space = 3

abbrev pub fault_large : ℕ
fault_large = 4

abbrev pub fault_few : ℕ
fault_few = 5

abbrev pub fault_many : ℕ
fault_many = 6

-- A line with so many numbers ended, of which these are the year and the month, and nothing of the next.
abbrev pub state_waiting : ℕ → ℤ → ℤ → State
state_waiting count year month =
    record { fault = 0; count = count; year = year; month = month; minus = false; digits = false; value = 0 }

-- A line before its first byte.
abbrev pub state_fresh : State
state_fresh = state_waiting 0 (pos 0) (pos 0)

-- A line that has a fault: nothing else is kept of it.
abbrev pub state_faulty : ℕ → State
state_faulty f = record { fault = f; count = 0; year = pos 0; month = pos 0; minus = false; digits = false; value = 0 }

-- The number that is being read passes 64 bits.
abbrev pub state_too_large : State → Bool
state_too_large s = ltb (greatest s.minus) s.value

-- The number that is being read.
abbrev pub state_number : State → ℤ
state_number s = sgn s.minus s.value

-- The number n has ended: the year, the month, or the day, after which nothing may come.
abbrev pub state_ended : State → ℤ → State
state_ended s n =
    cond (eqb s.count 0) (state_waiting 1 n (pos 0))
    (cond (eqb s.count 1) (state_waiting 2 s.year n) (state_waiting 3 s.year s.month))

-- A space ends a number.
unfoldable pub state_at_space : State → State
state_at_space s =
    cond s.digits
    (cond (state_too_large s) (state_faulty fault_large) (state_ended s (state_number s)))
    (cond s.minus (state_faulty fault_byte) (state_faulty fault_space))

-- A minus begins a number.
unfoldable pub state_at_minus : State → State
state_at_minus s =
    cond s.digits (state_faulty fault_byte)
    (cond s.minus (state_faulty fault_byte)
    (record { fault = 0; count = s.count; year = s.year; month = s.month; minus = true; digits = false; value = 0 }))

-- A digit continues it; one more digit than 64 bits hold is too many.
unfoldable pub state_at_digit : State → ℕ → State
state_at_digit s b =
    cond (ltb b zero_digit) (state_faulty fault_byte)
    (cond (ltb nine_digit b) (state_faulty fault_byte)
    (cond (ltb digit_limit s.value) (state_faulty fault_large)
    (record {
      fault = 0;
      count = s.count;
      year = s.year;
      month = s.month;
      minus = s.minus;
      digits = true;
      value = 10 * s.value + (b - zero_digit);
    })))

-- One byte that is no line feed; a fault stays.
unfoldable pub state_take : State → ℕ → State
state_take s b =
    cond (eqb s.fault 0)
    (cond (eqb b space) (state_at_space s)
    (cond (ltb 2 s.count) (state_faulty fault_many)
    (cond (eqb b minus_sign) (state_at_minus s) (state_at_digit s b))))
    s

-- What a line said, at its end.
unfoldable pub state_reading : State → Reading
state_reading s =
    cond (eqb s.fault 0)
    (cond s.digits
    (cond (state_too_large s) (Bad fault_large)
    (cond (ltb s.count 2) (Bad fault_few) (Three s.year s.month (state_number s))))
    (cond s.minus (Bad fault_byte) (cond (eqb s.count 0) (Bad fault_empty) (Bad fault_space))))
    (Bad s.fault)

-- The number of a fault.
abbrev pub fault_number : Fault → ℕ
fault_number Empty = fault_empty
fault_number Byte = fault_byte
fault_number Space = fault_space
fault_number Large = fault_large
fault_number Few = fault_few
fault_number Many = fault_many

-- The digits of a line, of which there may be none.
abbrev pub has_digits : Option ℕ → Bool
has_digits None = false
has_digits (Some v) = true

abbrev pub magnitude : Option ℕ → ℕ
magnitude None = 0
magnitude (Some v) = v

-- The line of a state that has no fault, with such digits.
abbrev pub line_of : State → Option ℕ → Line
line_of s v = record { count = s.count; year = s.year; month = s.month; minus = s.minus; value = v }

-- A line, and what it says at its end, in these fields.
abbrev pub state_of : Result Line Fault → State
state_of (Ok l) =
    record {
      fault = 0;
      count = l.count;
      year = l.year;
      month = l.month;
      minus = l.minus;
      digits = has_digits l.value;
      value = magnitude l.value;
    }
state_of (Err f) = state_faulty (fault_number f)

abbrev pub reading_of : Result Date Fault → Reading
reading_of (Ok d) = Three d.year d.month d.day
reading_of (Err f) = Bad (fault_number f)

-- The bytes of a line, in order.
unfoldable pub state_read : State → List ℕ → State
state_read s [] = s
state_read s (b ∷ bs) = state_read (state_take s b) bs

-- The fault of a number; any other than these is told as too many numbers.
unfoldable pub fault_named : ℕ → Fault
fault_named f =
    cond (eqb f fault_empty) Empty
    (cond (eqb f fault_byte) Byte
    (cond (eqb f fault_space) Space
    (cond (eqb f fault_large) Large
    (cond (eqb f fault_few) Few Many))))

-- What is printed for what a line said.
unfoldable pub state_reply : Reading → List ℕ
state_reply (Three y m d) = reply (Ok (numbers y m d))
state_reply (Bad f) = reply (Err (fault_named f))

-- One byte of the input: the line after it, and what is printed at it.
unfoldable pub state_after : State → ℕ → State
state_after s b = cond (eqb b line_feed) state_fresh (state_take s b)

unfoldable pub state_said : State → ℕ → List ℕ
state_said s b = cond (eqb b line_feed) (state_reply (state_reading s)) []

-- A piece of the input: the line after it, and what is printed for it.
unfoldable pub state_line_after : State → List ℕ → State
state_line_after s [] = s
state_line_after s (b ∷ bs) = state_line_after (state_after s b) bs

unfoldable pub state_replies : State → List ℕ → List ℕ
state_replies s [] = []
state_replies s (b ∷ bs) = state_said s b ++ state_replies (state_after s b) bs

-- The end of the input: a last line without its line feed has its reply too, unless it is empty.
abbrev pub reading_unless_empty : Reading → List ℕ
reading_unless_empty (Three y m d) = state_reply (Three y m d)
reading_unless_empty (Bad f) = cond (eqb f fault_empty) [] (state_reply (Bad f))

unfoldable pub state_last_reply : State → List ℕ
state_last_reply s = reading_unless_empty (state_reading s)

-- What a piece bs of the input leaves, where s is the line before it: the line after it, and the replies from the start of the output.
abbrev pub StateAnswered : State → List ℕ → List ℕ → Progress → List ℕ → Type 0
StateAnswered s bs out r result =
    (r.line ≡ state_line_after s bs) × (r.at ≡ length (state_replies s bs)) × (result ≡ sets out 0 (state_replies s bs))

-- What one byte b of it leaves.
abbrev pub StateAnsweredByte : State → ℕ → List ℕ → ℕ → Progress → List ℕ → Type 0
StateAnsweredByte s b out at r result =
    (r.line ≡ state_after s b) × (r.at ≡ at + length (state_said s b)) × (result ≡ sets out at (state_said s b))

-- What the end of the input leaves: the reply to the last line, from the start of the output.
abbrev pub StateAnsweredLast : State → List ℕ → ℕ → List ℕ → Type 0
StateAnsweredLast s out r result = (r ≡ length (state_last_reply s)) × (result ≡ sets out 0 (state_last_reply s))
