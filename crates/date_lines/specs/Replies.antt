-- What the date program prints for each line: the day number, `refused 1`, or, where the line has not three numbers, what is wrong with it.
use Rattle.std.specs.Prelude.{cond, List, [], ◌∷◌, ◌++◌, ℕ, eqb, ℤ, Result, Ok, Err}
use Rattle.units.specs.declared.Refusal.{Refusal}
use Rattle.arith.specs.Naturals.{natural_or}
use Rattle.calendar.specs.Calendar.{day_of_date}
use Rattle.calendar.specs.declared.Date.{Date}
use Rattle.decimals.specs.Texts.{text, line_feed}
use Rattle.decimals.specs.Decimals.{most_digits, decimal}
use Rattle.date_lines.specs.Lines.{fresh, take, reading}
use Rattle.date_lines.specs.declared.reader.Fault.{Fault}
use Rattle.date_lines.specs.declared.reader.Fault.TheVariants.{Empty, Byte, Space, Large, Few, Many}
use Rattle.date_lines.specs.declared.reader.Line.{Line}

-- `refused 1` and a line feed: a date to its day number is never refused otherwise.
unfoldable pub refused : List ℕ
refused = text "refused 1" ++ (line_feed ∷ [])

-- A day number, or that there is none.
unfoldable pub day_text : Result ℤ Refusal → List ℕ
day_text (Ok n) = decimal most_digits (natural_or n 0) ++ (line_feed ∷ [])
day_text (Err r) = refused

-- What is wrong with a line.
unfoldable pub fault_words : Fault → List ℕ
fault_words Empty = text "empty"
fault_words Byte = text "byte"
fault_words Space = text "space"
fault_words Large = text "too large"
fault_words Few = text "too few"
fault_words Many = text "too many"

-- The line that says so.
unfoldable pub fault_text : Fault → List ℕ
fault_text f = text "bad line: " ++ (fault_words f ++ (line_feed ∷ []))

-- The reply to a line.
unfoldable pub reply : Result Date Fault → List ℕ
reply (Ok d) = day_text (day_of_date d.year d.month d.day)
reply (Err f) = fault_text f

-- One byte of the input: the line after it, and what is printed at it.
unfoldable pub after : Result Line Fault → ℕ → Result Line Fault
after s b = cond (eqb b line_feed) fresh (take s b)

unfoldable pub said : Result Line Fault → ℕ → List ℕ
said s b = cond (eqb b line_feed) (reply (reading s)) []

-- A piece of the input: the line after it, and what is printed for it.
unfoldable pub line_after : Result Line Fault → List ℕ → Result Line Fault
line_after s [] = s
line_after s (b ∷ bs) = line_after (after s b) bs

unfoldable pub replies : Result Line Fault → List ℕ → List ℕ
replies s [] = []
replies s (b ∷ bs) = said s b ++ replies (after s b) bs

-- The end of the input: a last line without its line feed has its reply too, unless it is empty.
abbrev pub unless_empty : Result Date Fault → List ℕ
unless_empty (Ok d) = reply (Ok d)
unless_empty (Err f) = elim f as (λ g. List ℕ) [ Empty ↦ [] | _ ↦ reply (Err f) ]

unfoldable pub last_reply : Result Line Fault → List ℕ
last_reply s = unless_empty (reading s)

-- No reply is longer; a caller has so much room for each byte of a piece, and for the last line.
abbrev pub reply_limit : ℕ
reply_limit = 40
