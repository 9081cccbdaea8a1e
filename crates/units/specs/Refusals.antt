-- RULES, "Refusals and what they leave": the number of each refusal and the figure that comes with it.
use Rattle.std.specs.Prelude.{◌≡◌, ◌≢◌, cond, List, [], ◌∷◌, ℕ, eqb, ℤ, pos, Result, MatchResult}
use Rattle.units.specs.declared.Fault.{Fault}
use Rattle.units.specs.declared.Fault.TheVariants.{BadByte as byte_fault, OverLimit as limit_fault, TotalOverLimit as total_fault}
use Rattle.units.specs.declared.Fault.TheVariants.{TooCoarse as coarse_fault, NoRoom as room_fault, EndedEarly as end_fault}
use Rattle.units.specs.declared.Fault.TheVariants.{ByteAfterEnd as after_fault, BadHeading as heading_fault, BadNumber as number_fault}
use Rattle.units.specs.declared.NoFault.{NoFault}
use Rattle.units.specs.declared.Figure.{Figure}
use Rattle.units.specs.declared.Figure.TheVariants.{Count, Time}
use Rattle.units.specs.declared.Refusal.{Refusal}
use Rattle.units.specs.declared.Refusal.TheVariants.{NoSuchDate, PastLimit, BadByte, OverLimit, TotalOverLimit, TooCoarse}
use Rattle.units.specs.declared.Refusal.TheVariants.{NoRoom, EndedEarly, ByteAfterEnd, NotShortest, NotUsable, BadWindow, BadHeading, BadNumber, TooFar}

-- The numbers. src/lib.rt has the same names.
abbrev pub no_such_date : ℕ
no_such_date = 1

abbrev pub past_limit : ℕ
past_limit = 2

abbrev pub bad_byte : ℕ
bad_byte = 3

abbrev pub over_limit : ℕ
over_limit = 4

abbrev pub total_over_limit : ℕ
total_over_limit = 5

abbrev pub too_coarse : ℕ
too_coarse = 6

abbrev pub no_room : ℕ
no_room = 7

abbrev pub ended_early : ℕ
ended_early = 8

abbrev pub byte_after_end : ℕ
byte_after_end = 9

abbrev pub not_shortest : ℕ
not_shortest = 10

abbrev pub not_usable : ℕ
not_usable = 11

abbrev pub bad_window : ℕ
bad_window = 12

abbrev pub bad_heading : ℕ
bad_heading = 13

abbrev pub bad_number : ℕ
bad_number = 14

abbrev pub too_far : ℕ
too_far = 17

-- The number of a refusal.
abbrev pub number : Refusal → ℕ
number (NoSuchDate field) = no_such_date
number (PastLimit t) = past_limit
number (BadByte at) = bad_byte
number (OverLimit at) = over_limit
number (TotalOverLimit at) = total_over_limit
number (TooCoarse at) = too_coarse
number (NoRoom n) = no_room
number (EndedEarly n) = ended_early
number (ByteAfterEnd at) = byte_after_end
number (NotShortest at) = not_shortest
number (NotUsable minute) = not_usable
number BadWindow = bad_window
number (BadHeading at) = bad_heading
number (BadNumber at) = bad_number
number (TooFar t) = too_far

-- What comes with it.
abbrev pub figure : Refusal → ℤ
figure (NoSuchDate field) = pos field
figure (PastLimit t) = t.ms
figure (BadByte at) = pos at
figure (OverLimit at) = pos at
figure (TotalOverLimit at) = pos at
figure (TooCoarse at) = pos at
figure (NoRoom n) = pos n
figure (EndedEarly n) = pos n
figure (ByteAfterEnd at) = pos at
figure (NotShortest at) = pos at
figure (NotUsable minute) = pos minute
figure BadWindow = pos 0
figure (BadHeading at) = pos at
figure (BadNumber at) = pos at
figure (TooFar t) = t.ms

-- The numbers that the readers of texts and of published files give, and the refusal of such a number, at an offset. Of any other number, which
-- no reader's state holds that a call gave, it is that of a bad byte.
abbrev pub reader_numbers : List ℕ
reader_numbers =
    bad_byte ∷ over_limit ∷ total_over_limit ∷ too_coarse ∷ no_room ∷ ended_early ∷ byte_after_end ∷ bad_heading ∷ bad_number ∷ []

unfoldable pub of_number : ℕ → ℕ → Refusal
of_number n at =
    cond (eqb n over_limit) (OverLimit at)
    (cond (eqb n total_over_limit) (TotalOverLimit at)
    (cond (eqb n too_coarse) (TooCoarse at)
    (cond (eqb n no_room) (NoRoom at)
    (cond (eqb n ended_early) (EndedEarly at)
    (cond (eqb n byte_after_end) (ByteAfterEnd at)
    (cond (eqb n bad_heading) (BadHeading at)
    (cond (eqb n bad_number) (BadNumber at)
    (BadByte at))))))))

-- A figure of the code as a whole number; the instant of refusals 2 and 17 may be negative.
abbrev pub whole : Figure → ℤ
whole (Count n) = pos n
whole (Time t) = t.ms

-- The number of a reader's fault, which is that of its refusal.
abbrev pub fault_number : Fault → ℕ
fault_number byte_fault = bad_byte
fault_number limit_fault = over_limit
fault_number total_fault = total_over_limit
fault_number coarse_fault = too_coarse
fault_number room_fault = no_room
fault_number end_fault = ended_early
fault_number after_fault = byte_after_end
fault_number heading_fault = bad_heading
fault_number number_fault = bad_number

-- What a number is read as: the fault that has it, or an error with a number that none has.
abbrev pub Numbered : ℕ → Result Fault NoFault → Type 0
Numbered n r = MatchResult r (λ fault. fault_number fault ≡ n) (λ e. (e.0 ≡ n) × ((fault : Fault) → fault_number fault ≢ n))
