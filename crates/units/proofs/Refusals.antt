-- The numbers of refusals: none is 0, and what is made of a reader's number and an offset has that number and that offset. Assumes nothing.
use mathlib.Core.Path.{◌≡◌, ◌∙◌, refl, sym}
use mathlib.Core.Bool.{Bool, true, false, cond}
use mathlib.Core.List.{map}
use Prim.Native.Nat.{ℕ, ◌≤◌}
use lib.Dec.{eqb, lit≤}
use lib.IntN.{pos}
use borrow.Author.Tests.{ne_eqb}
use Rattle.std.proofs.Common.{Result, Ok, Err}
use Rattle.std.specs.Result.{result_unwrap_or}
use Rattle.units.specs.Refusals.{number, figure, reader_numbers, of_number, fault_number, Numbered}
use Rattle.units.specs.Refusals.{over_limit, total_over_limit, too_coarse, no_room, ended_early, byte_after_end, bad_heading, bad_number}
use Rattle.units.specs.declared.Fault.{Fault}
use Rattle.units.specs.declared.Fault.TheVariants.{BadByte as byte_fault, OverLimit as limit_fault, TotalOverLimit as total_fault}
use Rattle.units.specs.declared.Fault.TheVariants.{TooCoarse as coarse_fault, NoRoom as room_fault, EndedEarly as end_fault}
use Rattle.units.specs.declared.Fault.TheVariants.{ByteAfterEnd as after_fault, BadHeading as heading_fault, BadNumber as number_fault}
use Rattle.units.specs.declared.NoFault.{NoFault}
use Rattle.units.specs.declared.Refusal.{Refusal}
use Rattle.units.specs.declared.Refusal.TheVariants.{NoSuchDate, PastLimit, BadByte, OverLimit, TotalOverLimit, TooCoarse}
use Rattle.units.specs.declared.Refusal.TheVariants.{NoRoom, EndedEarly, ByteAfterEnd, NotShortest, NotUsable, BadWindow, BadHeading, BadNumber, TooFar}

pub number_positive : (r : Refusal) → 1 ≤ number r
number_positive (NoSuchDate field) = lit≤ tt
number_positive (PastLimit t) = lit≤ tt
number_positive (BadByte at) = lit≤ tt
number_positive (OverLimit at) = lit≤ tt
number_positive (TotalOverLimit at) = lit≤ tt
number_positive (TooCoarse at) = lit≤ tt
number_positive (NoRoom n) = lit≤ tt
number_positive (EndedEarly n) = lit≤ tt
number_positive (ByteAfterEnd at) = lit≤ tt
number_positive (NotShortest at) = lit≤ tt
number_positive (NotUsable minute) = lit≤ tt
number_positive BadWindow = lit≤ tt
number_positive (BadHeading at) = lit≤ tt
number_positive (BadNumber at) = lit≤ tt
number_positive (TooFar t) = lit≤ tt

pub number_back : (at : ℕ) → map (λ (n : ℕ). number (of_number n at)) reader_numbers ≡ reader_numbers
unfolding of_number
number_back at = refl

-- Of any number, so of those as well.
pub figure_back : (n at : ℕ) → figure (of_number n at) ≡ pos at
unfolding of_number
figure_back n at =
    go (eqb n over_limit) (OverLimit at) _ refl
    (go (eqb n total_over_limit) (TotalOverLimit at) _ refl
    (go (eqb n too_coarse) (TooCoarse at) _ refl
    (go (eqb n no_room) (NoRoom at) _ refl
    (go (eqb n ended_early) (EndedEarly at) _ refl
    (go (eqb n byte_after_end) (ByteAfterEnd at) _ refl
    (go (eqb n bad_heading) (BadHeading at) _ refl
    (go (eqb n bad_number) (BadNumber at) (BadByte at) refl refl)))))))
  where
    go : (b : Bool) (x y : Refusal) → figure x ≡ pos at → figure y ≡ pos at → figure (cond b x y) ≡ pos at
    go true x y e f = e
    go false x y e f = f

-- The refusal of the fault that a number is read as, which is a bad byte's where none has it.
pub read_back : (n at : ℕ) (r : Result Fault NoFault) → Numbered n r → of_number (fault_number (result_unwrap_or r byte_fault)) at ≡ of_number n at
unfolding of_number
read_back n at (Ok fault) h = rw h
read_back n at (Err e) h =
    rw (
      none over_limit limit_fault refl,
      none total_over_limit total_fault refl,
      none too_coarse coarse_fault refl,
      none no_room room_fault refl,
      none ended_early end_fault refl,
      none byte_after_end after_fault refl,
      none bad_heading heading_fault refl,
      none bad_number number_fault refl,
    )
  where
    none : (m : ℕ) (fault : Fault) → fault_number fault ≡ m → eqb n m ≡ false
    none m fault e = ne_eqb n m (λ f. h.1 fault (e ∙ sym f))
