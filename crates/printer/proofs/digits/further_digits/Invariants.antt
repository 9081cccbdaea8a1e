-- `further_digits` meets its contract. Assumes nothing.
use Rattle.printer.proofs.DigitsWritten.{Counting}
use Rattle.printer.proofs.digits.further_digits.Given as goal

abbrev pub invariant-loop-x : goal.invariant-loop-x
invariant-loop-x l = Counting l.v l.x l.n

abbrev pub decreases-loop-x : goal.decreases-loop-x
decreases-loop-x l = l.x
