-- `put_digits` meets its contract. Assumes nothing.
use Rattle.printer.proofs.DigitsWritten.{Backward}
use Rattle.printer.proofs.digits.put_digits.Given as goal

abbrev pub invariant-loop-i : goal.invariant-loop-i
invariant-loop-i l = Backward l.v l.n l.at l.initial.out l.out l.x l.i
