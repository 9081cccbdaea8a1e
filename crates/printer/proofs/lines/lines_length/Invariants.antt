-- `lines_length` meets its contract. Assumes nothing.
use Rattle.printer.proofs.TableText.{Measured}
use Rattle.printer.proofs.lines.lines_length.Given as goal

abbrev pub invariant-loop-i : goal.invariant-loop-i
invariant-loop-i l = Measured l.table l.from l.end l.n l.i
