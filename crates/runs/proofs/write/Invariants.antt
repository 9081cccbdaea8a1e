-- What is written and what is left give the whole.
use Rattle.runs.proofs.WindowLoops.{Written}
use Rattle.runs.proofs.write.Given as goal

abbrev pub invariant-loop-i : goal.invariant-loop-i
invariant-loop-i l = Written l.window l.initial.out l.out l.at l.i
