-- What is counted and what is left are all.
use Rattle.runs.proofs.WindowLoops.{Counted}
use Rattle.runs.proofs.count.Given as goal

abbrev pub invariant-loop-i : goal.invariant-loop-i
invariant-loop-i l = Counted l.window l.n l.i
