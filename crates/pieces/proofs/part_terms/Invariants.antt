-- `pieces::part_terms` meets its contract: the values in the tables and the terms that are left are the piece's sum. Assumes nothing.
use Rattle.pieces.proofs.Parting.{Partly}
use Rattle.pieces.proofs.part_terms.Given as goal

abbrev pub invariant-loop-i : goal.invariant-loop-i
invariant-loop-i l = Partly l.p.t l.table l.from l.to l.evens l.odds l.n l.i
