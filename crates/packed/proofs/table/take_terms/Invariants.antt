-- `take_terms` meets its contract. Assumes nothing.
use Rattle.packed.proofs.Walking.{Taken}
use Rattle.packed.proofs.table.take_terms.Given as goal

abbrev pub invariant-loop-k : goal.invariant-loop-k
invariant-loop-k l = Taken l.bytes l.at l.f l.from l.fn.tally.terms l.fn.tally l.initial.terms l.terms l.read.value l.read.next l.k
