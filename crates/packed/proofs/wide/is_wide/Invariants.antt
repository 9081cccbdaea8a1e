-- `wide::is_wide` meets its contract. Assumes nothing.
use Rattle.packed.proofs.Widening.{Judging}
use Rattle.packed.proofs.wide.is_wide.Given as goal

abbrev pub invariant-loop-k : goal.invariant-loop-k
invariant-loop-k l = Judging l.tallies l.wide l.before l.k
