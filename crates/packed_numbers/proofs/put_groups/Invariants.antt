-- `put_groups` meets its contract. Assumes nothing.
use Rattle.packed_numbers.proofs.Encode.{Left}
use Rattle.packed_numbers.proofs.put_groups.Given as goal

abbrev pub invariant-loop-x : goal.invariant-loop-x
invariant-loop-x l = Left l.initial.out l.at l.v l.out l.i l.x

abbrev pub decreases-loop-x : goal.decreases-loop-x
decreases-loop-x l = l.x
