-- `groups_of` meets its contract. Assumes nothing.
use mathlib.Core.List.{[]}
use Rattle.packed_numbers.proofs.Encode.{Left}
use Rattle.packed_numbers.proofs.groups_of.Given as goal

abbrev pub invariant-loop-x : goal.invariant-loop-x
invariant-loop-x l = Left [] 1 l.v [] l.n l.x

abbrev pub decreases-loop-x : goal.decreases-loop-x
decreases-loop-x l = l.x
