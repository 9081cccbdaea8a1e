-- At each turn the buffer is empty.
use Rattle.std.proofs.Common.{◌≡◌, [], length}
use Rattle.date.proofs.run.Given as goal

abbrev pub invariant-loop : goal.invariant-loop
invariant-loop g l = (l.out ≡ []) × (length l.piece ≡ 512)
