-- `pieces::sum_half` meets its contract: the sum is that of the places passed. Assumes nothing.
use mathlib.Core.Path.{◌≡◌}
use Prim.Native.Nat.{◌+◌, ◌-◌, ◌≤◌}
use Rattle.pieces.specs.Machine.Parted.{half_sum}
use Rattle.pieces.proofs.sum_half.Given as goal

abbrev pub invariant-loop-i : goal.invariant-loop-i
invariant-loop-i g l = (l.i ≤ l.n + 1) × (l.sum ≡ half_sum g.P.Parity.value l.half l.i)

abbrev pub decreases-loop-i : goal.decreases-loop-i
decreases-loop-i g l = l.n - l.i
