-- `pieces::sum_terms` meets its contract: what is summed and what is left are the block's sum. Assumes nothing.
use Prim.Native.Nat.{◌-◌, min}
use Rattle.pieces.specs.Machine.Parted.{Rooms}
use Rattle.pieces.proofs.Summing.{Summed}
use Rattle.pieces.proofs.sum_terms.Given as goal

-- the last step may go past the end
abbrev pub invariant-loop-at : goal.invariant-loop-at
invariant-loop-at l = Summed l.p.t l.table l.from l.to l.sum (min l.at l.to) × Rooms l.evens l.odds

abbrev pub decreases-loop-at : goal.decreases-loop-at
decreases-loop-at l = l.to - l.at
