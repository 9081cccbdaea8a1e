-- `mending::writing::write` meets its contract: what is written and what is left are all. Assumes nothing.
use Prim.Native.Nat.{◌-◌}
use lib.ListN.{length}
use Rattle.mending.specs.Machine.Passes.{Came}
use Rattle.mending.proofs.WritingPass.{unwritten}
use Rattle.mending.proofs.writing.write.Given as goal

abbrev pub invariant-loop-i : goal.invariant-loop-i
invariant-loop-i l = Came l.text unwritten l.initial.out l.initial.list l.w l.i l.out l.list

abbrev pub decreases-loop-i : goal.decreases-loop-i
decreases-loop-i l = length l.text - l.i
