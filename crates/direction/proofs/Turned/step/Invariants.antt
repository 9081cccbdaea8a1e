-- `direction::Turned::step` meets its contract. The greatest step that is not past lies from `least` to just below `most`. Assumes nothing.
use Prim.Native.Nat.{◌-◌}
use Rattle.direction.proofs.Halving.{Between}
use Rattle.direction.proofs.Turned.step.Given as goal

abbrev pub invariant-loop-most : goal.invariant-loop-most
invariant-loop-most l = Between l.self.x l.self.y l.least l.most

abbrev pub decreases-loop-most : goal.decreases-loop-most
decreases-loop-most l = l.most - l.least
