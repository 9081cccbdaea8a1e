-- `direction::Turned::step` meets its contract. The greatest step that is not past lies from `least` to just below `most`. Assumes nothing.
use mathlib.Core.Path.{◌∙◌, sym}
use native.Mathlib.Omega.{arith}
use Rattle.direction.proofs.Halving.{between_all, between_up, between_down, between_done}
use Rattle.direction.proofs.Turned.step.Goals as goal

pub loop-most-init : goal.loop-most-init
loop-most-init c = between_all c.args.self.x c.args.self.y

pub loop-most-preserved-then-is_not_past : goal.loop-most-preserved-then-is_not_past
loop-most-preserved-then-is_not_past c =
    between_up c.args.self.x c.args.self.y c.loop-most.least c.loop-most.most _ c.loop-most.invariant (omega arith) (omega arith)
    (sym c.is_not_past.ensures ∙ c.if-is_not_past.true)

pub loop-most-preserved : goal.loop-most-preserved
loop-most-preserved c =
    between_down c.args.self.x c.args.self.y c.loop-most.least c.loop-most.most _ c.loop-most.invariant (omega arith) (omega arith)
    (sym c.is_not_past.ensures ∙ c.if-is_not_past.false)

pub returns : goal.returns
returns c = (between_done c.args.self.x c.args.self.y c.loop-most.least c.loop-most.most c.loop-most.invariant (omega arith), omega arith)
