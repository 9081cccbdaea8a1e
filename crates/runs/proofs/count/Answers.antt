-- `runs::count` meets its contract. Assumes nothing.
use Rattle.runs.proofs.WindowLoops.{counted_none, counted_more, counted_all}
use Rattle.runs.proofs.count.Goals as goal

pub loop-i-init : goal.loop-i-init
loop-i-init c = counted_none _

pub loop-i-preserved : goal.loop-i-preserved
loop-i-preserved c = let m = c.count_at-n.ensures in counted_more _ _ _ _ c.loop-i.invariant c.loop-i-test.true m.0 m.1

pub returns : goal.returns
returns c = counted_all _ _ _ c.loop-i.invariant c.loop-i-test.false
