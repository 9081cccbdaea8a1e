-- `lines_length` meets its contract. Assumes nothing.
use native.Mathlib.Omega.{arith}
use Rattle.printer.proofs.TableText.{measured_none, measured_more, measured_last}
use Rattle.printer.proofs.lines.lines_length.Goals as goal

pub loop-i-init : goal.loop-i-init
loop-i-init c = measured_none _ _ _ c.requires.0

pub line_length-n-requires : goal.line_length-n-requires
line_length-n-requires c = omega (arith, c.loop-i-test.true, c.requires.1)

pub overflow_add-n : goal.overflow_add-n
overflow_add-n c =
    let l = c.loop-i.invariant in
    omega (arith, l.few, l.low, c.loop-i-test.true, c.requires.1, c.line_length-n.ensures.1)

pub loop-i-preserved : goal.loop-i-preserved
loop-i-preserved c =
    let l = c.loop-i in
    let p = c.line_length-n.ensures in
    measured_more _ _ _ _ l.i _ l.invariant c.loop-i-test.true p.0 p.1

pub returns : goal.returns
returns c = measured_last _ _ _ _ _ c.loop-i.invariant c.loop-i-test.false
