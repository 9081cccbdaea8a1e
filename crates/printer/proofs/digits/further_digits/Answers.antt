-- `further_digits` meets its contract. Assumes nothing.
use native.Mathlib.Omega.{arith}
use Rattle.printer.proofs.DigitsWritten.{counting_none, counting_more, counting_last}
use Rattle.printer.proofs.digits.further_digits.Goals as goal

pub loop-x-init : goal.loop-x-init
loop-x-init c = counting_none _ c.ranges.v.fits

pub overflow_add-n : goal.overflow_add-n
overflow_add-n c = omega (arith, c.loop-x.invariant.few)

pub loop-x-smaller : goal.loop-x-smaller
loop-x-smaller c = omega arith

pub loop-x-preserved : goal.loop-x-preserved
loop-x-preserved c = counting_more _ _ _ c.loop-x.invariant c.loop-x-test.true

pub returns : goal.returns
returns c = counting_last _ _ _ c.loop-x.invariant c.loop-x-test.false
