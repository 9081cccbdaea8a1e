-- `put_digits` meets its contract. Assumes nothing.
use native.Mathlib.Omega.{arith}
use Rattle.printer.proofs.DigitsWritten.{backward_none, backward_more, backward_last}
use Rattle.printer.proofs.digits.put_digits.Goals as goal

pub loop-i-init : goal.loop-i-init
loop-i-init c = backward_none _ _ _ _

pub overflow_add-out : goal.overflow_add-out
overflow_add-out c = omega arith

pub overflow_cast-out : goal.overflow_cast-out
overflow_cast-out c = omega arith

pub overflow_add-out-in-loop-i : goal.overflow_add-out-in-loop-i
overflow_add-out-in-loop-i c = omega (arith, c.loop-i.invariant.bound, c.loop-i.invariant.same, c.requires)

pub bounds-out-at : goal.bounds-out-at
bounds-out-at c = omega (arith, c.loop-i.invariant.bound, c.loop-i.invariant.same, c.requires)

pub loop-i-preserved : goal.loop-i-preserved
loop-i-preserved c = backward_more _ _ _ _ _ _ _ c.loop-i.invariant c.loop-i-test.true

pub overflow_add-result : goal.overflow_add-result
overflow_add-result c = omega (arith, c.requires)

pub shape_of-out : goal.shape_of-out
shape_of-out c = c.loop-i.invariant.same

pub returns : goal.returns
returns c = backward_last _ _ _ _ _ _ _ c.loop-i.invariant c.loop-i-test.false
