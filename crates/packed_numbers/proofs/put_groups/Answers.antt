-- `put_groups` meets its contract. Assumes nothing.
use lib.ListN.{length-set}
use native.Mathlib.Omega.{arith}
use Rattle.packed_numbers.proofs.Encode.{left_none, left_more, left_room, left_last}
use Rattle.packed_numbers.proofs.put_groups.Goals as goal

pub loop-x-init : goal.loop-x-init
loop-x-init c = left_none _ _ _ c.ranges.v.fits

pub overflow_add-out : goal.overflow_add-out
overflow_add-out c = omega arith

pub overflow_cast-out : goal.overflow_cast-out
overflow_cast-out c = omega arith

pub bounds-out-i : goal.bounds-out-i
bounds-out-i c = omega (arith, left_room _ _ _ _ _ _ c.loop-x.invariant, c.requires)

pub overflow_add-i : goal.overflow_add-i
overflow_add-i c = omega (arith, left_room _ _ _ _ _ _ c.loop-x.invariant, c.requires)

pub loop-x-smaller : goal.loop-x-smaller
loop-x-smaller c = omega arith

pub loop-x-preserved : goal.loop-x-preserved
loop-x-preserved c = left_more _ _ _ _ _ _ c.loop-x.invariant c.loop-x-test.true

pub overflow_cast-out-2 : goal.overflow_cast-out-2
overflow_cast-out-2 c = omega arith

pub bounds-out-i-2 : goal.bounds-out-i-2
bounds-out-i-2 c = omega (arith, left_room _ _ _ _ _ _ c.loop-x.invariant, c.requires)

pub overflow_add-result : goal.overflow_add-result
overflow_add-result c = omega (arith, left_room _ _ _ _ _ _ c.loop-x.invariant, c.requires)

pub shape_of-out : goal.shape_of-out
shape_of-out c = simp length-set c.loop-x.invariant.same

pub returns : goal.returns
returns c = left_last _ _ _ _ _ _ c.loop-x.invariant c.loop-x-test.false
