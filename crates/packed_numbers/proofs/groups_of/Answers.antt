-- `groups_of` meets its contract. Assumes nothing.
use Rattle.packed_numbers.proofs.Encode.{encode_short}
use native.Mathlib.Omega.{arith}
use mathlib.Core.List.{[]}
use Rattle.packed_numbers.proofs.Encode.{left_none, left_more, left_last}
use Rattle.packed_numbers.proofs.groups_of.Goals as goal

pub loop-x-init : goal.loop-x-init
loop-x-init c = left_none [] 1 c.args.v c.ranges.v.fits

pub overflow_add-n : goal.overflow_add-n
overflow_add-n c = omega (arith, encode_short c.args.v)

pub loop-x-smaller : goal.loop-x-smaller
loop-x-smaller c = omega arith

pub loop-x-preserved : goal.loop-x-preserved
loop-x-preserved c = left_more [] 1 _ [] _ _ c.loop-x.invariant c.loop-x-test.true

pub returns : goal.returns
returns c = let h = left_last [] 1 _ [] _ _ c.loop-x.invariant c.loop-x-test.false in omega (arith, h)
