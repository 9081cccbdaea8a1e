-- `two_more` meets its contract. Assumes nothing.
use native.Mathlib.Omega.{arith}
use Rattle.packed_numbers.proofs.Usual.{ahead, sizes, both_begun}
use Rattle.packed_numbers.proofs.quick.two_more.Goals as goal

pub overflow_mul-both : goal.overflow_mul-both
overflow_mul-both c =
    let p = c.requires in
    let next = ahead p.0 p.1 p.2 p.3 c.byte_at-x.ensures c.byte_at-y.ensures in
    omega (arith, sizes next)

pub overflow_add-both : goal.overflow_add-both
overflow_add-both c =
    let p = c.requires in
    let next = ahead p.0 p.1 p.2 p.3 c.byte_at-x.ensures c.byte_at-y.ensures in
    omega (arith, sizes next)

pub overflow_mul-both-2 : goal.overflow_mul-both-2
overflow_mul-both-2 c =
    let p = c.requires in
    let next = ahead p.0 p.1 p.2 p.3 c.byte_at-x.ensures c.byte_at-y.ensures in
    omega (arith, sizes next)

pub overflow_mul-both-3 : goal.overflow_mul-both-3
overflow_mul-both-3 c =
    let p = c.requires in
    let next = ahead p.0 p.1 p.2 p.3 c.byte_at-x.ensures c.byte_at-y.ensures in
    omega (arith, sizes next)

pub overflow_add-both-2 : goal.overflow_add-both-2
overflow_add-both-2 c =
    let p = c.requires in
    let next = ahead p.0 p.1 p.2 p.3 c.byte_at-x.ensures c.byte_at-y.ensures in
    omega (arith, sizes next)

pub returns : goal.returns
returns c =
    let p = c.requires in
    let next = ahead p.0 p.1 p.2 p.3 c.byte_at-x.ensures c.byte_at-y.ensures in
    both_begun next c.if-x-lt-GROUP.false c.if-y-lt-GROUP.false
