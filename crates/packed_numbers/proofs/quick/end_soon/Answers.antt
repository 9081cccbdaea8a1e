-- `end_soon` meets its contract. Assumes nothing.
use native.Mathlib.Nat.{mul-le-mul_right}
use native.Mathlib.Omega.{arith}
use Rattle.packed_numbers.proofs.Usual.{ahead, sizes, x_last, y_last}
use Rattle.packed_numbers.proofs.quick.end_soon.Goals as goal

pub overflow_mul-one : goal.overflow_mul-one
overflow_mul-one c =
    let p = c.requires in
    let next = ahead p.0 p.1 p.3 p.4 c.byte_at-x.ensures c.byte_at-y.ensures in
    omega (arith, sizes next)

pub overflow_add-one : goal.overflow_add-one
overflow_add-one c =
    let p = c.requires in
    let next = ahead p.0 p.1 p.3 p.4 c.byte_at-x.ensures c.byte_at-y.ensures in
    omega (arith, sizes next)

pub overflow_mul-two : goal.overflow_mul-two
overflow_mul-two c =
    let p = c.requires in
    let next = ahead p.0 p.1 p.3 p.4 c.byte_at-x.ensures c.byte_at-y.ensures in
    omega (arith, sizes next)

pub overflow_mul-two-2 : goal.overflow_mul-two-2
overflow_mul-two-2 c =
    let p = c.requires in
    let next = ahead p.0 p.1 p.3 p.4 c.byte_at-x.ensures c.byte_at-y.ensures in
    omega (arith, sizes next)

pub overflow_add-two : goal.overflow_add-two
overflow_add-two c =
    let p = c.requires in
    let next = ahead p.0 p.1 p.3 p.4 c.byte_at-x.ensures c.byte_at-y.ensures in
    omega (arith, sizes next)

pub returns-then-x-lt-GROUP : goal.returns-then-x-lt-GROUP
returns-then-x-lt-GROUP c =
    let p = c.requires in
    let next = ahead p.0 p.1 p.3 p.4 c.byte_at-x.ensures c.byte_at-y.ensures in
    x_last next c.requires.2 c.if-x-lt-GROUP.true c.if-x-eq0.false

pub overflow_mul-result : goal.overflow_mul-result
overflow_mul-result c =
    let p = c.requires in
    let next = ahead p.0 p.1 p.3 p.4 c.byte_at-x.ensures c.byte_at-y.ensures in
    omega (arith, sizes next)

pub overflow_add-result-2 : goal.overflow_add-result-2
overflow_add-result-2 c =
    let p = c.requires in
    let next = ahead p.0 p.1 p.3 p.4 c.byte_at-x.ensures c.byte_at-y.ensures in
    omega (arith, sizes next)

pub overflow_sub-result-2 : goal.overflow_sub-result-2
overflow_sub-result-2 c =
    let p = c.requires in
    let next = ahead p.0 p.1 p.3 p.4 c.byte_at-x.ensures c.byte_at-y.ensures in
    omega (arith, sizes next, next.begun.above, mul-le-mul_right c.args.scale c.if-x-lt-GROUP.false)

pub returns : goal.returns
returns c =
    let p = c.requires in
    let next = ahead p.0 p.1 p.3 p.4 c.byte_at-x.ensures c.byte_at-y.ensures in
    y_last next c.requires.2 c.if-x-lt-GROUP.false c.if-y-ge-GROUP.false c.if-y-eq0.false
