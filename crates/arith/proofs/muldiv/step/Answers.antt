-- `arith::muldiv::step` meets its contract. Assumes nothing.
use Prim.Native.Nat.{◌+◌, ◌*◌, ◌<◌, ◌^◌}
use Rattle.arith.specs.Machine.Digits.{base}
use Rattle.arith.proofs.Long.{quotient, digit, digit_fits, sum_fits, above_zero, times_base, le_left, le_right}
use Rattle.arith.proofs.muldiv.step.Goals as goal

pub overflow_mul-x : goal.overflow_mul-x
overflow_mul-x c = record { fits = times_base c.requires.0 c.requires.1 }

pub overflow_mul-x-2 : goal.overflow_mul-x-2
overflow_mul-x-2 c =
    let sum : c.args.r * base + c.args.g * c.args.b < 2 ^ 64 =
    sum_fits c.args.r c.args.g c.args.b c.args.d c.requires.0 c.requires.1 c.requires.2 c.requires.3 in
    record { fits = le_right _ _ (sum) }

pub overflow_add-x : goal.overflow_add-x
overflow_add-x c =
    let sum : c.args.r * base + c.args.g * c.args.b < 2 ^ 64 =
    sum_fits c.args.r c.args.g c.args.b c.args.d c.requires.0 c.requires.1 c.requires.2 c.requires.3 in
    record { fits = sum }

pub overflow_mul-result : goal.overflow_mul-result
overflow_mul-result c =
    let positive : 0 < c.args.d = above_zero c.requires.0 in
    record { fits = le_left _ _ (digit_fits c.args.q c.args.r c.args.g c.args.b c.args.d (positive) c.requires.4) }

pub nonzero_div-result : goal.nonzero_div-result
nonzero_div-result c =
    let positive : 0 < c.args.d = above_zero c.requires.0 in
    positive

pub overflow_add-result : goal.overflow_add-result
overflow_add-result c =
    let positive : 0 < c.args.d = above_zero c.requires.0 in
    record { fits = digit_fits c.args.q c.args.r c.args.g c.args.b c.args.d (positive) c.requires.4 }

pub nonzero_rem-result : goal.nonzero_rem-result
nonzero_rem-result c =
    let positive : 0 < c.args.d = above_zero c.requires.0 in
    positive

pub returns : goal.returns
returns c =
    let positive : 0 < c.args.d = above_zero c.requires.0 in
    quotient _ _ _ _ (digit c.args.q c.args.r c.args.g c.args.b c.args.d (positive))
