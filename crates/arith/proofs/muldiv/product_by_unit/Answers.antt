-- `arith::muldiv::product_by_unit` meets its contract: m split at U. Assumes nothing.
use Prim.Native.Nat.{◌+◌, ◌*◌, ◌/◌, ◌%◌, ◌<◌, ◌^◌}
use native.Mathlib.Nat.{lt_of_le_of_lt, mul-le-mul_right}
use lib.Dec.{lit<}
use Rattle.units.specs.Units.{U}
use Rattle.arith.proofs.Long.{quotient, le_left}
use Rattle.arith.proofs.Split.{split, split_below, small_factor, low_factor}
use Rattle.arith.proofs.muldiv.product_by_unit.Goals as goal

pub overflow_mul-p : goal.overflow_mul-p
overflow_mul-p c = record { fits = low_factor c.args.m c.args.k U _ (lit< tt) (lt_of_le_of_lt (mul-le-mul_right U c.requires) (lit< tt)) }

pub overflow_mul-result : goal.overflow_mul-result
overflow_mul-result c =
    let whole : c.args.m / U * c.args.k + c.args.m % U * c.args.k / U < 2 ^ 64 =
    split_below c.args.m c.args.k U _ (lit< tt) (small_factor c.args.m c.args.k U _ (lit< tt) c.requires c.ranges.m.fits) in
    record { fits = le_left _ _ (whole) }

pub overflow_add-result : goal.overflow_add-result
overflow_add-result c =
    let whole : c.args.m / U * c.args.k + c.args.m % U * c.args.k / U < 2 ^ 64 =
    split_below c.args.m c.args.k U _ (lit< tt) (small_factor c.args.m c.args.k U _ (lit< tt) c.requires c.ranges.m.fits) in
    record { fits = whole }

pub returns : goal.returns
returns c = quotient _ _ _ _ (split c.args.m c.args.k U (lit< tt))
