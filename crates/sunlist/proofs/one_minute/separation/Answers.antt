-- `sunlist::one_minute::separation` meets its contract. Assumes nothing.
use Rattle.std.proofs.Common.{refl}
use Rattle.sunlist.proofs.Deciding.{x_fits, y_fits, z_fits, xy_fits, sum_fits, sum_is}
use Rattle.sunlist.proofs.one_minute.separation.Goals as goal

pub overflow_mul-result : goal.overflow_mul-result
overflow_mul-result c = x_fits c.args.u c.args.v c.geocentric-w.result c.requires.0 c.requires.1 c.requires.2 c.geocentric-w.ensures

pub overflow_mul-result-2 : goal.overflow_mul-result-2
overflow_mul-result-2 c = y_fits c.args.u c.args.v c.geocentric-w.result c.requires.0 c.requires.1 c.requires.2 c.geocentric-w.ensures

pub overflow_add-result : goal.overflow_add-result
overflow_add-result c =
    xy_fits c.args.u c.args.v c.geocentric-w.result c.requires.0 c.requires.1 c.requires.2 c.geocentric-w.ensures _ _ _ refl refl refl

pub overflow_mul-result-3 : goal.overflow_mul-result-3
overflow_mul-result-3 c = z_fits c.args.u c.args.v c.geocentric-w.result c.requires.0 c.requires.1 c.requires.2 c.geocentric-w.ensures

pub overflow_add-result-2 : goal.overflow_add-result-2
overflow_add-result-2 c =
    sum_fits c.args.u c.args.v c.geocentric-w.result c.requires.0 c.requires.1 c.requires.2 c.geocentric-w.ensures _ _ _ refl refl refl _ refl

pub returns : goal.returns
returns c =
    sum_is c.args.u c.args.v c.geocentric-w.result c.requires.0 c.requires.1 c.requires.2 c.geocentric-w.ensures _ _ _ refl refl refl _ refl _ refl
