-- `sunlist::one_minute::threshold` meets its contract. Assumes nothing.
use Rattle.std.proofs.Common.{refl}
use Rattle.sunlist.proofs.Deciding.{square_fits, four_fits, four_is}
use Rattle.sunlist.proofs.one_minute.threshold.Goals as goal

pub overflow_mul-result : goal.overflow_mul-result
overflow_mul-result c = square_fits c.args.k c.sine_at-s.result c.sine_at-s.ensures

pub overflow_mul-result-2 : goal.overflow_mul-result-2
overflow_mul-result-2 c = four_fits c.args.k c.sine_at-s.result c.sine_at-s.ensures _ refl

pub returns : goal.returns
returns c = four_is c.args.k c.sine_at-s.result c.sine_at-s.ensures _ refl _ refl
