-- `place::steps::earlier` meets its contract. Assumes nothing.
use Rattle.place.proofs.Light.{earlier_asks, earlier_is}
use Rattle.place.proofs.steps.earlier.Goals as goal

pub overflow_sub-result : goal.overflow_sub-result
overflow_sub-result c = earlier_asks c.args.t c.args.distance c.requires.0 c.requires.1 c.light.result c.light.ensures

pub returns : goal.returns
returns c = earlier_is c.args.t c.args.distance c.requires.0 c.requires.1 c.light.result c.light.ensures
