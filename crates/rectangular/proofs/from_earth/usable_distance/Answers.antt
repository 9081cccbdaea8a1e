-- `rectangular::from_earth::usable_distance` meets its contract. Assumes nothing.
use Rattle.rectangular.proofs.Usable.{too_near, sum_fits, far_enough}
use Rattle.rectangular.proofs.from_earth.usable_distance.Goals as goal

pub overflow_add-result : goal.overflow_add-result
overflow_add-result c = sum_fits c.args.planet c.args.earth c.requires.0 c.requires.1

pub returns-then-distance-ge-LEAST_DISTANCE : goal.returns-then-distance-ge-LEAST_DISTANCE
returns-then-distance-ge-LEAST_DISTANCE c =
    far_enough c.args.planet c.args.earth c.requires.0 c.requires.1 c.args.distance c.if-distance-ge-LEAST_DISTANCE.true c.requires.2

pub returns-else-distance-ge-LEAST_DISTANCE : goal.returns-else-distance-ge-LEAST_DISTANCE
returns-else-distance-ge-LEAST_DISTANCE c =
    too_near c.args.planet c.args.earth c.requires.0 c.requires.1 c.args.distance c.if-distance-ge-LEAST_DISTANCE.false
