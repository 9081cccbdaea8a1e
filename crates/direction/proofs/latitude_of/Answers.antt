-- `direction::latitude_of` meets its contract. Assumes nothing.
use Rattle.arith.proofs.Signs.{ok}
use Rattle.direction.proofs.Latitudes.{flat_fits, directions_ask, latitude_above, latitude_below}
use Rattle.direction.proofs.latitude_of.Goals as goal

pub overflow_cast-flat : goal.overflow_cast-flat
overflow_cast-flat c =
    flat_fits c.args.x c.args.y c.args.z c.ranges.x c.ranges.y c.ranges.z c.requires.0 c.requires.1 c.length-flat.result c.length-flat.ensures

pub direction_of-k-requires : goal.direction_of-k-requires
direction_of-k-requires c =
    directions_ask c.args.x c.args.y c.args.z c.ranges.x c.ranges.y c.ranges.z c.requires.0 c.requires.1 c.length-flat.result c.length-flat.ensures
    c.unsigned_abs-up.result c.unsigned_abs-up.ensures.value

pub returns-then-z-lt0 : goal.returns-then-z-lt0
returns-then-z-lt0 c =
    latitude_below c.args.x c.args.y c.args.z c.ranges.x c.ranges.y c.ranges.z c.requires.0 c.requires.1 c.length-flat.result c.length-flat.ensures
    c.unsigned_abs-up.result c.unsigned_abs-up.ensures.value c.direction_of-k.result (ok c.direction_of-k.type_inv) c.direction_of-k.ensures
    c.if-z-lt0.true

pub returns-else-z-lt0 : goal.returns-else-z-lt0
returns-else-z-lt0 c =
    latitude_above c.args.x c.args.y c.args.z c.ranges.x c.ranges.y c.ranges.z c.requires.0 c.requires.1 c.length-flat.result c.length-flat.ensures
    c.unsigned_abs-up.result c.unsigned_abs-up.ensures.value c.direction_of-k.result (ok c.direction_of-k.type_inv) c.direction_of-k.ensures
    c.if-z-lt0.false
