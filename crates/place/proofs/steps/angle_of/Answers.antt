-- `place::steps::angle_of` meets its contract. Assumes nothing.
use Rattle.place.proofs.Rebuilt.{steps_ask, angle_is}
use Rattle.place.proofs.steps.angle_of.Goals as goal

pub units_angle-requires : goal.units_angle-requires
units_angle-requires c = steps_ask c.args.k c.requires

pub returns : goal.returns
returns c = angle_is c.args.k c.requires c.units_angle.result c.residue.result c.units_angle.ensures c.residue.ensures
