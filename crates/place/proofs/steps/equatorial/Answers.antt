-- `place::steps::equatorial` meets its contract. Assumes nothing.
use lib.Dec.{lit<}
use Rattle.place.specs.Machine.Reach.{equator_reach}
use Rattle.place.proofs.Directions.{directions_ask, latitudes_ask, equatorial_is}
use Rattle.place.proofs.steps.equatorial.Goals as goal

pub direction_of-requires : goal.direction_of-requires
direction_of-requires c = directions_ask equator_reach c.args.v.x c.args.v.y (lit< tt) c.requires.0.x_in c.requires.0.y_in

pub latitude_of-requires : goal.latitude_of-requires
latitude_of-requires c = latitudes_ask c.args.v.x c.args.v.y c.args.v.z c.requires.0.x_in c.requires.0.y_in c.requires.0.z_in

pub returns : goal.returns
returns c =
    equatorial_is c.args.v c.requires.0 c.args.distance c.direction_of.result c.latitude_of.result c.requires.1
    c.direction_of.ensures c.latitude_of.ensures
