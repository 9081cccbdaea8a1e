-- `place::steps::rebuild` meets its contract. Assumes nothing.
use native.Mathlib.Omega.{arith}
use lib.Dec.{lit<}
use Rattle.arith.proofs.Signs.{back}
use Rattle.rectangular.proofs.Places.{smaller}
use Rattle.place.specs.Machine.Reach.{reach, equator_reach}
use Rattle.place.proofs.Directions.{directions_ask, latitudes_ask}
use Rattle.place.proofs.Rebuilt.{latitude_asks, direction_asks, sum_fits, angles_ask, rebuilt_is}
use Rattle.place.proofs.steps.rebuild.Goals as goal

pub direction_of-k-requires : goal.direction_of-k-requires
direction_of-k-requires c = directions_ask reach c.args.v.x c.args.v.y (lit< tt) c.requires.x_in c.requires.y_in

pub latitude_of-h-requires : goal.latitude_of-h-requires
latitude_of-h-requires c =
    let w = smaller reach equator_reach c.args.v (omega arith) c.requires in
    latitudes_ask c.args.v.x c.args.v.y c.args.v.z w.x_in w.y_in w.z_in

pub angle_of-b-requires : goal.angle_of-b-requires
angle_of-b-requires c =
    latitude_asks c.args.v c.args.nutation c.requires (back c.args.nutation c.ranges.nutation)
    c.direction_of-k.result c.latitude_of-h.result c.direction_of-k.ensures c.latitude_of-h.ensures

pub angle_of-a-requires : goal.angle_of-a-requires
angle_of-a-requires c =
    direction_asks c.args.v c.args.nutation c.requires (back c.args.nutation c.ranges.nutation)
    c.direction_of-k.result c.latitude_of-h.result c.direction_of-k.ensures c.latitude_of-h.ensures

pub overflow_add-a : goal.overflow_add-a
overflow_add-a c =
    record {
      fits = sum_fits c.args.v c.args.nutation c.requires (back c.args.nutation c.ranges.nutation)
          c.direction_of-k.result c.latitude_of-h.result c.direction_of-k.ensures c.latitude_of-h.ensures c.angle_of-b.result c.angle_of-a.result
          c.residue-n.result c.angle_of-b.ensures c.angle_of-a.ensures c.residue-n.ensures;
    }

pub from_angles-requires : goal.from_angles-requires
from_angles-requires c =
    angles_ask c.args.v c.args.nutation c.requires (back c.args.nutation c.ranges.nutation)
    c.direction_of-k.result c.latitude_of-h.result c.direction_of-k.ensures c.latitude_of-h.ensures
    c.angle_of-b.result c.angle_of-a.result c.residue-n.result c.angle_of-b.ensures c.angle_of-a.ensures c.residue-n.ensures
    c.length-r.result c.length-r.ensures.0

pub returns : goal.returns
returns c =
    rebuilt_is c.args.v c.args.nutation c.requires (back c.args.nutation c.ranges.nutation)
    c.direction_of-k.result c.latitude_of-h.result c.direction_of-k.ensures c.latitude_of-h.ensures
    c.angle_of-b.result c.angle_of-a.result c.residue-n.result c.angle_of-b.ensures c.angle_of-a.ensures c.residue-n.ensures
    c.length-r.result c.length-r.ensures.0 c.from_angles.result c.from_angles.ensures
