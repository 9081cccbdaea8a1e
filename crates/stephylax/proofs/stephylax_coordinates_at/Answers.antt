-- `stephylax::stephylax_coordinates_at` meets its contract. Assumes nothing.
use Rattle.arith.proofs.Signs.{back}
use Rattle.stephylax.proofs.Promises.{c_coordinates_promised}
use Rattle.stephylax.proofs.stephylax_coordinates_at.Goals as goal

pub returns : goal.returns
returns c =
    let p = rw (back c.args.t c.ranges.t) at c.coordinates_at.ensures in
    c_coordinates_promised _ c.args.t _ _ p c.of_coordinates.ensures
