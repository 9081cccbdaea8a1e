-- `place::steps::apparent_vector` meets its contract. Assumes nothing.
use Rattle.arith.proofs.Signs.{back}
use Rattle.arith.proofs.Cells.{Cell}
use Rattle.place.proofs.Rebuilt.{to_equator_asks, apparent_vector_is}
use Rattle.place.proofs.steps.apparent_vector.Goals as goal

pub to_equator-requires : goal.to_equator-requires
to_equator-requires c = to_equator_asks (Cell c.args.nutation) _ c.args.v c.rebuild-w.result c.residue.result c.requires c.rebuild-w.ensures c.residue.ensures

pub returns : goal.returns
returns c =
    apparent_vector_is c.args.nutation c.args.obliquity c.args.v c.rebuild-w.result c.to_equator.result c.residue.result
    (back c.args.nutation c.ranges.nutation) c.rebuild-w.ensures (back c.args.obliquity c.ranges.obliquity) c.residue.ensures
    c.to_equator.ensures
