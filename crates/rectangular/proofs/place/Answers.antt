-- `rectangular::place` meets its contract. Assumes nothing.
use mathlib.Core.Path.{◌≡◌}
use Rattle.arith.proofs.Cells.{Cell, held_lt}
use Rattle.rectangular.proofs.Places.{residue_small, place_is}
use borrow.Author.Rules.{rules}
use Rattle.rectangular.proofs.place.Goals as goal

pub from_angles-requires : goal.from_angles-requires
from_angles-requires c = (held_lt c.args.c.radius c.requires, residue_small _ _ c.parts_angle-b.ensures, residue_small _ _ c.parts_angle-l.ensures)

pub returns : goal.returns
returns c =
    let e : Cell c.args.c.latitude ≡ c.args.c.latitude = search rules in
    let f : Cell c.args.c.longitude ≡ c.args.c.longitude = search rules in
    place_is c.args.c c.parts_angle-b.result c.parts_angle-l.result c.from_angles.result e f c.requires c.parts_angle-b.ensures
    c.parts_angle-l.ensures c.from_angles.ensures
