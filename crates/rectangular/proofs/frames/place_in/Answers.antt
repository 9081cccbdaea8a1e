-- `rectangular::frames::place_in` meets its contract. Assumes nothing.
use Rattle.rectangular.proofs.Radii.{radius_in}
use Rattle.rectangular.proofs.Turn.{turned_asks, theory_told, catalogues_told}
use Rattle.rectangular.proofs.frames.place_in.Goals as goal

pub place-v-requires : goal.place-v-requires
place-v-requires c = radius_in _ c.requires

pub turned-requires : goal.turned-requires
turned-requires c = turned_asks c.args.c c.requires c.place-v.result c.place-v.ensures

pub returns-in-Theory : goal.returns-in-Theory
returns-in-Theory c = theory_told c.args.c c.requires c.place-v.result c.place-v.ensures c.args.frame c.in-Theory.is

pub returns-in-Catalogues : goal.returns-in-Catalogues
returns-in-Catalogues c =
    catalogues_told c.args.c c.requires c.place-v.result c.place-v.ensures c.args.frame c.in-Catalogues.is c.turned.result
    c.turned.ensures
