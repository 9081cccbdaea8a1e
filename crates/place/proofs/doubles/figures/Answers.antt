-- `place::doubles::figures` meets its contract. Assumes nothing.
use Rattle.place.proofs.Casts.{figures_are}
use Rattle.place.proofs.doubles.figures.Goals as goal

pub returns : goal.returns
returns c =
    figures_are c.args.p c.requires c.degrees.result c.degrees-2.result c.units_of_distance.result
    c.degrees.ensures c.degrees-2.ensures
    c.units_of_distance.ensures
