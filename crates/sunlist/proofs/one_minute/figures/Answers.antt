-- `sunlist::one_minute::figures` meets its contract. Assumes nothing.
use Rattle.sunlist.proofs.Deciding.{earth_asks, vector_asks, sun_asks, unit_asks, separation_asks, figures_are}
use Rattle.sunlist.proofs.one_minute.figures.Goals as goal

pub sun-s-requires : goal.sun-s-requires
sun-s-requires c = earth_asks c.args.k c.args.planet c.args.earth c.requires.1 c.args.v c.requires.2

pub length-requires : goal.length-requires
length-requires c = sun_asks c.args.k c.args.planet c.args.earth c.requires.1 c.args.v c.requires.2 c.sun-s.result c.sun-s.ensures

pub unit-to_sun-requires : goal.unit-to_sun-requires
unit-to_sun-requires c =
    unit_asks c.args.k c.args.planet c.args.earth c.requires.1 c.args.v c.requires.2 c.sun-s.result c.sun-s.ensures c.length.result
    c.length.ensures.0

pub unit-to_planet-requires : goal.unit-to_planet-requires
unit-to_planet-requires c = vector_asks c.args.k c.args.planet c.args.earth c.requires.1 c.args.v c.requires.2

pub separation-q-requires : goal.separation-q-requires
separation-q-requires c =
    separation_asks c.args.k c.args.planet c.args.earth c.requires.1 c.args.v c.requires.2 c.sun-s.result c.sun-s.ensures
    c.unit-to_sun.result c.unit-to_planet.result c.unit-to_sun.ensures c.unit-to_planet.ensures

pub returns : goal.returns
returns c =
    figures_are c.args.k c.args.planet c.args.earth c.requires.1 c.args.v c.requires.2 c.sun-s.result c.sun-s.ensures
    c.unit-to_sun.result c.unit-to_planet.result c.unit-to_sun.ensures c.unit-to_planet.ensures
    c.separation-q.result c.threshold-t.result c.separation-q.ensures c.threshold-t.ensures
