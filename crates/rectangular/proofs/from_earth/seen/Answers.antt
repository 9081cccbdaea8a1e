-- `rectangular::from_earth::seen` meets its contract. Assumes nothing.
use Rattle.rectangular.proofs.Sights.{vectors_ask, length_asks, radii_hand, distance_refused, seen_is}
use mathlib.Core.Path.{ap}
use mathlib.Core.Bool.{not}
use Rattle.rectangular.proofs.from_earth.seen.Goals as goal

pub geocentric-vector-requires : goal.geocentric-vector-requires
geocentric-vector-requires c = vectors_ask _ _ c.requires.2 c.requires.3

pub length-distance-requires : goal.length-distance-requires
length-distance-requires c = length_asks _ _ c.requires.2 c.requires.3 c.geocentric-vector.result c.geocentric-vector.ensures

pub usable_distance-requires : goal.usable_distance-requires
usable_distance-requires c =
    let r = radii_hand c.args.planet c.args.earth c.requires.0 c.requires.1 in
    (r.0, r.1, c.length-distance.ensures.1)

pub returns-then-not-usable_distance : goal.returns-then-not-usable_distance
returns-then-not-usable_distance c =
    distance_refused c.args.p c.args.e c.requires.2 c.requires.3 c.geocentric-vector.result c.geocentric-vector.ensures c.args.planet c.args.earth
    c.requires.0 c.requires.1 c.length-distance.result c.length-distance.ensures.0 c.usable_distance.result c.usable_distance.ensures
    (ap not c.if-not-usable_distance.true)

pub returns : goal.returns
returns c =
    seen_is c.args.p c.args.e c.requires.2 c.requires.3 c.geocentric-vector.result c.geocentric-vector.ensures c.args.planet c.args.earth
    c.requires.0 c.requires.1 c.length-distance.result c.length-distance.ensures.0 c.usable_distance.result c.usable_distance.ensures
    (ap not c.if-not-usable_distance.false)
