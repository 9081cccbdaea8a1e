-- `place::apparent_place` meets its contract. Assumes nothing.
use Rattle.std.proofs.lemmas.Result.{err_from_is_err_and}
use Rattle.place.proofs.Answers.{good, apparent_in, no_place, place_is}
use Rattle.place.proofs.apparent_place.Goals as goal

pub apparent-a-requires : goal.apparent-a-requires
apparent-a-requires c =
    let h = good c.args.planet.now c.args.earth.now c.args.t c.sighting.result c.sighting.ensures _ c.in_ok-g.was in
    (h.in_time, h.clear.vector_in)

pub equatorial-requires : goal.equatorial-requires
equatorial-requires c =
    let h = good c.args.planet.now c.args.earth.now c.args.t c.sighting.result c.sighting.ensures _ c.in_ok-g.was in
    (apparent_in c.args.t _ c.apparent-a.result h.clear.vector_in c.apparent-a.ensures, h.clear.distance_in)

pub returns-in_err-g : goal.returns-in_err-g
returns-in_err-g c =
    let p = err_from_is_err_and c.from_residual.result c.from_residual.ensures.1 in
    rw (p.1, p.2)
    (no_place c.args.planet.now c.args.earth.now c.args.t c.sighting.result c.sighting.ensures _ c.in_err-g.was)

pub returns : goal.returns
returns c =
    place_is c.args.planet.now c.args.earth.now c.args.t c.sighting.result c.sighting.ensures _ c.apparent-a.result
    c.equatorial.result c.in_ok-g.was c.apparent-a.ensures c.equatorial.ensures
