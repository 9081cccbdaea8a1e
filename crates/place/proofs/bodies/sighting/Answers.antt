-- `place::bodies::sighting` meets its contract. Assumes nothing.
use Rattle.std.proofs.lemmas.Result.{err_from_is_err_and}
use Rattle.packed.specs.Series.{parse}
use Rattle.series.proofs.Filled.{SeriesIn, series_in, refused_of}
use Rattle.place.proofs.Sightings.{time_past, time_in, parsed_is, planet_refused}
use mathlib.Core.Path.{ap}
use mathlib.Core.Bool.{not}
use Rattle.place.proofs.bodies.sighting.Goals as goal

pub returns-then-not-in_limit : goal.returns-then-not-in_limit
returns-then-not-in_limit c = time_past c.args.planet.now c.args.earth.now c.args.t c.in_limit.result c.in_limit.ensures (ap not c.if-not-in_limit.true)

pub with_earth-requires : goal.with_earth-requires
with_earth-requires c =
    let table : SeriesIn c.args.planet.now c.fill.new.table c.in_ok-content.content =
    series_in _ _ c.fill.result _ c.in_ok-content.was c.fill.ensures.0 c.fill.ensures.1 in
    let inside = time_in c.args.planet.now c.args.earth.now c.args.t c.in_limit.result c.in_limit.ensures (ap not c.if-not-in_limit.false) in
    (inside, table.table, table.wide)

pub returns-in_err-content : goal.returns-in_err-content
returns-in_err-content c =
    let p = err_from_is_err_and c.from_residual.result c.from_residual.ensures.1 in
    rw (p.1, p.2)
    (planet_refused c.args.planet.now c.args.earth.now c.args.t c.in_limit.result c.in_limit.ensures (ap not c.if-not-in_limit.false) _
    (refused_of (parse c.args.planet.now) c.fill.result _ c.in_err-content.was c.fill.ensures.0))

pub returns : goal.returns
returns c =
    let table : SeriesIn c.args.planet.now c.fill.new.table c.in_ok-content.content =
    series_in _ _ c.fill.result _ c.in_ok-content.was c.fill.ensures.0 c.fill.ensures.1 in
    parsed_is c.args.planet.now c.args.earth.now c.args.t c.in_limit.result c.in_limit.ensures (ap not c.if-not-in_limit.false) _
    c.with_earth.result table.parsed c.with_earth.ensures
