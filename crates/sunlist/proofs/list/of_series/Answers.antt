-- `sunlist::list::of_series` meets its contract. Assumes nothing.
use Rattle.std.proofs.Common.{ap₂, ◌&&◌}
use Rattle.std.proofs.lemmas.Result.{err_from_is_err_and}
use Rattle.packed.specs.Series.{parse}
use Rattle.series.proofs.Filled.{SeriesIn, series_in, refused_of}
use Rattle.sunlist.proofs.Listing.{answers_as}
use Rattle.sunlist.proofs.Tabled.{planet_refused, earth_refused, both_accepted}
use Rattle.sunlist.proofs.list.of_series.Goals as goal

pub returns-in_err-of_planet : goal.returns-in_err-of_planet
returns-in_err-of_planet c =
    let p = err_from_is_err_and c.from_residual.result c.from_residual.ensures.1 in
    rw (p.1, p.2)
    (planet_refused (parse c.args.planet.now) (parse c.args.earth.now) c.args.window.t0 c.args.window.minutes c.args.window.keep_out c.args.out.now _
    (refused_of (parse c.args.planet.now) c.fill.result _ c.in_err-of_planet.was c.fill.ensures.0))

pub returns-in_err-of_earth : goal.returns-in_err-of_earth
returns-in_err-of_earth c =
    let p = err_from_is_err_and c.from_residual-in_err-of_earth.result c.from_residual-in_err-of_earth.ensures.1 in
    let planet : SeriesIn c.args.planet.now c.fill.new.table c.in_ok-of_planet.of_planet =
    series_in _ _ c.fill.result _ c.in_ok-of_planet.was c.fill.ensures.0 c.fill.ensures.1 in
    rw (p.1, p.2)
    (earth_refused (parse c.args.planet.now) (parse c.args.earth.now) c.args.window.t0 c.args.window.minutes c.args.window.keep_out c.args.out.now _ _
    planet.parsed (refused_of (parse c.args.earth.now) c.fill-2.result _ c.in_err-of_earth.was c.fill-2.ensures.0))

pub invariant_of-bodies : goal.invariant_of-bodies
invariant_of-bodies c =
    let planet : SeriesIn c.args.planet.now c.fill.new.table c.in_ok-of_planet.of_planet =
    series_in _ _ c.fill.result _ c.in_ok-of_planet.was c.fill.ensures.0 c.fill.ensures.1 in
    let earth : SeriesIn c.args.earth.now c.fill-2.new.table c.in_ok-of_earth.of_earth =
    series_in _ _ c.fill-2.result _ c.in_ok-of_earth.was c.fill-2.ensures.0 c.fill-2.ensures.1 in
    record { good = ap₂ ◌&&◌ planet.wide earth.wide }

pub list_of-requires : goal.list_of-requires
list_of-requires c =
    let planet : SeriesIn c.args.planet.now c.fill.new.table c.in_ok-of_planet.of_planet =
    series_in _ _ c.fill.result _ c.in_ok-of_planet.was c.fill.ensures.0 c.fill.ensures.1 in
    let earth : SeriesIn c.args.earth.now c.fill-2.new.table c.in_ok-of_earth.of_earth =
    series_in _ _ c.fill-2.result _ c.in_ok-of_earth.was c.fill-2.ensures.0 c.fill-2.ensures.1 in
    (planet.table, earth.table)

pub returns : goal.returns
returns c =
    let planet : SeriesIn c.args.planet.now c.fill.new.table c.in_ok-of_planet.of_planet =
    series_in _ _ c.fill.result _ c.in_ok-of_planet.was c.fill.ensures.0 c.fill.ensures.1 in
    let earth : SeriesIn c.args.earth.now c.fill-2.new.table c.in_ok-of_earth.of_earth =
    series_in _ _ c.fill-2.result _ c.in_ok-of_earth.was c.fill-2.ensures.0 c.fill-2.ensures.1 in
    answers_as _ _ _ _ _
    (both_accepted (parse c.args.planet.now) (parse c.args.earth.now) c.args.window.t0 c.args.window.minutes c.args.window.keep_out c.args.out.now
    _ _ planet.parsed earth.parsed)
    c.list_of.ensures
