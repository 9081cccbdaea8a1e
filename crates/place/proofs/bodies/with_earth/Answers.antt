-- `place::bodies::with_earth` meets its contract. Assumes nothing.
use Rattle.std.proofs.lemmas.Result.{err_from_is_err_and}
use mathlib.Core.Path.{ap₂}
use mathlib.Core.Bool.{◌&&◌}
use Rattle.packed.specs.Series.{parse}
use Rattle.series.proofs.Filled.{SeriesIn, series_in, refused_of}
use Rattle.place.proofs.Sightings.{earth_refused, both_accepted}
use Rattle.place.proofs.bodies.with_earth.Goals as goal

pub invariant_of-bodies : goal.invariant_of-bodies
invariant_of-bodies c =
    let table : SeriesIn c.args.earth.now c.fill.new.table c.in_ok-content.content =
    series_in _ _ c.fill.result _ c.in_ok-content.was c.fill.ensures.0 c.fill.ensures.1 in
    record { good = ap₂ ◌&&◌ c.requires.2 table.wide }

pub taken-requires : goal.taken-requires
taken-requires c =
    let table : SeriesIn c.args.earth.now c.fill.new.table c.in_ok-content.content =
    series_in _ _ c.fill.result _ c.in_ok-content.was c.fill.ensures.0 c.fill.ensures.1 in
    (c.requires.0, c.requires.1, table.table)

pub returns-in_err-content : goal.returns-in_err-content
returns-in_err-content c =
    let p = err_from_is_err_and c.from_residual.result c.from_residual.ensures.1 in
    rw (p.1, p.2)
    (earth_refused _ _ _ _ (refused_of (parse c.args.earth.now) c.fill.result _ c.in_err-content.was c.fill.ensures.0))

pub returns : goal.returns
returns c =
    let table : SeriesIn c.args.earth.now c.fill.new.table c.in_ok-content.content =
    series_in _ _ c.fill.result _ c.in_ok-content.was c.fill.ensures.0 c.fill.ensures.1 in
    both_accepted _ _ _ _ _ table.parsed c.taken.ensures
