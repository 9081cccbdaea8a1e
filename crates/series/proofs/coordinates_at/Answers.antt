-- `series::coordinates_at` meets its contract. Assumes nothing.
use Rattle.std.proofs.lemmas.Result.{err_from_is_err_and}
use Rattle.units.specs.Units.{t_limit}
use Rattle.units.proofs.Limit.{told_size}
use Rattle.series.proofs.Filled.{series_in, told_reach, told_far}
use Rattle.series.proofs.Answering.{answers_past, answers_refused, answers_far, answers_at}
use Rattle.series.proofs.Call.{coordinates_promised}
use mathlib.Core.Path.{ap}
use mathlib.Core.Bool.{not}
use Rattle.series.proofs.coordinates_at.Goals as goal

pub returns-then-not-in_limit : goal.returns-then-not-in_limit
returns-then-not-in_limit c =
    coordinates_promised _ _ _
    (answers_past c.args.packed.now c.args.t c.in_limit.result c.in_limit.ensures (ap not c.if-not-in_limit.true))

pub returns-then-not-may_ask : goal.returns-then-not-may_ask
returns-then-not-may_ask c =
    let table = series_in _ _ c.fill.result _ c.in_ok-content.was c.fill.ensures.0 c.fill.ensures.1 in
    coordinates_promised _ _ _
    (answers_far c.args.packed.now c.args.t c.in_limit.result c.in_limit.ensures (ap not c.if-not-in_limit.false) _ _ table
    (told_far _ _ _ table c.args.t.ms c.may_ask.result c.may_ask.ensures (ap not c.if-not-may_ask.true)))

pub coordinates-requires : goal.coordinates-requires
coordinates-requires c =
    let table = series_in _ _ c.fill.result _ c.in_ok-content.was c.fill.ensures.0 c.fill.ensures.1 in (
      told_size t_limit _ c.in_limit.result c.in_limit.ensures (ap not c.if-not-in_limit.false),
      table.table,
      told_reach _ _ _ table c.args.t.ms c.may_ask.result c.may_ask.ensures (ap not c.if-not-may_ask.false),
    )

pub returns-in_err-content : goal.returns-in_err-content
returns-in_err-content c =
    let p = err_from_is_err_and c.from_residual.result c.from_residual.ensures.1 in
    rw (p.1, p.2)
    (coordinates_promised _ _ _
    (answers_refused c.args.packed.now c.args.t c.in_limit.result c.in_limit.ensures (ap not c.if-not-in_limit.false)
    c.fill.result _ c.in_err-content.was c.fill.ensures.0))

pub returns : goal.returns
returns c =
    let table = series_in _ _ c.fill.result _ c.in_ok-content.was c.fill.ensures.0 c.fill.ensures.1 in
    coordinates_promised _ _ _
    (answers_at c.args.packed.now c.args.t c.in_limit.result c.in_limit.ensures (ap not c.if-not-in_limit.false) _ _ table
    c.coordinates.result
    (told_reach _ _ _ table c.args.t.ms c.may_ask.result c.may_ask.ensures (ap not c.if-not-may_ask.false)) c.coordinates.ensures)
