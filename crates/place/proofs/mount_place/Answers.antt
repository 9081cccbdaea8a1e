-- `place::mount_place` meets its contract. Assumes nothing.
use Rattle.std.proofs.lemmas.Result.{err_from_is_err_and}
use Rattle.place.proofs.Answers.{mount_refused, mount_at, figures_ask}
use Rattle.place.proofs.mount_place.Goals as goal

pub figures-requires : goal.figures-requires
figures-requires c = figures_ask c.args.planet.now c.args.earth.now c.args.t c.apparent_place.result c.apparent_place.ensures _ c.in_ok-p.was

pub returns-in_err-p : goal.returns-in_err-p
returns-in_err-p c =
    let p = err_from_is_err_and c.from_residual.result c.from_residual.ensures.1 in
    rw (p.1, p.2)
    (mount_refused c.args.planet.now c.args.earth.now c.args.t c.apparent_place.result c.apparent_place.ensures _
    c.in_err-p.was)

pub returns : goal.returns
returns c =
    mount_at c.args.planet.now c.args.earth.now c.args.t c.apparent_place.result c.apparent_place.ensures _ c.figures.result
    c.in_ok-p.was c.figures.ensures
