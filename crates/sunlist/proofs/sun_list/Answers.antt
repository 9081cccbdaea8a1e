-- `sunlist::sun_list` meets its contract. Assumes nothing.
use Rattle.std.proofs.Common.{◌≡◌, rules}
use Rattle.std.proofs.lemmas.Result.{err_from_is_err_and}
use Rattle.arith.proofs.Cells.{Cell}
use Rattle.sunlist.specs.Machine.Window.{LeftToSeries, RefusedBefore}
use Rattle.sunlist.proofs.Calling.{told, refused_told}
use Rattle.sunlist.proofs.sun_list.Goals as goal

pub returns-in_err-window : goal.returns-in_err-window
returns-in_err-window c =
    let m : Cell c.args.minutes ≡ c.args.minutes = search rules in
    let k : Cell c.args.keep_out ≡ c.args.keep_out = search rules in
    let r : RefusedBefore c.args.t0 c.args.minutes c.args.keep_out c.in_err-window.field-0.0 = rw (m, k) at c.in_err-window.ensures in
    let p = err_from_is_err_and c.from_residual.result c.from_residual.ensures.1 in
    rw (p.1, p.2) (refused_told _ _ c.args.t0 c.args.minutes c.args.keep_out _ _ r)

pub returns : goal.returns
returns c =
    let m : Cell c.args.minutes ≡ c.args.minutes = search rules in
    let k : Cell c.args.keep_out ≡ c.args.keep_out = search rules in
    let w = c.in_ok-window.window in
    let l : LeftToSeries c.args.t0 c.args.minutes c.args.keep_out w.t0 w.minutes w.keep_out = rw (m, k) at c.in_ok-window.ensures in
    told _ _ c.args.t0 c.args.minutes c.args.keep_out _ _ _ _ (l _ _) c.of_series.ensures.0 c.of_series.ensures.1
