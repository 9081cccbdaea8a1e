-- `published_records::indents::skip_indent` meets its contract: each space of the run leaves the line. Assumes nothing.
use Rattle.std.proofs.Common.{◌≡◌, ◌-◌, arith}
use Rattle.published_records.specs.Machine.Indents.{last_whole}
use Rattle.published_records.proofs.FreeColumns.{run_inside}
use Rattle.published_records.proofs.IndentRuns.{indents}
use Rattle.published_records.proofs.indents.skip_indent.Goals as goal

pub overflow_add-result : goal.overflow_add-result
overflow_add-result c =
    let a = c.args in
    let fits = run_inside a.text.now a.from _ _ c.requires.inside (rw c.bytes_ahead.ensures at c.spaces_before-n.ensures.within) in
    omega (arith, fits.0, c.requires.ahead.early, c.last_whole.ensures)

pub overflow_add-result-2 : goal.overflow_add-result-2
overflow_add-result-2 c =
    let a = c.args in
    omega (arith, run_inside a.text.now a.from _ _ c.requires.inside (rw c.bytes_ahead.ensures at c.spaces_before-n.ensures.within))

pub returns : goal.returns
returns c =
    let a = c.args in
    let n = c.spaces_before-n in
    let is : c.last_whole.result - a.row.column ≡ last_whole a.row.column - a.row.column = rw c.last_whole.ensures in
    indents a.row a.text.now a.from n.result _ c.requires.ahead is (rw c.bytes_ahead.ensures at n.ensures.within)
    (rw c.bytes_ahead.ensures at n.ensures.count) c.requires.inside
