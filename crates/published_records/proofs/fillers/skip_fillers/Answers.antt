-- `published_records::fillers::skip_fillers` meets its contract: the bytes of the run stand in free columns. Assumes nothing.
use Rattle.std.proofs.Common.{◌≡◌, ◌-◌, arith, rules}
use Rattle.published_records.specs.Rows.{is_heading}
use Rattle.published_records.specs.Machine.Fillers.{filler_end}
use Rattle.published_records.proofs.FreeColumns.{run_inside, skips, as_it_stands}
use Rattle.published_records.proofs.fillers.skip_fillers.Goals as goal

pub returns-then-n-eq0 : goal.returns-then-n-eq0
returns-then-n-eq0 c = let a = c.args in as_it_stands (is_heading a.kind) a.row a.text.now a.from

pub overflow_add-result : goal.overflow_add-result
overflow_add-result c =
    let a = c.args in
    omega (arith, run_inside a.text.now a.from _ _ c.requires (rw c.bytes_ahead.ensures at c.feed_before-n.ensures.within))

pub returns : goal.returns
returns c =
    let a = c.args in
    let n = c.feed_before-n in
    let is : c.saturating_sub-columns.result ≡ filler_end (is_heading a.kind) a.row.column - a.row.column = search rules in
    rw c.held.ensures
    (skips (is_heading a.kind) a.row a.text.now a.from n.result _ is (rw c.bytes_ahead.ensures at n.ensures.within)
    (rw c.bytes_ahead.ensures at n.ensures.place) c.if-n-eq0.false c.requires)
