-- `published::Published::take_row` meets its contract: the row goes on as the reader does. Assumes nothing.
use Rattle.std.proofs.Common.{sym, arith}
use Rattle.published.proofs.RowRuns.{row_taken}
use Rattle.published.proofs.Published.take_row.Goals as goal

pub returns : goal.returns
returns c =
    let p = c.args.self in
    rw c.in_line.ensures
    (row_taken p c.args.text.now c.args.from _ _ _ (sym c.kind.ensures) (omega arith) (c.counts.ensures c.if-not-counts.false) c.take_bytes-run.ensures)
