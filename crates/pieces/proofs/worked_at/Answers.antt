-- `pieces::worked_at` meets its contract. Assumes nothing.
use Rattle.pieces.proofs.Reading.{row_asks, row_worked}
use Rattle.pieces.proofs.worked_at.Goals as goal

pub reduced_term-requires : goal.reduced_term-requires
reduced_term-requires c =
    let q = row_asks c.args.table.now c.args.i c.requires.1 c.term-a.result c.term-a.ensures c.unfold_number.result c.unfold_number-2.result
    c.unfold_number.ensures c.unfold_number-2.ensures in
    (q.0, q.1, q.2)

pub returns : goal.returns
returns c =
    let e = c.reduced_term.ensures in
    row_worked c.args.table.now c.args.i c.requires.1 c.term-a.result c.term-a.ensures c.unfold_number.result c.unfold_number-2.result
    c.unfold_number.ensures c.unfold_number-2.ensures c.args.p.t c.reduced_term.result e.0 e.1 e.2 e.3
