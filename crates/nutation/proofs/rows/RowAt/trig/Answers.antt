-- `nutation::rows::RowAt::trig` meets its contract. Assumes nothing.
use Rattle.arith.proofs.Signs.{back, ok}
use Rattle.nutation.proofs.Terms.{sine_row, cosine_row}
use Rattle.nutation.proofs.rows.RowAt.trig.Goals as goal

pub returns : goal.returns
returns c =
    let s = c.args.self in
    let e = back c.argument.result (ok c.argument.type_inv) in (
      cosine_row s.t s.row s.arguments c.argument.result _ s.at c.argument.ensures (rw e at c.trig_of.ensures.0),
      sine_row s.t s.row s.arguments c.argument.result _ s.at c.argument.ensures (rw e at c.trig_of.ensures.1),
    )
