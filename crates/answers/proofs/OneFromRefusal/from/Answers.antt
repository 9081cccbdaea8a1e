-- `From<Refusal> for One` meets its contract. Assumes nothing.
use Rattle.arith.proofs.Signs.{back, ok}
use Rattle.answers.specs.Answers.{one_refused}
use Rattle.answers.proofs.OneFromRefusal.from.Goals as goal

pub returns : goal.returns
unfolding one_refused
returns c =
    let f = c.clipped_figure in
    rw (back f.result (ok f.type_inv), f.ensures, c.number.ensures)
