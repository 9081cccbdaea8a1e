-- `From<Refusal> for Examined` meets its contract. Assumes nothing.
use Rattle.arith.proofs.Signs.{back, ok}
use Rattle.answers.specs.Answers.{examined_refused}
use Rattle.answers.proofs.ExaminedFromRefusal.from.Goals as goal

pub returns : goal.returns
unfolding examined_refused
returns c =
    let f = c.clipped_figure in
    rw (back f.result (ok f.type_inv), f.ensures, c.number.ensures)
