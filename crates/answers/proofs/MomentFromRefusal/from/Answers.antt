-- `From<Refusal> for Moment` meets its contract. Assumes nothing.
use Rattle.arith.proofs.Signs.{back, ok}
use Rattle.answers.specs.Answers.{moment_refused}
use Rattle.answers.proofs.MomentFromRefusal.from.Goals as goal

pub returns : goal.returns
unfolding moment_refused
returns c =
    let f = c.clipped_figure in
    rw (back f.result (ok f.type_inv), f.ensures, c.number.ensures)
