-- `From<Refusal> for Mended` meets its contract. Assumes nothing.
use Rattle.arith.proofs.Signs.{back, ok}
use Rattle.answers.specs.Answers.{mended_refused}
use Rattle.answers.proofs.MendedFromRefusal.from.Goals as goal

pub returns : goal.returns
unfolding mended_refused
returns c =
    let f = c.clipped_figure in
    rw (back f.result (ok f.type_inv), f.ensures, c.number.ensures)
