-- `From<Refusal> for Three` meets its contract. Assumes nothing.
use Rattle.arith.proofs.Signs.{back, ok}
use Rattle.answers.specs.Answers.{three_refused}
use Rattle.answers.proofs.ThreeFromRefusal.from.Goals as goal

pub returns : goal.returns
unfolding three_refused
returns c =
    let f = c.clipped_figure in
    rw (back f.result (ok f.type_inv), f.ensures, c.number.ensures)
