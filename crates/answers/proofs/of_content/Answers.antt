-- `answers::of_content` meets its contract. Assumes nothing.
use mathlib.Core.Path.{◌∙◌}
use Rattle.arith.proofs.Signs.{back, ok}
use Rattle.answers.specs.Answers.{content_shown}
use Rattle.answers.proofs.Held.{flag_told}
use Rattle.answers.proofs.of_content.Goals as goal

pub returns : goal.returns
unfolding content_shown
returns c =
    let w = c.from-wide in
    let n = c.clip-terms in
    rw (back w.result (ok w.type_inv), back n.result (ok n.type_inv), w.ensures ∙ flag_told c.args.c.wide, n.ensures)
