-- `answers::of_standing` meets its contract. Assumes nothing.
use mathlib.Core.Path.{◌∙◌}
use Rattle.answers.specs.Answers.{standing_shown}
use Rattle.answers.proofs.Held.{standing_held}
use borrow.Author.Rules.{rules}
use Rattle.answers.proofs.of_standing.Goals as goal

pub returns : goal.returns
unfolding standing_shown
returns c =
    let w = c.of_text-written in
    let a = c.accepted-accepted in
    standing_held w.result a.result (search rules) (search rules) (search rules) ∙ rw (w.ensures, a.ensures)
