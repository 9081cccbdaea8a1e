-- `answers::of_checked` meets its contract. Assumes nothing.
use mathlib.Core.Path.{sym, ap, ◌∙◌}
use Rattle.answers.specs.Answers.{checked_shown}
use Rattle.answers.proofs.of_checked.Goals as goal

pub returns-in-Ok : goal.returns-in-Ok
unfolding checked_shown
returns-in-Ok c = c.of_content.ensures ∙ ap checked_shown (sym c.in-Ok.is)

pub returns-in-Err : goal.returns-in-Err
unfolding checked_shown
returns-in-Err c = c.from.ensures ∙ ap checked_shown (sym c.in-Err.is)
