-- `answers::of_mending` meets its contract. Assumes nothing.
use mathlib.Core.Path.{sym, ap, ◌∙◌}
use Rattle.answers.specs.Answers.{mending_shown}
use Rattle.answers.proofs.of_mending.Goals as goal

pub returns-in-Ok : goal.returns-in-Ok
unfolding mending_shown
returns-in-Ok c = c.of_clean.ensures ∙ ap mending_shown (sym c.in-Ok.is)

pub returns-in-Err : goal.returns-in-Err
unfolding mending_shown
returns-in-Err c = c.from.ensures ∙ ap mending_shown (sym c.in-Err.is)
