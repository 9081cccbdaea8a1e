-- `answers::of_list` meets its contract. Assumes nothing.
use mathlib.Core.Path.{sym, ap, ◌∙◌}
use Rattle.answers.specs.Answers.{list_shown}
use Rattle.answers.proofs.of_list.Goals as goal

pub returns-in-Ok : goal.returns-in-Ok
unfolding list_shown
returns-in-Ok c = c.counted.ensures ∙ ap list_shown (sym c.in-Ok.is)

pub returns-in-Err : goal.returns-in-Err
unfolding list_shown
returns-in-Err c = c.from.ensures ∙ ap list_shown (sym c.in-Err.is)
