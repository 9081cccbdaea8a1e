-- `answers::of_printed` meets its contract. Assumes nothing.
use mathlib.Core.Path.{sym, ap, ◌∙◌}
use Rattle.answers.specs.Answers.{printed_shown}
use Rattle.answers.proofs.of_printed.Goals as goal

pub returns-in-Ok : goal.returns-in-Ok
unfolding printed_shown
returns-in-Ok c = c.counted.ensures ∙ ap printed_shown (sym c.in-Ok.is)

pub returns-in-Err : goal.returns-in-Err
unfolding printed_shown
returns-in-Err c = c.from.ensures ∙ ap printed_shown (sym c.in-Err.is)
