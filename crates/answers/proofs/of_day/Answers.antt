-- `answers::of_day` meets its contract. Assumes nothing.
use mathlib.Core.Path.{sym, ap, ◌∙◌}
use Rattle.answers.specs.Answers.{day_shown}
use Rattle.answers.proofs.Held.{one_held}
use borrow.Author.Rules.{rules}
use Rattle.answers.proofs.of_day.Goals as goal

pub returns-in-Ok : goal.returns-in-Ok
unfolding day_shown
returns-in-Ok c = one_held c.in-Ok.n (search rules) ∙ ap day_shown (sym c.in-Ok.is)

pub returns-in-Err : goal.returns-in-Err
unfolding day_shown
returns-in-Err c = c.from.ensures ∙ ap day_shown (sym c.in-Err.is)
