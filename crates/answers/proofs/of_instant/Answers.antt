-- `answers::of_instant` meets its contract. Assumes nothing.
use mathlib.Core.Path.{sym, ap, ◌∙◌}
use Rattle.answers.specs.Answers.{instant_shown}
use Rattle.answers.proofs.Held.{one_held}
use borrow.Author.Rules.{rules}
use Rattle.answers.proofs.of_instant.Goals as goal

pub returns-in-Ok : goal.returns-in-Ok
unfolding instant_shown
returns-in-Ok c = one_held c.in-Ok.t.ms (search rules) ∙ ap instant_shown (sym c.in-Ok.is)

pub returns-in-Err : goal.returns-in-Err
unfolding instant_shown
returns-in-Err c = c.from.ensures ∙ ap instant_shown (sym c.in-Err.is)
