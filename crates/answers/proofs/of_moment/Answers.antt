-- `answers::of_moment` meets its contract. Assumes nothing.
use mathlib.Core.Path.{sym, ap, ◌∙◌}
use Rattle.answers.specs.Answers.{moment_shown}
use Rattle.answers.proofs.Held.{moment_held}
use borrow.Author.Rules.{rules}
use Rattle.answers.proofs.of_moment.Goals as goal

pub returns-in-Ok : goal.returns-in-Ok
unfolding moment_shown
returns-in-Ok c =
    let m = c.in-Ok.m in
    moment_held m.date.year m.date.month m.date.day m.ms (search rules) (search rules) (search rules) (search rules) ∙ ap moment_shown (sym c.in-Ok.is)

pub returns-in-Err : goal.returns-in-Err
unfolding moment_shown
returns-in-Err c = c.from.ensures ∙ ap moment_shown (sym c.in-Err.is)
