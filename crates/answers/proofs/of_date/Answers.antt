-- `answers::of_date` meets its contract. Assumes nothing.
use mathlib.Core.Path.{sym, ap, ◌∙◌}
use lib.IntN.{pos}
use Rattle.answers.specs.Answers.{date_shown}
use Rattle.answers.proofs.Held.{moment_held}
use borrow.Author.Rules.{rules}
use Rattle.answers.proofs.of_date.Goals as goal

pub returns-in-Ok : goal.returns-in-Ok
unfolding date_shown
returns-in-Ok c =
    let d = c.in-Ok.d in
    moment_held d.year d.month d.day (pos 0) (search rules) (search rules) (search rules) (search rules) ∙ ap date_shown (sym c.in-Ok.is)

pub returns-in-Err : goal.returns-in-Err
unfolding date_shown
returns-in-Err c = c.from.ensures ∙ ap date_shown (sym c.in-Err.is)
