-- `answers::of_coordinates` meets its contract. Assumes nothing.
use mathlib.Core.Path.{sym, ap, ◌∙◌}
use Rattle.answers.specs.Answers.{coordinates_shown}
use Rattle.answers.proofs.Held.{three_held}
use borrow.Author.Rules.{rules}
use Rattle.answers.proofs.of_coordinates.Goals as goal

pub returns-in-Ok : goal.returns-in-Ok
unfolding coordinates_shown
returns-in-Ok c =
    let p = c.in-Ok.c in
    three_held p.longitude p.latitude p.radius (search rules) (search rules) (search rules) ∙ ap coordinates_shown (sym c.in-Ok.is)

pub returns-in-Err : goal.returns-in-Err
unfolding coordinates_shown
returns-in-Err c = c.from.ensures ∙ ap coordinates_shown (sym c.in-Err.is)
