-- `answers::of_place` meets its contract. Assumes nothing.
use mathlib.Core.Path.{sym, ap, ◌∙◌}
use Rattle.answers.specs.Answers.{place_shown}
use Rattle.answers.proofs.Held.{three_held}
use borrow.Author.Rules.{rules}
use Rattle.answers.proofs.of_place.Goals as goal

pub returns-in-Ok : goal.returns-in-Ok
unfolding place_shown
returns-in-Ok c =
    let p = c.in-Ok.p in
    three_held p.right_ascension p.declination p.distance (search rules) (search rules) (search rules) ∙ ap place_shown (sym c.in-Ok.is)

pub returns-in-Err : goal.returns-in-Err
unfolding place_shown
returns-in-Err c = c.from.ensures ∙ ap place_shown (sym c.in-Err.is)
