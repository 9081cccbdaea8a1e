-- `answers::verdict_place` meets its contract. Assumes nothing.
use mathlib.Core.Path.{sym, ap, ◌∙◌}
use Rattle.arith.proofs.Signs.{back, ok}
use Rattle.answers.specs.Answers.{verdict_place}
use Rattle.answers.proofs.verdict_place.Goals as goal

pub returns-in-More : goal.returns-in-More
unfolding verdict_place
returns-in-More c = let k = c.clip in back k.result (ok k.type_inv) ∙ k.ensures ∙ ap verdict_place (sym c.in-More.is)

pub returns-in-Accepted : goal.returns-in-Accepted
unfolding verdict_place
returns-in-Accepted c = let k = c.clip-in-Accepted in back k.result (ok k.type_inv) ∙ k.ensures ∙ ap verdict_place (sym c.in-Accepted.is)

pub returns-in-Refused : goal.returns-in-Refused
unfolding verdict_place
returns-in-Refused c = let k = c.clipped_figure in back k.result (ok k.type_inv) ∙ k.ensures ∙ ap verdict_place (sym c.in-Refused.is)
