-- `answers::of_text` meets its contract. Assumes nothing.
use mathlib.Core.Path.{sym, ap, ◌∙◌}
use Rattle.answers.specs.Answers.{text_shown}
use Rattle.answers.proofs.of_text.Goals as goal

pub returns-in-More : goal.returns-in-More
unfolding text_shown
returns-in-More c = c.counted.ensures ∙ ap text_shown (sym c.in-More.is)

pub returns-in-Accepted : goal.returns-in-Accepted
unfolding text_shown
returns-in-Accepted c = c.counted-in-Accepted.ensures ∙ ap text_shown (sym c.in-Accepted.is)

pub returns-in-Refused : goal.returns-in-Refused
unfolding text_shown
returns-in-Refused c = c.from.ensures ∙ ap text_shown (sym c.in-Refused.is)
