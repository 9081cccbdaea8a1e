-- `stephylax::stephylax_text_answer` meets its contract. Assumes nothing.
use mathlib.Core.Path.{ap, ◌∙◌}
use Rattle.answers.specs.Answers.{standing_shown}
use Rattle.stephylax.proofs.stephylax_text_answer.Goals as goal

pub returns : goal.returns
returns c = c.of_standing.ensures ∙ ap standing_shown c.answer.ensures
