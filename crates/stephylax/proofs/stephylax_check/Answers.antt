-- `stephylax::stephylax_check` meets its contract. Assumes nothing.
use mathlib.Core.Path.{ap, ◌∙◌}
use Rattle.answers.specs.Answers.{checked_shown}
use Rattle.stephylax.proofs.stephylax_check.Goals as goal

pub returns : goal.returns
returns c = c.of_checked.ensures ∙ ap checked_shown c.check.ensures
