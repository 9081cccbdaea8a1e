-- `stephylax::stephylax_mend` meets its contract. Assumes nothing.
use mathlib.Core.Path.{ap, ◌∙◌}
use Rattle.answers.specs.Answers.{mending_shown}
use Rattle.stephylax.proofs.stephylax_mend.Goals as goal

pub returns : goal.returns
returns c = let r = c.mend.ensures in (c.of_mending.ensures ∙ ap mending_shown r.0, r.1, r.2)
