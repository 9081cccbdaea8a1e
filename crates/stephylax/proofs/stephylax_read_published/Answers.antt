-- `stephylax::stephylax_read_published` meets its contract. Assumes nothing.
use mathlib.Core.Path.{ap, ◌∙◌}
use Rattle.answers.specs.Answers.{text_shown}
use Rattle.stephylax.proofs.stephylax_read_published.Goals as goal

pub returns : goal.returns
returns c = let r = c.read.ensures in (c.of_text.ensures ∙ ap text_shown r.0, r.1)
