-- `stephylax::stephylax_print` meets its contract. Assumes nothing.
use mathlib.Core.Path.{ap, ◌∙◌}
use Rattle.answers.specs.Answers.{printed_shown}
use Rattle.stephylax.proofs.stephylax_print.Goals as goal

pub returns : goal.returns
returns c = let r = c.print.ensures in (c.of_printed.ensures ∙ ap printed_shown r.0, r.1)
