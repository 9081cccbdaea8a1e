-- `stephylax::stephylax_instant_of_date` meets its contract. Assumes nothing.
use mathlib.Core.Path.{ap, ◌∙◌}
use Rattle.arith.proofs.Signs.{back}
use Rattle.answers.specs.Answers.{instant_shown}
use Rattle.stephylax.proofs.stephylax_instant_of_date.Goals as goal

pub returns : goal.returns
returns c =
    let a = rw (
      back c.args.year c.ranges.year,
      back c.args.month c.ranges.month,
      back c.args.day c.ranges.day,
      back c.args.ms c.ranges.ms,
    ) at c.instant_of_date.ensures in
    c.of_instant.ensures ∙ ap instant_shown a
