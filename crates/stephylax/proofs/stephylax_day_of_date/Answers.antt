-- `stephylax::stephylax_day_of_date` meets its contract. Assumes nothing.
use mathlib.Core.Path.{ap, ◌∙◌}
use Rattle.arith.proofs.Signs.{back}
use Rattle.answers.specs.Answers.{day_shown}
use Rattle.stephylax.proofs.stephylax_day_of_date.Goals as goal

pub returns : goal.returns
returns c =
    let a = rw (
      back c.args.year c.ranges.year,
      back c.args.month c.ranges.month,
      back c.args.day c.ranges.day,
    ) at c.day_of_date.ensures in
    c.of_day.ensures ∙ ap day_shown a
