-- `stephylax::stephylax_date_of_day` meets its contract. Assumes nothing.
use mathlib.Core.Path.{ap, ◌∙◌}
use Rattle.arith.proofs.Signs.{back}
use Rattle.calendar.specs.Calendar.{date_of_day}
use Rattle.answers.specs.Answers.{date_shown}
use Rattle.stephylax.proofs.stephylax_date_of_day.Goals as goal

pub returns : goal.returns
returns c =
    let a = c.date_of_day.ensures ∙ ap date_of_day (back c.args.number c.ranges.number) in
    c.of_date.ensures ∙ ap date_shown a
