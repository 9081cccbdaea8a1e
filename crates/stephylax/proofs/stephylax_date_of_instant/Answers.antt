-- `stephylax::stephylax_date_of_instant` meets its contract. Assumes nothing.
use mathlib.Core.Path.{ap, ◌∙◌}
use lib.IntN.{ℤ}
use Rattle.arith.proofs.Signs.{back}
use Rattle.calendar.specs.Calendar.{date_of_instant}
use Rattle.answers.specs.Answers.{moment_shown}
use Rattle.stephylax.proofs.stephylax_date_of_instant.Goals as goal

pub returns : goal.returns
returns c =
    let a = c.date_of_instant.ensures ∙ ap (λ (z : ℤ). date_of_instant (record { ms = z })) (back c.args.t c.ranges.t) in
    c.of_moment.ensures ∙ ap moment_shown a
