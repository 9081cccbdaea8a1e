-- `date_of_day` meets its contract. Assumes nothing.
use mathlib.Core.Path.{◌≡◌, ap, ◌∙◌}
use mathlib.Core.Bool.{false}
use lib.IntN.{pos}
use Rattle.arith.proofs.Signs.{back}
use Rattle.std.proofs.Common.{Err}
use Rattle.calendar.specs.Calendar.{between}
use Rattle.calendar.specs.Constants.{last_day}
use Rattle.calendar.proofs.Compare.{between_below, between_above}
use Rattle.calendar.proofs.DatesFound.{no_date, on_date}
use Rattle.calendar.proofs.date_of_day.Goals as goal
use Rattle.calendar.proofs.date_of_day.Goals.{then-number-lt0-via-then-number-lt0, then-number-lt0-via-else-number-lt0+then-number-gt-LAST_DAY}

pub returns-then-number-lt0 : goal.returns-then-number-lt0
returns-then-number-lt0 c =
    let x = c.args.number in
    let out : between (pos 0) x (pos last_day) ≡ false =
    elim c.then-number-lt0.branch [
      | then-number-lt0-via-then-number-lt0 w ↦ between_below x last_day (rw (back _ c.ranges.number) at w.if-number-lt0.true)
      | then-number-lt0-via-else-number-lt0+then-number-gt-LAST_DAY w ↦ between_above x last_day (rw (back _ c.ranges.number) at w.if-number-gt-LAST_DAY.true)
    ] in
    ap Err c.into.ensures ∙ no_date x out

pub returns : goal.returns
returns c =
    on_date c.args.number _ (rw (back _ c.ranges.number) at c.if-number-lt0.false) (rw (back _ c.ranges.number) at c.if-number-gt-LAST_DAY.false)
    (rw (back _ c.ranges.number) at c.plain_date.ensures)
