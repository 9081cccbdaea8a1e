-- `day_of_date` meets its contract. Assumes nothing.
use mathlib.Core.Path.{◌∙◌}
use native.Mathlib.Omega.{arith}
use Rattle.arith.proofs.Signs.{back, ok}
use Rattle.calendar.proofs.CallAnswers.{refused, day_refused, day_given}
use Rattle.calendar.proofs.day_of_date.Goals as goal

pub returns-in_err-date : goal.returns-in_err-date
returns-in_err-date c =
    let e = rw (back _ c.ranges.year, back _ c.ranges.month, back _ c.ranges.day) at c.in_err-date.ensures.judged in
    refused _ _ c.from_residual.ensures ∙ day_refused c.args.year c.args.month c.args.day c.in_err-date.field-0.0 e

pub noon-requires : goal.noon-requires
noon-requires c = c.in_ok-date.ensures.counted.sound

pub overflow_cast-result : goal.overflow_cast-result
overflow_cast-result c = let l = c.in_ok-date.ensures.counted.small in ok (omega (arith, l, c.noon.ensures))

pub returns : goal.returns
returns c =
    let e = rw (back _ c.ranges.year, back _ c.ranges.month, back _ c.ranges.day) at c.in_ok-date.ensures.judged in
    let k = rw (back _ c.ranges.year, back _ c.ranges.month, back _ c.ranges.day) at c.in_ok-date.ensures.counted in
    rw c.noon.ensures (day_given c.args.year c.args.month c.args.day e _ k.number k.small)
