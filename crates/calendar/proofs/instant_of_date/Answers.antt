-- `instant_of_date` meets its contract. Assumes nothing.
use mathlib.Core.Path.{◌≡◌, ap, ◌∙◌}
use mathlib.Core.Bool.{false, not}
use lib.IntN.{pos}
use mir.Syntax.{w64}
use mir.Val.{to_z, of_z}
use Rattle.arith.proofs.Signs.{back, ok}
use Rattle.std.proofs.Common.{Err}
use Rattle.units.proofs.Limit.{told_past, told_within}
use Rattle.calendar.specs.Calendar.{between}
use Rattle.calendar.specs.Constants.{last_ms}
use Rattle.calendar.proofs.Compare.{between_below, between_above}
use Rattle.calendar.proofs.CallAnswers.{refused, instant_refused, ms_refused, instant_past, instant_given}
use Rattle.calendar.proofs.instant_of_date.Goals as goal
use Rattle.calendar.proofs.instant_of_date.Goals.{then-ms-lt0-via-then-ms-lt0, then-ms-lt0-via-else-ms-lt0+then-ms-gt-LAST_MS}

pub returns-in_err-date : goal.returns-in_err-date
returns-in_err-date c =
    let e = rw (back _ c.ranges.year, back _ c.ranges.month, back _ c.ranges.day) at c.in_err-date.ensures.judged in
    refused _ _ c.from_residual.ensures ∙ instant_refused c.args.year c.args.month c.args.day c.args.ms c.in_err-date.field-0.0 e

pub returns-then-ms-lt0 : goal.returns-then-ms-lt0
returns-then-ms-lt0 c =
    let ms = c.args.ms in
    let e = rw (back _ c.ranges.year, back _ c.ranges.month, back _ c.ranges.day) at c.in_ok-date.ensures.judged in
    let out : between (pos 0) ms (pos last_ms) ≡ false =
    elim c.then-ms-lt0.branch [
      | then-ms-lt0-via-then-ms-lt0 w ↦ between_below ms last_ms (rw (back _ c.ranges.ms) at w.if-ms-lt0.true)
      | then-ms-lt0-via-else-ms-lt0+then-ms-gt-LAST_MS w ↦ between_above ms last_ms (rw (back _ c.ranges.ms) at w.if-ms-gt-LAST_MS.true)
    ] in
    ap Err c.into.ensures ∙ ms_refused c.args.year c.args.month c.args.day ms e out

pub noon-requires : goal.noon-requires
noon-requires c = c.in_ok-date.ensures.counted.sound

pub returns-then-not-in_limit : goal.returns-then-not-in_limit
returns-then-not-in_limit c =
    let a = c.args in
    let e = rw (back _ c.ranges.year, back _ c.ranges.month, back _ c.ranges.day) at c.in_ok-date.ensures.judged in
    let k = rw (back _ c.ranges.year, back _ c.ranges.month, back _ c.ranges.day) at c.in_ok-date.ensures.counted in
    let t-back : to_z w64 (of_z w64 c.instant_at.result) ≡ c.instant_at.result = back _ (ok c.instant_at.type_inv) in
    rw (t-back)
    (instant_past a.year a.month a.day a.ms e (rw (back _ c.ranges.ms) at c.if-ms-lt0.false) (rw (back _ c.ranges.ms) at c.if-ms-gt-LAST_MS.false)
    _ (ap pos c.noon.ensures ∙ k.number) _ (rw (back _ c.ranges.ms) at c.instant_at.ensures)
    (told_past _ _ _ (rw (t-back) at c.in_limit.ensures) (ap not c.if-not-in_limit.true)))

pub returns : goal.returns
returns c =
    let a = c.args in
    let e = rw (back _ c.ranges.year, back _ c.ranges.month, back _ c.ranges.day) at c.in_ok-date.ensures.judged in
    let k = rw (back _ c.ranges.year, back _ c.ranges.month, back _ c.ranges.day) at c.in_ok-date.ensures.counted in
    let t-back : to_z w64 (of_z w64 c.instant_at.result) ≡ c.instant_at.result = back _ (ok c.instant_at.type_inv) in
    rw (t-back)
    (instant_given a.year a.month a.day a.ms e (rw (back _ c.ranges.ms) at c.if-ms-lt0.false) (rw (back _ c.ranges.ms) at c.if-ms-gt-LAST_MS.false)
    _ (ap pos c.noon.ensures ∙ k.number) _ (rw (back _ c.ranges.ms) at c.instant_at.ensures)
    (told_within _ _ _ (rw (t-back) at c.in_limit.ensures) (ap not c.if-not-in_limit.false)))
