-- `date_of_instant` meets its contract. Assumes nothing.
use mathlib.Core.Path.{◌≡◌, ap}
use mathlib.Core.Bool.{not}
use mir.Syntax.{w64}
use mir.Val.{to_z, of_z}
use borrow.Author.Rules.{rules}
use Rattle.units.proofs.Limit.{told_past, told_within, told_size}
use Rattle.calendar.proofs.CallAnswers.{moment_past, moment_given}
use Rattle.calendar.proofs.date_of_instant.Goals as goal

pub returns-then-not-in_limit : goal.returns-then-not-in_limit
returns-then-not-in_limit c = moment_past _ (told_past _ _ _ c.in_limit.ensures (ap not c.if-not-in_limit.true))

pub since_start-u-requires : goal.since_start-u-requires
since_start-u-requires c =
    let ms-back : to_z w64 (of_z w64 c.args.t.ms) ≡ c.args.t.ms = search rules in
    rw (ms-back) (told_size _ _ _ c.in_limit.ensures (ap not c.if-not-in_limit.false))

pub returns : goal.returns
returns c =
    let ms-back : to_z w64 (of_z w64 c.args.t.ms) ≡ c.args.t.ms = search rules in
    moment_given _ _ _ (told_within _ _ _ c.in_limit.ensures (ap not c.if-not-in_limit.false)) (rw (ms-back) at c.since_start-u.ensures.0)
    c.since_start-u.ensures.1 c.plain_date-date.ensures
