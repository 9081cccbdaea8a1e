-- `answers::accepted` meets its contract. Assumes nothing.
use mathlib.Core.Path.{sym, ap}
use Rattle.answers.specs.Answers.{accepted}
use Rattle.answers.proofs.accepted.Goals as goal

pub returns-in-More : goal.returns-in-More
unfolding accepted
returns-in-More c = ap accepted (sym c.in-More.is)

pub returns-in-Accepted : goal.returns-in-Accepted
unfolding accepted
returns-in-Accepted c = ap accepted (sym c.in-Accepted.is)

pub returns-in-Refused : goal.returns-in-Refused
unfolding accepted
returns-in-Refused c = ap accepted (sym c.in-Refused.is)
