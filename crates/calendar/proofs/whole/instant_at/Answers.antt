-- `instant_at` meets its contract. Assumes nothing.
use native.Mathlib.Omega.{arith}
use Rattle.std.proofs.lemmas.Int.{ints}
use Rattle.calendar.proofs.CallAnswers.{instant_is}
use Rattle.calendar.proofs.whole.instant_at.Goals as goal

pub returns : goal.returns
returns c = rw (instant_is c.args.n c.args.ms) (omega (arith, ints))
