-- `whole` of a state meets its contract: a fault is told by its number. Assumes nothing.
use borrow.Author.Tests.{ne_eqb}
use native.Mathlib.Omega.{arith}
use Rattle.date_lines.specs.States.{state_reading}
use Rattle.date_lines.proofs.states.whole.Goals as goal

pub returns-then-s-ne0 : goal.returns-then-s-ne0
unfolding state_reading
returns-then-s-ne0 c = rw (ne_eqb c.args.s.fault 0 (λ x. omega (arith, x)))
