-- `take_byte` of a state meets its contract: each way through the reader comes out as the definition has it. Assumes nothing.
use borrow.Author.Rules.{rules}
use borrow.Author.Tests.{ne_eqb}
use native.Mathlib.Omega.{arith}
use Rattle.std.proofs.lemmas.Grind.{common_steps}
use Rattle.date_lines.specs.Lines.{take, at_space, at_minus, at_digit}
use Rattle.date_lines.specs.States.{state_take, state_at_space, state_at_minus, state_at_digit}
use Rattle.date_lines.proofs.states.take_byte.Goals as goal

pub returns-then-s-ne0 : goal.returns-then-s-ne0
unfolding state_take
returns-then-s-ne0 c = rw (ne_eqb c.args.s.fault 0 (λ x. omega (arith, x)))

pub returns-then-s : goal.returns-then-s
unfolding take at_space at_minus at_digit state_take state_at_space state_at_minus state_at_digit
returns-then-s c = grind (arith, common_steps)

pub returns : goal.returns
unfolding take at_space at_minus at_digit state_take state_at_space state_at_minus state_at_digit
returns c = search rules
