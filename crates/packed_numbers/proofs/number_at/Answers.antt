-- `number_at` meets its contract. Assumes nothing.
use mathlib.Core.Path.{sym, ap, ◌∙◌}
use native.Mathlib.Omega.{arith}
use Rattle.packed_numbers.specs.Machine.Answers.{shown, plain}
use Rattle.packed_numbers.proofs.Decode.{one_group, more_than_one, no_number}
use Rattle.packed_numbers.proofs.number_at.Goals as goal

pub returns-then-s-at : goal.returns-then-s-at
unfolding shown
returns-then-s-at c = sym (ap (shown plain) (no_number _ _ c.if-s-at.true))

pub returns-then-b-lt-GROUP : goal.returns-then-b-lt-GROUP
unfolding shown
returns-then-b-lt-GROUP c = sym (ap (shown plain) (one_group _ _ _ c.from-b.ensures (omega arith) c.if-b-lt-GROUP.true))

pub returns : goal.returns
returns c = c.long_number.ensures ∙ sym (ap (shown plain) (more_than_one _ _ _ c.from-b.ensures (omega arith) c.if-b-lt-GROUP.false))
