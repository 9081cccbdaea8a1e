-- `digits` meets its contract: what is left to read gives what all of it gives. Assumes nothing.
use Rattle.std.proofs.Common.{arith}
use Rattle.std.proofs.lemmas.Bool.Decides.{nat_tests}
use Rattle.decimals.proofs.Taken.{no_digits, digits_begin, digits_end, digits_none, digits_more}
use Rattle.decimals.proofs.reading.digits.Goals as goal

pub returns-then-is_empty-clause-value : goal.returns-then-is_empty-clause-value
returns-then-is_empty-clause-value c = no_digits _ (grind (arith, nat_tests))

pub loop-b-init : goal.loop-b-init
loop-b-init c = (omega arith, digits_begin _ (λ e. grind (arith, nat_tests)))

pub returns-then-b-lt-ZERO_DIGIT-clause-value : goal.returns-then-b-lt-ZERO_DIGIT-clause-value
returns-then-b-lt-ZERO_DIGIT-clause-value c = digits_none _ _ _ _ c.loop-b.invariant.1 c.loop-b-test.true (λ l m k. grind (arith, nat_tests))

pub loop-b-preserved : goal.loop-b-preserved
loop-b-preserved c = (
  grind (arith, nat_tests),
  digits_more _ _ _ _ c.loop-b.invariant.1 c.loop-b-test.true (grind (arith, nat_tests)) (grind (arith, nat_tests)) (grind (arith, nat_tests)),
)

pub returns-clause-value : goal.returns-clause-value
returns-clause-value c = digits_end _ _ _ _ c.loop-b.invariant.1 c.loop-b-test.false
