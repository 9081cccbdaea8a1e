-- `cosine::working::step` meets its contract. Assumes nothing.
use native.Mathlib.Omega.{arith}
use native.Mathlib.Nat.{mul-le-mul}
use Rattle.cosine.proofs.NaturalSteps.{step_small, step_is}
use Rattle.cosine.proofs.working.step.Goals as goal

pub overflow_mul-result : goal.overflow_mul-result
overflow_mul-result c = omega (arith, mul-le-mul c.requires.0 c.requires.1)

pub overflow_add-result : goal.overflow_add-result
overflow_add-result c = omega (arith, mul-le-mul c.requires.0 c.requires.1)

pub overflow_sub-result : goal.overflow_sub-result
overflow_sub-result c = step_small c.args.y c.args.h c.args.d c.requires.0 c.requires.1 c.requires.2

pub returns : goal.returns
returns c = (step_is c.args.y c.args.h c.args.d c.requires.0 c.requires.1 c.requires.2, omega arith)
