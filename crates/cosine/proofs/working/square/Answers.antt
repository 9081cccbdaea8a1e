-- `cosine::working::square` meets its contract. Assumes nothing.
use native.Mathlib.Omega.{arith}
use Rattle.cosine.proofs.NaturalSteps.{square_low, square_high, square_is}
use Rattle.cosine.proofs.working.square.Goals as goal

pub overflow_mul-result : goal.overflow_mul-result
overflow_mul-result c = omega (arith, square_high c.args.v c.requires)

pub overflow_add-result : goal.overflow_add-result
overflow_add-result c = omega (arith, square_high c.args.v c.requires)

pub overflow_sub-result : goal.overflow_sub-result
overflow_sub-result c = square_low c.args.v

pub returns : goal.returns
returns c = (square_is c.args.v, omega (arith, square_high c.args.v c.requires))
