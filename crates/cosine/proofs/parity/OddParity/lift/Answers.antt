-- `cosine::parity`'s `lift` of the odd series meets its contract. Assumes nothing.
use native.Mathlib.Omega.{arith}
use Rattle.cosine.proofs.NaturalSteps.{odd_small, odd_lifted}
use Rattle.cosine.proofs.parity.OddParity.lift.Goals as goal

pub overflow_mul-result : goal.overflow_mul-result
overflow_mul-result c = omega (arith, odd_small c.args.v c.args.h c.requires.0)

pub overflow_add-result-2 : goal.overflow_add-result-2
overflow_add-result-2 c = omega (arith, odd_small c.args.v c.args.h c.requires.0)

pub overflow_sub-result : goal.overflow_sub-result
overflow_sub-result c = omega (arith, odd_small c.args.v c.args.h c.requires.0)

pub returns : goal.returns
returns c = (odd_lifted c.args.v c.args.h c.requires.1 (overflow_sub-result c), omega arith)
