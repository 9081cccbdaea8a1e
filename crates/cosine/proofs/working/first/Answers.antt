-- `cosine::working::first` meets its contract. Assumes nothing.
use native.Mathlib.Omega.{arith}
use Rattle.cosine.proofs.NaturalSteps.{first_small, first_is}
use Rattle.cosine.proofs.working.first.Goals as goal

pub overflow_cast-result-3 : goal.overflow_cast-result-3
overflow_cast-result-3 c = omega (arith, first_small _ _ c.requires.0 c.requires.1)

pub overflow_sub-result : goal.overflow_sub-result
overflow_sub-result c = omega (arith, first_small _ _ c.requires.0 c.requires.1)

pub returns : goal.returns
returns c = (first_is _ _ c.requires.0 c.requires.1, omega arith)
