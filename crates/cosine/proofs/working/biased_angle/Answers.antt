-- `cosine::working::biased_angle` meets its contract. Assumes nothing.
use native.Mathlib.Omega.{arith}
use Rattle.cosine.proofs.NaturalSteps.{quarters_value, biased_angle_is, biased_angle_range}
use Rattle.cosine.proofs.working.biased_angle.Goals as goal

pub overflow_mul-result : goal.overflow_mul-result
overflow_mul-result c = omega (arith, quarters_value c.args.x c.args.q c.requires.1)

pub overflow_sub-result : goal.overflow_sub-result
overflow_sub-result c = omega (arith, quarters_value c.args.x c.args.q c.requires.1)

pub returns : goal.returns
returns c = (biased_angle_is c.args.x c.args.q c.requires.1, biased_angle_range c.args.x c.args.q c.requires.1)
