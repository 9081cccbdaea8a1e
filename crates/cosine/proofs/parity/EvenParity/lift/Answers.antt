-- `cosine::parity`'s `lift` of the even series meets its contract. Assumes nothing.
use native.Mathlib.Omega.{arith}
use Rattle.cosine.proofs.NaturalSteps.{even_lifted}
use Rattle.cosine.proofs.parity.EvenParity.lift.Goals as goal

pub returns : goal.returns
returns c = (even_lifted c.args._v c.args.h c.requires.1, omega arith)
