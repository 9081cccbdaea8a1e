-- `rectangular::geocentric` meets its contract. Assumes nothing.
use native.Mathlib.Omega.{arith}
use Rattle.std.proofs.lemmas.Int.{ints}
use Rattle.rectangular.specs.Vectors.{geocentric}
use Rattle.rectangular.proofs.Places.{three}
use Rattle.rectangular.proofs.geocentric.Goals as goal

pub returns : goal.returns
unfolding geocentric
returns c = three (omega (arith, ints)) (omega (arith, ints)) (omega (arith, ints))
