-- `cosine::parity::horner` meets its contract: h is the series of the divisors passed. Assumes nothing.
use mathlib.Core.Path.{◌≡◌}
use Prim.Native.Nat.{◌≤◌}
use lib.IntN.{pos}
use lib.ListN.{drop}
use Rattle.units.specs.Units.{U}
use Rattle.cosine.specs.Cosine.{horner}
use Rattle.cosine.proofs.parity.horner.Given as goal

abbrev pub invariant-loop-k : goal.invariant-loop-k
invariant-loop-k g l = (pos l.h ≡ horner (pos l.y) (drop l.k l.divisors)) × (l.h ≤ U)
