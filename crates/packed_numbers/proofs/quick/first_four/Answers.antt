-- `first_four` meets its contract. Assumes nothing.
use mathlib.Core.Path.{refl}
use native.Mathlib.Omega.{arith}
use Rattle.packed_numbers.proofs.Usual.{none_begun}
use Rattle.packed_numbers.proofs.quick.first_four.Goals as goal

pub two_more-requires : goal.two_more-requires
two_more-requires c = (none_begun c.args.s.now c.args.at, refl, omega arith, c.requires)
