-- `quick_b` meets its contract. Assumes nothing.
use mathlib.Core.Path.{refl}
use native.Mathlib.Omega.{arith}
use Rattle.packed_numbers.specs.Machine.Usual.{tops}
use Rattle.packed_numbers.proofs.quick.quick_b.Goals as goal

pub end_soon-requires : goal.end_soon-requires
unfolding tops
end_soon-requires c = (c.in_ok-four.ensures, refl, refl, omega arith, c.requires)
