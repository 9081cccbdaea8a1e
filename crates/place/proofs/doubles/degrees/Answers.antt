-- `place::doubles::degrees` meets its contract. Assumes nothing.
use mathlib.Core.Path.{refl}
use lib.Ieee.{of_bits, of_int}
use Rattle.place.specs.Mount.{hundredths_per_degree, degrees}
use Rattle.place.proofs.Casts.{cast_asks, divided}
use Rattle.place.proofs.doubles.degrees.Goals as goal

pub int_to_float-result : goal.int_to_float-result
int_to_float-result c = cast_asks c.args.k c.requires

pub returns : goal.returns
unfolding degrees of_bits of_int
returns c = divided c.args.k hundredths_per_degree _ refl c.requires
