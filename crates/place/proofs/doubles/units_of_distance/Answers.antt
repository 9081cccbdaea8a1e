-- `place::doubles::units_of_distance` meets its contract. Assumes nothing.
use mathlib.Core.Path.{refl}
use lib.Ieee.{of_bits, of_int}
use Rattle.units.specs.Units.{parts}
use Rattle.place.specs.Mount.{astronomical_units}
use Rattle.place.proofs.Casts.{cast_asks, divided}
use Rattle.place.proofs.doubles.units_of_distance.Goals as goal

pub int_to_float-result : goal.int_to_float-result
int_to_float-result c = cast_asks c.args.d c.requires

pub returns : goal.returns
unfolding astronomical_units of_bits of_int
returns c = divided c.args.d parts _ refl c.requires
