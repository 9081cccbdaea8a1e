-- `magnitude` meets its contract. Assumes nothing.
use mathlib.Core.Path.{sym}
use Rattle.packed_numbers.proofs.Folding.{nat_abs_unfolded}
use Rattle.packed_numbers.proofs.magnitude.Goals as goal

pub returns : goal.returns
returns c = sym (nat_abs_unfolded c.args.v)
