-- `nutation_table::row_at` meets its contract: the code's rows are those of the definition, entry by entry. Assumes nothing.
use mathlib.Core.Path.{refl}
use Rattle.nutation_table.specs.Table.{rows}
use Rattle.nutation_table.proofs.Rows.{found}
use Rattle.nutation_table.proofs.row_at.Goals as goal

pub returns : goal.returns
unfolding rows
returns c = found c.args.i _ refl
