-- `series::table::fill` meets its contract. Assumes nothing.
use Rattle.series.proofs.Filled.{fills}
use Rattle.series.proofs.table.fill.Goals as goal

pub returns : goal.returns
returns c = let u = c.unpack.ensures in (u.0, fills _ _ u.1)
