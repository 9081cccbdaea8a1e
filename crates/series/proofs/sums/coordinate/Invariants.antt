-- `series::sums::coordinate` meets its contract. Assumes nothing.
use Rattle.packed.specs.Machine.Table.{table_blocks}
use Rattle.series.proofs.Blocks.{Running}
use Rattle.series.proofs.sums.coordinate.Given as goal

abbrev pub invariant-loop-k : goal.invariant-loop-k
invariant-loop-k l = Running l.p.t (table_blocks l.table) l.first l.v l.k
