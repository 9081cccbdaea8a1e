-- `series::sums::block_start` meets its contract. Assumes nothing.
use Rattle.series.proofs.Blocks.{start_later}
use Rattle.packed.specs.Machine.Table.{ends}
use mathlib.Core.Path.{◌∙◌}
use Rattle.series.proofs.sums.block_start.Goals as goal

pub returns-then-j-eq0 : goal.returns-then-j-eq0
returns-then-j-eq0 c = rw c.if-j-eq0.true

pub returns : goal.returns
returns c = c.block_end.ensures ∙ start_later (ends c.args.table.now) c.args.j c.if-j-eq0.false
