-- `block_length` meets its contract. Assumes nothing.
use native.Mathlib.Omega.{arith}
use Rattle.printer.proofs.TableText.{block_length}
use Rattle.printer.proofs.blocks.block_length.Goals as goal

pub returns : goal.returns
returns c =
    let n = c.whole_length-n.ensures in
    let m = c.lines_length.ensures in
    (block_length c.args.table.now c.args.from c.args.end _ _ n.0 m.0, omega (arith, n.1, m.1))
