-- `print_table` meets its contract. Assumes nothing.
use Rattle.packed.specs.Machine.Table.{table_blocks}
use Rattle.printer.proofs.Answers.{table_over, table_fits}
use Rattle.printer.proofs.print_table.Goals as goal

pub returns-then-out-n : goal.returns-then-out-n
returns-then-out-n c = table_over (table_blocks c.args.table.now) c.args.out.now _ c.text_length-n.ensures c.if-out-n.true

pub returns : goal.returns
returns c =
    let n = c.text_length-n.ensures in
    table_fits (table_blocks c.args.table.now) c.args.out.now _ n _ _ c.if-out-n.false c.put_blocks.ensures
