-- `put_block` meets its contract. Assumes nothing.
use Rattle.printer.proofs.PieceByPiece.{left_is, left_more, left_over, left_room}
use Rattle.printer.proofs.TableText.{block_pieces}
use Rattle.printer.proofs.blocks.put_block.Goals as goal

pub put_whole-i-requires : goal.put_whole-i-requires
put_whole-i-requires c =
    let left = left_is (block_pieces c.args.table.now c.args.from c.args.end) c.args.at c.args.out.now in
    left_room left c.requires.2

pub put_byte-j-requires : goal.put_byte-j-requires
put_byte-j-requires c =
    let left = left_is (block_pieces c.args.table.now c.args.from c.args.end) c.args.at c.args.out.now in
    left_room (left_more left c.put_whole-i.ensures) c.requires.2

pub put_lines-requires : goal.put_lines-requires
put_lines-requires c =
    let left = left_is (block_pieces c.args.table.now c.args.from c.args.end) c.args.at c.args.out.now in
    let left1 = left_more left c.put_whole-i.ensures in
    (c.requires.0, c.requires.1, left_room (left_more left1 c.put_byte-j.ensures) c.requires.2)

pub returns : goal.returns
returns c =
    let left = left_is (block_pieces c.args.table.now c.args.from c.args.end) c.args.at c.args.out.now in
    let left1 = left_more left c.put_whole-i.ensures in
    let left2 = left_more left1 c.put_byte-j.ensures in
    left_over (left_more left2 c.put_lines.ensures)
