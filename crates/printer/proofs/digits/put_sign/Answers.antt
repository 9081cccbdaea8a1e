-- `put_sign` meets its contract. Assumes nothing.
use Rattle.printer.proofs.LinePieces.{minus_room, minus_wrote, plus_wrote}
use Rattle.printer.proofs.digits.put_sign.Goals as goal

pub put_byte-requires : goal.put_byte-requires
put_byte-requires c = minus_room _ c.args.at c.args.out.now c.if-minus.true c.requires

pub returns-then-minus : goal.returns-then-minus
returns-then-minus c = minus_wrote c.if-minus.true c.put_byte.ensures

pub returns : goal.returns
returns c = plus_wrote _ _ c.if-minus.false
