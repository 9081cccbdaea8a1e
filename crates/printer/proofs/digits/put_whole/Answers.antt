-- `put_whole` meets its contract. Assumes nothing.
use Rattle.printer.proofs.DigitsWritten.{whole_room, whole_wrote}
use Rattle.printer.proofs.digits.put_whole.Goals as goal

pub put_digits-requires : goal.put_digits-requires
put_digits-requires c = whole_room c.args.v _ c.args.at c.args.out.now c.whole_length.ensures.0 c.requires

pub returns : goal.returns
returns c = whole_wrote _ _ _ _ _ _ c.ranges.v.fits c.whole_length.ensures.0 c.put_digits.ensures
