-- `below_zero` meets its contract. Assumes nothing.
use Rattle.printer.proofs.LinePieces.{odd_below}
use Rattle.printer.proofs.lines.below_zero.Goals as goal

pub returns : goal.returns
returns c = odd_below _
