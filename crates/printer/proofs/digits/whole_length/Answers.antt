-- `whole_length` meets its contract. Assumes nothing.
use native.Mathlib.Omega.{arith}
use Rattle.printer.proofs.DigitsWritten.{whole_length}
use Rattle.printer.proofs.digits.whole_length.Goals as goal

pub returns : goal.returns
returns c = (omega (arith, c.further_digits.ensures.0, whole_length c.args.v), omega (arith, c.further_digits.ensures.1))
