-- `decimal_length` meets its contract. Assumes nothing.
use native.Mathlib.Omega.{arith}
use Rattle.printer.proofs.LinePieces.{decimal_length, minus_length, plus_length}
use Rattle.printer.proofs.digits.decimal_length.Goals as goal

pub returns-then-minus : goal.returns-then-minus
returns-then-minus c =
    let n = c.whole_length-n.ensures in
    let d = decimal_length c.args.minus c.args.v _ n.0 n.1 in
    let g = minus_length _ c.if-minus.true in
    (omega (arith, d.0, g), omega (arith, d.1, g))

pub returns : goal.returns
returns c =
    let n = c.whole_length-n.ensures in
    let d = decimal_length c.args.minus c.args.v _ n.0 n.1 in
    let g = plus_length _ c.if-minus.false in
    (omega (arith, d.0, g), omega (arith, d.1, g))
