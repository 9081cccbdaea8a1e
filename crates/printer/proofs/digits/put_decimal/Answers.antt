-- `put_decimal` meets its contract. Assumes nothing.
use mathlib.Core.Bool.{Bool}
use mathlib.Core.List.{List}
use Prim.Native.Nat.{ℕ}
use Rattle.series_lines.specs.Grammar.{part_digits, decimal}
use Rattle.printer.specs.Printer.{plain_decimal}
use Rattle.printer.proofs.PieceByPiece.{Left, left_is, left_more, left_over, left_room}
use Rattle.printer.proofs.DigitsWritten.{digits_room}
use Rattle.printer.proofs.LinePieces.{decimal_parts, decimal_pieces}
use Rattle.printer.proofs.digits.put_decimal.Goals as goal

-- Before the first write all pieces are left.
begun : (minus : Bool) (v at : ℕ) (out : List ℕ) → Left (decimal (plain_decimal minus v)) at out (decimal_parts minus v) at out
begun minus v at out = left_is (decimal_pieces minus v) at out

pub put_sign-whole-requires : goal.put_sign-whole-requires
put_sign-whole-requires c =
    left_room (begun c.args.minus c.args.v c.args.at c.args.out.now) c.requires

pub put_whole-point-requires : goal.put_whole-point-requires
put_whole-point-requires c =
    left_room (left_more (begun c.args.minus c.args.v c.args.at c.args.out.now) c.put_sign-whole.ensures) c.requires

pub put_byte-part-requires : goal.put_byte-part-requires
put_byte-part-requires c =
    left_room (left_more (left_more (begun c.args.minus c.args.v c.args.at c.args.out.now) c.put_sign-whole.ensures) c.put_whole-point.ensures) c.requires

pub put_digits-requires : goal.put_digits-requires
put_digits-requires c =
    let left1 = left_more (begun c.args.minus c.args.v c.args.at c.args.out.now) c.put_sign-whole.ensures in
    let left2 = left_more left1 c.put_whole-point.ensures in
    digits_room part_digits c.args.v (left_more left2 c.put_byte-part.ensures) c.requires

pub returns : goal.returns
returns c =
    let left1 = left_more (begun c.args.minus c.args.v c.args.at c.args.out.now) c.put_sign-whole.ensures in
    let left2 = left_more left1 c.put_whole-point.ensures in
    let left3 = left_more left2 c.put_byte-part.ensures in
    left_over (left_more left3 c.put_digits.ensures)
