-- `put_lines` meets its contract. Assumes nothing.
use native.Mathlib.Omega.{arith}
use Rattle.printer.proofs.PieceByPiece.{left_one, left_more, left_empty, left_over, left_room}
use Rattle.printer.proofs.TableText.{line_left, lines_over}
use Rattle.printer.proofs.lines.put_lines.Goals as goal

pub loop-i-init : goal.loop-i-init
loop-i-init c = (c.requires.0, left_one _ _ _)

pub put_line-p-requires : goal.put_line-p-requires
put_line-p-requires c =
    let l = c.loop-i in
    let left = line_left c.args.table.now l.i c.args.end l.invariant.1 c.loop-i-test.true in
    (omega (arith, c.loop-i-test.true, c.requires.1), left_room left c.requires.2)

pub loop-i-preserved : goal.loop-i-preserved
loop-i-preserved c =
    let l = c.loop-i in
    let left = line_left c.args.table.now l.i c.args.end l.invariant.1 c.loop-i-test.true in
    (omega (arith, c.loop-i-test.true), left_more left c.put_line-p.ensures)

pub shape_of-out : goal.shape_of-out
shape_of-out c = c.loop-i.invariant.1.same

pub returns : goal.returns
returns c = left_over (left_empty c.loop-i.invariant.1 (lines_over c.args.table.now c.loop-i.i c.args.end c.loop-i-test.false))
