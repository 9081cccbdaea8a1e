-- `answer_piece` meets its contract. Assumes nothing.
use Rattle.date_lines.proofs.WrittenReplies.{left_more, left_line, left_output}
use Rattle.date_lines.proofs.answer_piece.Goals as goal

pub loop-b-preserved : goal.loop-b-preserved
loop-b-preserved g c =
    left_more _ _ _ _ _ _ c.loop-b.invariant _ _ c.loop-b-test.true c.answer_byte-now.ensures.line c.answer_byte-now.ensures.output

pub returns-clause-line : goal.returns-clause-line
returns-clause-line g c = left_line _ _ _ _ _ _ c.loop-b.invariant c.loop-b-test.false

pub returns-clause-output : goal.returns-clause-output
returns-clause-output g c = left_output _ _ _ _ _ _ c.loop-b.invariant c.loop-b-test.false
