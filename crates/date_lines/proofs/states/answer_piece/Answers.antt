-- `answer_piece` from a state meets its contract. Assumes nothing.
use Rattle.std.proofs.Common.{arith}
use Rattle.date_lines.proofs.StateLoop.{left_start, left_room, left_more, left_end}
use Rattle.date_lines.proofs.states.answer_piece.Goals as goal

pub loop-b-init : goal.loop-b-init
loop-b-init c = left_start _ _ _ c.requires

pub answer_byte-so_far-requires : goal.answer_byte-so_far-requires
answer_byte-so_far-requires c = omega (arith, left_room _ _ _ _ _ _ _ c.loop-b.invariant c.loop-b-test.true)

pub loop-b-preserved : goal.loop-b-preserved
loop-b-preserved c =
    let e = c.answer_byte-so_far.ensures in left_more _ _ _ _ _ _ _ c.loop-b.invariant _ _ _ c.loop-b-test.true e.0 e.1 e.2

pub returns : goal.returns
returns c = left_end _ _ _ _ _ _ _ c.loop-b.invariant c.loop-b-test.false
