-- What is left of the piece gives what the whole gives.
use Rattle.std.proofs.Common.{drop}
use Rattle.date_lines.proofs.StateLoop.{Left}
use Rattle.date_lines.proofs.states.answer_piece.Given as goal

abbrev pub invariant-loop-b : goal.invariant-loop-b
invariant-loop-b l = Left l.initial.so_far.line l.initial.out l.piece l.out l.so_far.line l.so_far.at (drop l.b-index l.piece)
