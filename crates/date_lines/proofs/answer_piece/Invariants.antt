-- `answer_piece` meets its contract. Assumes nothing.
use Rattle.std.proofs.Common.{drop}
use Rattle.date_lines.proofs.WrittenReplies.{Left}
use Rattle.date_lines.proofs.answer_piece.Given as goal

abbrev pub invariant-loop-b : goal.invariant-loop-b
invariant-loop-b g l = Left l.initial.now l.initial.out l.piece l.out l.now (drop l.b-index l.piece)
