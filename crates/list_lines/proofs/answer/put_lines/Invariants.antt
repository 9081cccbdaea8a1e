-- As many lines are written as runs have come, and the numbers left are those of the other runs.
use Rattle.std.proofs.Common.{◌≡◌, length}
use Rattle.std.specs.Slice.Iter.{chunks_exact_rest, chunks_exact_size}
use Rattle.list_lines.proofs.Pairs.{Left}
use Rattle.list_lines.proofs.WrittenList.{LinesLeft}
use Rattle.list_lines.proofs.answer.put_lines.Given as goal

abbrev pub invariant-loop-run : goal.invariant-loop-run
invariant-loop-run g l =
    (goal.iterator-loop-run g).can_next l.run-iterator
    × (goal.iterator-loop-run g).is_finite l.run-iterator
    × (chunks_exact_size l.run-iterator ≡ 2)
    × Left l.numbers (chunks_exact_rest l.run-iterator) l.runs (length l.yielded)
    × LinesLeft l.start l.numbers l.runs l.initial.out l.out (length l.yielded)
