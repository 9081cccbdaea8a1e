-- `put_lines` meets its contract. Assumes nothing.
use mathlib.Core.List.{[], ◌∷◌}
use Prim.Native.Nat.{◌≤◌}
use Rattle.printer.specs.Machine.Writing.{lines_of}
use Rattle.printer.proofs.PieceByPiece.{Left}
use Rattle.printer.proofs.lines.put_lines.Given as goal

abbrev pub invariant-loop-i : goal.invariant-loop-i
invariant-loop-i l = (l.i ≤ l.end) × Left (lines_of l.table l.from l.end) l.at l.initial.out (lines_of l.table l.i l.end ∷ []) l.p l.out
