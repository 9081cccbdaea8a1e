-- `put_blocks` meets its contract. Assumes nothing.
use mathlib.Core.List.{[], ◌∷◌}
use lib.ListN.{drop}
use Rattle.packed.specs.Machine.Table.{ends, table_blocks}
use Rattle.printer.specs.Printer.{plain_text}
use Rattle.printer.specs.Machine.Writing.{Ordered}
use Rattle.printer.proofs.PieceByPiece.{Left}
use Rattle.printer.proofs.TableText.{blocks_from}
use Rattle.printer.proofs.blocks.put_blocks.Given as goal

abbrev pub invariant-loop-place : goal.invariant-loop-place
invariant-loop-place l =
    Ordered l.from (drop l.place-index (ends l.table))
    × Left (plain_text (table_blocks l.table)) 0 l.initial.out (blocks_from l.table l.from l.place-index ∷ []) l.p l.out
