-- `text_length` meets its contract. Assumes nothing.
use Rattle.printer.proofs.TableText.{Totalled}
use Rattle.printer.proofs.blocks.text_length.Given as goal

abbrev pub invariant-loop-place : goal.invariant-loop-place
invariant-loop-place l = Totalled l.table l.n l.from l.place-index
