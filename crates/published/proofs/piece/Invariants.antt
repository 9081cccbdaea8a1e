-- `published::piece` meets its contract: what is left to run gives what the whole piece gives. Assumes nothing.
use Rattle.std.proofs.Common.{◌≡◌, ◌-◌, length, drop}
use Rattle.published.specs.Reader.{run}
use Rattle.published.proofs.piece.Given as goal

abbrev pub invariant-loop-at : goal.invariant-loop-at
invariant-loop-at l =
    (length l.out ≡ length l.initial.out) × (run l.at.state l.out (drop l.at.next l.text) ≡ run l.fn.p l.initial.out l.text)

abbrev pub decreases-loop-at : goal.decreases-loop-at
decreases-loop-at l = length l.text - l.at.next
