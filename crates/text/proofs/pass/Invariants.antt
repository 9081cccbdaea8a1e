-- `text::pass` meets its contract: what is left to run gives what the whole piece gives. Assumes nothing.
use mathlib.Core.Path.{◌≡◌}
use Prim.Native.Nat.{◌-◌}
use lib.ListN.{length, drop}
use Rattle.text.specs.Machine.Modes.{passed}
use Rattle.text.proofs.pass.Given as goal

abbrev pub invariant-loop-i : goal.invariant-loop-i
invariant-loop-i g l =
    (length l.out ≡ length l.initial.out)
    × (passed g.S.Sink.writes l.reader l.out (drop l.i l.text) ≡ passed g.S.Sink.writes l.initial.reader l.initial.out l.text)

abbrev pub decreases-loop-i : goal.decreases-loop-i
decreases-loop-i g l = length l.text - l.i
