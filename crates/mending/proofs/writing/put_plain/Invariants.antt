-- `mending::writing::put_plain` meets its contract: what is written and what is left are all. Assumes nothing.
use Prim.Native.Nat.{◌+◌, ◌-◌}
use Rattle.mending.specs.Machine.Passes.{Copied}
use Rattle.mending.proofs.writing.put_plain.Given as goal

abbrev pub invariant-loop-j : goal.invariant-loop-j
invariant-loop-j l = Copied l.text l.i l.at l.initial.out l.j (l.at + (l.j - l.i)) l.out
