-- `mending::writing::list_run` meets its contract: what is listed and what is left are all. Assumes nothing.
use Prim.Native.Nat.{◌-◌}
use Rattle.mending.specs.Rule.{numbers}
use Rattle.mending.specs.Machine.Runs.{drops}
use Rattle.mending.specs.Machine.Passes.{Rest}
use Rattle.mending.proofs.writing.list_run.Given as goal

abbrev pub invariant-loop-i : goal.invariant-loop-i
invariant-loop-i l = Rest (numbers (drops l.from (l.end - l.from))) l.slot l.initial.list (numbers (drops l.i (l.end - l.i))) l.next l.list
