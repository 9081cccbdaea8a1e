-- `mending::writing::Writing::put_run` meets its contract: what is written and what is left are all. Assumes nothing.
use Rattle.mending.specs.Machine.Runs.{run_bytes, run_numbers}
use Rattle.mending.specs.Machine.Passes.{Rest}
use Rattle.mending.proofs.writing.Writing.put_run.Given as goal

abbrev pub invariant-loop-i : goal.invariant-loop-i
invariant-loop-i l =
    Rest (run_bytes l.text l.fn.self.from l.end) l.fn.self.place.at l.initial.out (run_bytes l.text l.i l.end) l.place.at l.out
    × Rest (run_numbers l.text l.fn.self.from l.end) l.fn.self.place.slot l.initial.list (run_numbers l.text l.i l.end) l.place.slot l.list
