-- `sunlist::window::write_runs` meets its contract. Assumes nothing.
use native.Mathlib.Omega.{arith}
use Rattle.runs.specs.Runs.{run_numbers}
use Rattle.sunlist.proofs.Windows.{no_room, all_written}
use Rattle.sunlist.proofs.window.write_runs.Goals as goal

pub returns-then-out-n : goal.returns-then-out-n
returns-then-out-n c = no_room (run_numbers c.args.flags.now) c.args.out.now c.count-n.result c.count-n.ensures c.if-out-n.true

pub returns : goal.returns
returns c = all_written (run_numbers c.args.flags.now) c.args.out.now _ c.count-n.result c.count-n.ensures (omega arith) c.write.ensures
