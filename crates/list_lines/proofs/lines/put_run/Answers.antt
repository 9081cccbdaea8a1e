-- `put_run` meets its contract. Assumes nothing.
use Rattle.std.proofs.Common.{arith, rules}
use Rattle.std.proofs.lemmas.Grind.{common_steps}
use Rattle.list_lines.proofs.WrittenRuns.{minutes_length, run_put}
use Rattle.list_lines.proofs.lines.put_run.Goals as goal

pub put_clocks-requires : goal.put_clocks-requires
put_clocks-requires g c = (search rules, grind (arith, common_steps, minutes_length c.args.first c.args.last))

pub returns : goal.returns
returns g c = run_put _ _ _ _ _ _ c.put_minutes.ensures c.put_clocks.ensures
