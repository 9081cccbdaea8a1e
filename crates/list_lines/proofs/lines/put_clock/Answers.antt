-- `put_clock` meets its contract. Assumes nothing.
use Rattle.std.proofs.Common.{◌/◌, arith, rules}
use Rattle.std.proofs.lemmas.Grind.{common_steps}
use Rattle.decimals.specs.Texts.{text}
use Rattle.list_lines.proofs.WrittenRuns.{two_length, clock_put}
use Rattle.list_lines.proofs.lines.put_clock.Goals as goal

pub put-requires : goal.put-requires
put-requires g c = (search rules, grind (arith, common_steps, two_length (c.args.m / 60)))

pub put_two-requires-2 : goal.put_two-requires-2
put_two-requires-2 g c = (search rules, (omega arith, grind (arith, common_steps, two_length (c.args.m / 60))))

pub returns : goal.returns
unfolding text
returns g c = clock_put _ _ _ _ _ c.put_two.ensures c.put.ensures c.put_two-2.ensures
