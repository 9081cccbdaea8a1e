-- `put_clocks` meets its contract. Assumes nothing.
use Rattle.std.proofs.Common.{arith, rules}
use Rattle.std.proofs.lemmas.Grind.{common_steps}
use Rattle.decimals.specs.Texts.{text}
use Rattle.list_lines.proofs.WrittenRuns.{clock_length, same_minute, clocks_put}
use Rattle.list_lines.proofs.lines.put_clocks.Goals as goal

pub put-requires : goal.put-requires
put-requires g c = (search rules, grind (arith, common_steps, clock_length))

pub put_clock-requires-2 : goal.put_clock-requires-2
put_clock-requires-2 g c = (search rules, (omega arith, grind (arith, common_steps, clock_length)))

pub put-requires-2 : goal.put-requires-2
put-requires-2 g c = (search rules, grind (arith, common_steps, clock_length))

pub returns : goal.returns
unfolding text
returns g c =
    let a = c.args in
    clocks_put a.start a.first a.last _ _ _ _ _ _ _ (same_minute a.start a.first) (same_minute a.start a.last) c.put_clock.ensures c.put.ensures
    c.put_clock-2.ensures c.put-2.ensures
