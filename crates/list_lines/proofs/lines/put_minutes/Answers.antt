-- `put_minutes` meets its contract. Assumes nothing.
use Rattle.std.proofs.Common.{arith, rules}
use Rattle.std.proofs.lemmas.Grind.{common_steps}
use Rattle.decimals.specs.Texts.{text}
use Rattle.decimals.specs.Decimals.{most_digits}
use Rattle.decimals.proofs.Digits.{decimal_length}
use Rattle.list_lines.proofs.WrittenRuns.{minutes_put}
use Rattle.list_lines.proofs.lines.put_minutes.Goals as goal

pub put-requires : goal.put-requires
put-requires g c = (search rules, grind (arith, common_steps, decimal_length most_digits c.args.first))

pub put_decimal-requires-2 : goal.put_decimal-requires-2
put_decimal-requires-2 g c = (search rules, grind (arith, common_steps, decimal_length most_digits c.args.first))

pub put-requires-2 : goal.put-requires-2
put-requires-2 g c =
    (search rules, grind (arith, common_steps, decimal_length most_digits c.args.first, decimal_length most_digits c.args.last))

pub returns : goal.returns
unfolding text
returns g c = minutes_put _ _ _ _ _ _ _ c.put_decimal.ensures c.put.ensures c.put_decimal-2.ensures c.put-2.ensures
