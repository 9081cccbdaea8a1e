-- `put_day` meets its contract. Assumes nothing.
use Rattle.std.proofs.Common.{arith, rules}
use Rattle.std.proofs.lemmas.Grind.{common_steps}
use Rattle.decimals.specs.Decimals.{most_digits}
use Rattle.decimals.proofs.Digits.{decimal_length}
use Rattle.date_lines.proofs.reply.put_day.Goals as goal

pub put_byte-requires : goal.put_byte-requires
put_byte-requires g c = (search rules, grind (arith, common_steps, decimal_length most_digits c.natural_or.result))
