-- `put_decimal` meets its contract: the digits of a tenth, and the last one behind them. Assumes nothing.
use Rattle.std.proofs.Common.{◌∙◌, ◌-◌, ◌/◌, arith, rules}
use Rattle.std.proofs.lemmas.Grind.{common_steps}
use Rattle.decimals.proofs.Digits.{decimal_none, one_put, more_put, decimal_length}
use Rattle.decimals.proofs.buffer.Buffer.+put_decimal.Goals as goal
use Rattle.decimals.proofs.buffer.Buffer.+put_decimal.Goals.{then-n-ge10, else-n-ge10}

pub returns-then-places-eq0 : goal.returns-then-places-eq0
returns-then-places-eq0 g t c = grind (arith, common_steps, decimal_none _ c.args.n c.if-places-eq0.true)

pub put_byte-requires : goal.put_byte-requires
put_byte-requires g t c =
    elim c.if-n-ge10.branch [
      | then-n-ge10 w ↦ (search rules, grind (arith, common_steps, decimal_length (c.args.places - 1) (c.args.n / 10)))
      | else-n-ge10 w ↦ (search rules, grind (arith, common_steps))
    ]

pub returns : goal.returns
returns g t c =
    elim c.if-n-ge10.branch [
      | then-n-ge10 w ↦
          more_put _ _ _ _ _ _ c.if-places-eq0.false w.if-n-ge10.true (w.self-is ∙ w.put_decimal.ensures) c.digit.ensures c.put_byte.ensures
      | else-n-ge10 w ↦ one_put _ _ _ _ _ _ c.if-places-eq0.false (omega arith) w.self-is c.digit.ensures c.put_byte.ensures
    ]
