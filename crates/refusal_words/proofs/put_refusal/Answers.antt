-- `put_refusal` meets its contract. Assumes nothing.
use Rattle.std.proofs.Common.{arith, rules}
use Rattle.std.proofs.lemmas.Grind.{common_steps}
use Rattle.decimals.specs.Texts.{text}
use Rattle.decimals.specs.Decimals.{most_digits}
use Rattle.decimals.proofs.Digits.{decimal_length, signed_length}
use Rattle.units.specs.Refusals.{whole}
use Rattle.refusal_words.proofs.WrittenWords.{words_length, refusal_put}
use Rattle.refusal_words.proofs.put_refusal.Goals as goal

-- how much room is left after the number, the comma, the words and the figure
pub put-requires-2 : goal.put-requires-2
put-requires-2 g c = (search rules, grind (arith, common_steps, decimal_length most_digits c.number.result))

pub put-requires-3 : goal.put-requires-3
put-requires-3 g c = (search rules, grind (arith, common_steps, decimal_length most_digits c.number.result, words_length c.args.refusal))

pub put_figure-requires : goal.put_figure-requires
put_figure-requires g c = (search rules, grind (arith, common_steps, decimal_length most_digits c.number.result, words_length c.args.refusal))

pub put_byte-requires : goal.put_byte-requires
put_byte-requires g c = (
  search rules,
  grind
      (arith, common_steps, decimal_length most_digits c.number.result, words_length c.args.refusal, signed_length (whole c.figure.result)),
)

pub returns : goal.returns
unfolding text
returns g c =
    refusal_put _ _ _ _ _ _ _ _ _ _ _ c.number.ensures c.words.ensures c.figure.ensures c.put.ensures c.put_decimal.ensures c.put-2.ensures
    c.put-3.ensures c.put_figure.ensures c.put_byte.ensures
