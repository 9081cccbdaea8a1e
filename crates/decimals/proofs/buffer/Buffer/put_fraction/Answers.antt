-- `put_fraction` meets its contract. Assumes nothing.
use Rattle.std.proofs.Common.{◌/◌, arith, rules}
use native.Mathlib.Nat.{one-le-pow}
use Rattle.std.proofs.lemmas.Grind.{common_steps}
use Rattle.decimals.specs.Decimals.{most_digits}
use Rattle.decimals.proofs.Digits.{sign_length, decimal_length, fraction_is}
use Rattle.decimals.proofs.buffer.Buffer.put_fraction.Goals as goal

pub nonzero_div-n : goal.nonzero_div-n
nonzero_div-n g c = omega (arith, one-le-pow c.args.places 10 (omega arith))

pub put_byte-requires : goal.put_byte-requires
put_byte-requires g c =
    (search rules, grind (arith, common_steps, sign_length c.args.below, decimal_length most_digits (c.args.n / c.pow.result)))

pub put_last-requires : goal.put_last-requires
put_last-requires g c = (
  search rules,
  (omega arith, grind (arith, common_steps, sign_length c.args.below, decimal_length most_digits (c.args.n / c.pow.result))),
)

pub returns : goal.returns
returns g c = grind (arith, common_steps, fraction_is c.args.below c.args.places c.args.n)
