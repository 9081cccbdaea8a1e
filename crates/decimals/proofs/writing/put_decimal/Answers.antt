-- `put_decimal` meets its contract: twenty places hold every number of 64 bits. Assumes nothing.
use Rattle.std.proofs.Common.{◌≡◌, ◌∙◌, arith, rules}
use Rattle.decimals.specs.Decimals.{decimal}
use Rattle.decimals.proofs.Digits.{decimal_length, decimal_few}
use Rattle.decimals.proofs.Puts.{alone, text_put}
use Rattle.decimals.proofs.writing.put_decimal.Goals as goal

pub put_into-requires : goal.put_into-requires
put_into-requires c =
    let e : c.put_decimal.new.self ≡ decimal c.args.places c.args.n =
    alone _ _ _ c.new-digits.ensures c.put_decimal.ensures ∙ decimal_few _ _ _ c.ranges.n.fits c.min.ensures in
    (search rules, rw e (omega (arith, c.requires, decimal_length c.args.places c.args.n)))

pub returns : goal.returns
returns c =
    text_put _ _ _ _ _ _ (alone _ _ _ c.new-digits.ensures c.put_decimal.ensures ∙ decimal_few _ _ _ c.ranges.n.fits c.min.ensures) c.put_into.ensures
