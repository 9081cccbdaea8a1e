-- `put_signed` meets its contract. Assumes nothing.
use Rattle.std.proofs.Common.{◌≡◌, ◌∙◌, ap, arith, rules}
use Rattle.arith.proofs.Signs.{back}
use Rattle.decimals.specs.Decimals.{signed_decimal}
use Rattle.decimals.proofs.Digits.{signed_length}
use Rattle.decimals.proofs.Puts.{alone, text_put}
use Rattle.decimals.proofs.writing.put_signed.Goals as goal

pub put_into-requires : goal.put_into-requires
put_into-requires c =
    let e : c.put_signed.new.self ≡ signed_decimal c.args.z =
    alone _ _ _ c.new-number.ensures c.put_signed.ensures ∙ ap signed_decimal (back _ c.ranges.z) in
    (search rules, rw e (omega (arith, c.requires, signed_length c.args.z)))

pub returns : goal.returns
returns c =
    text_put _ _ _ _ _ _ (alone _ _ _ c.new-number.ensures c.put_signed.ensures ∙ ap signed_decimal (back _ c.ranges.z)) c.put_into.ensures
