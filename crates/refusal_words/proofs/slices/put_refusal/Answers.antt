-- `put_refusal` into a lent slice meets its contract: no line is longer than its room. Assumes nothing.
use Rattle.std.proofs.Common.{◌≡◌, arith, rules}
use Rattle.decimals.proofs.Puts.{alone, text_put}
use Rattle.refusal_words.specs.Words.{refusal_text}
use Rattle.refusal_words.proofs.WrittenWords.{refusal_length}
use Rattle.refusal_words.proofs.slices.put_refusal.Goals as goal

pub put_into-requires : goal.put_into-requires
put_into-requires c =
    let e : c.put_refusal.new.out ≡ refusal_text c.args.refusal = alone _ _ _ c.new-line.ensures c.put_refusal.ensures in
    (search rules, rw e (omega (arith, c.requires, refusal_length c.args.refusal)))

pub returns : goal.returns
returns c = text_put _ _ _ _ _ _ (alone _ _ _ c.new-line.ensures c.put_refusal.ensures) c.put_into.ensures
