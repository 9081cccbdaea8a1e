-- `answer_last` from a state meets its contract. Assumes nothing.
use Rattle.std.proofs.Common.{◌≡◌, ap, ◌∙◌, arith, rules}
use Rattle.decimals.specs.Writing.{Put}
use Rattle.decimals.proofs.Puts.{alone, text_put}
use Rattle.date_lines.specs.States.{reading_unless_empty, state_last_reply}
use Rattle.date_lines.proofs.StateLoop.{last_length}
use Rattle.date_lines.proofs.states.answer_last.Goals as goal

pub put_into-requires : goal.put_into-requires
put_into-requires c =
    let e : c.put_last.new.out ≡ reading_unless_empty c.whole.result = alone _ _ _ c.new-reply.ensures c.put_last.ensures in
    (search rules, omega (arith, c.requires, last_length c.whole.result _ e))

pub returns : goal.returns
unfolding state_last_reply
returns c =
    let a = c.args in
    let e : c.put_last.new.out ≡ reading_unless_empty c.whole.result = alone _ _ _ c.new-reply.ensures c.put_last.ensures in
    let p : Put a.out.now 0 (state_last_reply a.line) c.put_into.result c.put_into.new.out =
    text_put _ _ _ _ _ _ (e ∙ ap reading_unless_empty c.whole.ensures) c.put_into.ensures in
    (omega (arith, p.0), p.1)
