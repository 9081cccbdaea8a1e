-- `answer_byte` from a state meets its contract. Assumes nothing.
use Rattle.std.proofs.Common.{◌≡◌, refl, ap, ◌∙◌, arith, rules}
use borrow.Author.Tests.{eq-eqb, ne_eqb}
use Rattle.decimals.specs.Texts.{line_feed}
use Rattle.decimals.specs.Writing.{Put}
use Rattle.decimals.proofs.Puts.{alone, text_put}
use Rattle.date_lines.specs.States.{state_reading, state_reply, state_after, state_said}
use Rattle.date_lines.proofs.StateLoop.{said_length}
use Rattle.date_lines.proofs.states.answer_byte.Goals as goal

pub put_into-requires : goal.put_into-requires
put_into-requires c =
    let e : c.put_said.new.out ≡ state_reply c.whole.result = alone _ _ _ c.new-reply.ensures c.put_said.ensures in
    (search rules, omega (arith, c.requires, said_length _ _ e))

pub returns-then-b-eq-LINE_FEED : goal.returns-then-b-eq-LINE_FEED
unfolding state_after state_said
returns-then-b-eq-LINE_FEED c =
    let a = c.args in
    let e : c.put_said.new.out ≡ state_reply c.whole.result = alone _ _ _ c.new-reply.ensures c.put_said.ensures in
    let p : Put a.out.now a.at (state_reply (state_reading a.line)) c.put_into.result c.put_into.new.out =
    text_put _ _ _ _ _ _ (e ∙ ap state_reply c.whole.ensures) c.put_into.ensures in
    rw (eq-eqb a.b line_feed (omega arith)) (c.start.ensures, p.0, p.1)

pub returns : goal.returns
unfolding state_after state_said
returns c = let a = c.args in rw (ne_eqb a.b line_feed (λ x. omega (arith, x))) (c.take_byte.ensures, omega arith, refl)
