-- `runs::write` meets its contract. Assumes nothing.
use Rattle.std.proofs.Common.{arith, ap, ◌+◌, ◌∙◌}
use Rattle.std.proofs.lemmas.List.Edits.{sets}
use Rattle.runs.proofs.WindowLoops.{written_none, written_room, written_more, written_all, same_ends}
use Rattle.runs.proofs.write.Goals as goal

pub loop-i-init : goal.loop-i-init
loop-i-init c = written_none _ _ c.requires

pub put_ends-requires : goal.put_ends-requires
put_ends-requires c =
    let r = written_room _ _ _ _ _ c.loop-i.invariant c.loop-i-test.true in
    let e = c.count_at-ends.ensures.0 in
    (c.count_at-ends.ensures.1, omega arith)

pub loop-i-preserved : goal.loop-i-preserved
loop-i-preserved c =
    let e = c.count_at-ends.ensures.0 in
    written_more _ _ _ _ _ c.loop-i.invariant c.loop-i-test.true _ _ (ap (λ n. c.loop-i.at + n) e)
    (c.put_ends.ensures ∙ ap (λ xs. sets c.loop-i.out c.loop-i.at xs) (same_ends _ _ _ e))

pub returns : goal.returns
returns c = written_all _ _ _ _ _ c.loop-i.invariant c.loop-i-test.false
