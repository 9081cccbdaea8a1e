-- `mending::mend` meets its contract. Assumes nothing.
use mathlib.Core.Path.{sym}
use native.Mathlib.Omega.{arith}
use lib.Seq.{length-take-le}
use Rattle.mending.proofs.Answers.{text_over, list_over, both_room, both_fit}
use Rattle.mending.proofs.mend.Goals as goal

pub returns-then-out-length : goal.returns-then-out-length
returns-then-out-length c =
    let n = c.count-length in
    let a = c.args in
    text_over a.text.now a.out.now a.list.now n.result.length n.result.changes n.ensures.0 n.ensures.1 (omega arith)

pub returns-then-list-changes : goal.returns-then-list-changes
returns-then-list-changes c =
    let n = c.count-length in
    let a = c.args in
    list_over a.text.now a.out.now a.list.now n.result.length n.result.changes n.ensures.0 n.ensures.1 (omega arith) (omega arith)

pub write-requires : goal.write-requires
write-requires c =
    let n = c.count-length in
    let a = c.args in
    both_room a.text.now a.out.now a.list.now n.result.length n.result.changes n.ensures.0 n.ensures.1 (omega arith) (omega arith)

pub slice_bounds-judge-end-2 : goal.slice_bounds-judge-end-2
slice_bounds-judge-end-2 c = sym (length-take-le _ _ (omega (arith, c.write.auto.out)))

pub returns : goal.returns
returns c =
    let n = c.count-length.ensures in
    let a = c.args in
    both_fit a.text.now a.out.now a.list.now _ _ n.0 n.1 c.if-out-length.false c.if-list-changes.false _ _ _ c.write.ensures.0
    c.write.ensures.1 c.judge-verdict.ensures
