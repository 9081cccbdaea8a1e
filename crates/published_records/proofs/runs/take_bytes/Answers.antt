-- `published_records::runs::take_bytes` meets its contract: each turn takes a byte and a run after it. Assumes nothing.
use Rattle.std.proofs.Common.{refl, ◌+◌, get_or, arith}
use Rattle.published_records.specs.Rows.{is_heading}
use Rattle.published_records.proofs.ByteRuns.{takes_none, takes_one, takes_then, takes_good, not_bad}
use Rattle.published_records.proofs.runs.take_bytes.Goals as goal

pub loop-at-init : goal.loop-at-init
loop-at-init c = let a = c.args in takes_none (is_heading a.kind) a.row a.text.now a.from

pub loop-at-preserved : goal.loop-at-preserved
loop-at-preserved c =
    let a = c.args in
    let text = a.text.now in
    let h = is_heading a.kind in
    let s = c.loop-at.at.state in
    let i = c.loop-at.at.next in
    let next = c.lex-next in
    let after = c.take_run-at.result in
    let good = not_bad next.result c.is_bad.result c.is_bad.ensures c.if-is_bad.false in
    let one = takes_one h s next.result text i (get_or text i 0) (omega (arith, c.loop-at-test.true)) refl next.ensures (λ e. omega (arith, e)) good in
    let rest = takes_good h next.result after.state text (i + 1) after.next c.take_run-at.ensures good in
    takes_then h a.row s after.state text a.from i after.next c.loop-at.invariant
    (takes_then h s next.result after.state text i (i + 1) after.next one rest)
