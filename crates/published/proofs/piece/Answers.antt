-- `published::piece` meets its contract: what is left to run gives what the whole piece gives. Assumes nothing.
use Rattle.std.proofs.Common.{refl, sym, ap, ◌∙◌, arith}
use Rattle.series_lines.specs.Calls.{Run}
use Rattle.series_lines.proofs.Calls.{run_more, run_end}
use Rattle.published.specs.declared.Published.{Published}
use Rattle.published.specs.Reader.{step, step_out}
use Rattle.published.proofs.piece.Goals as goal

pub loop-at-preserved : goal.loop-at-preserved
loop-at-preserved c =
    let l = c.loop-at in
    let t = c.take_byte-next in (
      t.auto.out ∙ l.invariant.0,
      c.take_row-at.ensures.same _
          ∙ sym (run_more step step_out _ _ _ _ c.args.text.now l.at.next _ refl (omega arith) t.ensures.0 t.ensures.1)
          ∙ l.invariant.1,
    )

pub returns : goal.returns
returns c =
    let l = c.loop-at in
    let e = sym (run_end step step_out l.at.state l.out _ l.at.next (omega arith)) ∙ l.invariant.1 in
    (ap (λ (x : Run Published). x.reader) e, ap (λ (x : Run Published). x.out) e)
