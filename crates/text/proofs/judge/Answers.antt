-- `text::judge` meets its contract. Assumes nothing.
use mathlib.Core.Path.{ap, ◌∙◌}
use Rattle.series_lines.specs.declared.Reader.{Reader}
use Rattle.series_lines.specs.Reader.{told, last_offset}
use Rattle.text.specs.Reader.{Run, ended}
use Rattle.text.specs.Judge.{judge, judgement}
use Rattle.text.proofs.Branches.{pass_judges}
use Rattle.text.proofs.judge.Goals as goal

pub returns : goal.returns
unfolding judgement
returns c =
    let t = c.args.text.now in
    c.answer.ensures
    ∙ ap told c.close.ensures
    ∙ ap (λ (r : Reader). told (ended r))
    (c.pass.ensures.0 ∙ ap (λ (x : Run). x.reader) (pass_judges t _ _) ∙ ap (λ (r : Reader). judge last_offset r t) c.start.ensures)
