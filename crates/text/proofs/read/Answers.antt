-- `text::read` meets its contract. Assumes nothing.
use mathlib.Core.Path.{ap, ◌∙◌}
use Rattle.series_lines.specs.Reader.{told}
use Rattle.text.specs.Reader.{run, ended}
use Rattle.series_lines.specs.declared.Reader.{Reader}
use Rattle.text.proofs.read.Goals as goal

pub returns : goal.returns
returns c =
    let a = c.args in
    let t = a.text.now in
    let o = a.out.now in
    let b = c.start.ensures in
    let p = c.piece-r.ensures in
    let e = c.end.ensures in (
      c.answer.ensures ∙ ap told (e.0 ∙ ap ended (p.0 ∙ ap (λ (r : Reader). (run r o t).reader) b)),
      e.1 ∙ p.1 ∙ ap (λ (r : Reader). (run r o t).out) b,
    )
