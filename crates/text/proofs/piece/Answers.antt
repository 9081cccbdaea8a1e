-- `text::piece` meets its contract. Assumes nothing.
use mathlib.Core.Path.{ap, ◌∙◌}
use Rattle.text.specs.Reader.{Run}
use Rattle.text.proofs.Branches.{pass_writes}
use Rattle.text.proofs.piece.Goals as goal

pub returns : goal.returns
returns c =
    let a = c.args in
    let w = pass_writes a.text.now a.r a.out.now in
    (c.pass.ensures.0 ∙ ap (λ (x : Run). x.reader) w, c.pass.ensures.1 ∙ ap (λ (x : Run). x.out) w)
