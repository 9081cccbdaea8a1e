-- `answers::clipped_figure` meets its contract. Assumes nothing.
use mathlib.Core.Path.{sym, ap, ◌∙◌}
use mir.Syntax.{w64}
use mir.Val.{SFits}
use borrow.Author.Rules.{rules}
use Rattle.arith.proofs.Signs.{back, ok}
use Rattle.units.specs.Refusals.{whole}
use Rattle.answers.specs.Answers.{clipped}
use Rattle.answers.proofs.Held.{clip_held}
use Rattle.answers.proofs.clipped_figure.Goals as goal

pub returns-in-Count : goal.returns-in-Count
unfolding clipped
returns-in-Count c =
    let k = c.clip in
    let e = ap whole (sym c.in-Count.is) ∙ c.figure-f.ensures in
    back k.result (ok k.type_inv) ∙ k.ensures ∙ ap clipped e

pub returns-in-Time : goal.returns-in-Time
returns-in-Time c =
    let z = c.in-Time.t.ms in
    let h : SFits w64 z = search rules in
    let e = ap whole (sym c.in-Time.is) ∙ c.figure-f.ensures in
    back z h ∙ clip_held z h ∙ ap clipped e
