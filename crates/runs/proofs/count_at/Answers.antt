-- `runs::count_at` meets its contract. Assumes nothing.
use Rattle.std.proofs.Common.{◌≡◌, ◌∙◌}
use Rattle.runs.specs.Machine.Ends.{listed_before}
use Rattle.runs.proofs.WindowLoops.{before_none, before_is, ends_told}
use Rattle.runs.proofs.count_at.Goals as goal
use Rattle.runs.proofs.count_at.Goals.{then-i-ne0, else-i-ne0}

pub returns : goal.returns
returns c =
    let before : c.if-i-ne0.before ≡ listed_before c.args.window.now c.args.i =
    elim c.if-i-ne0.branch [
      | then-i-ne0 w ↦ w.before-is ∙ w.is_listed-before.ensures ∙ before_is _ _ w.if-i-ne0.true
      | else-i-ne0 w ↦ w.before-is ∙ before_none _ _ w.if-i-ne0.false
    ] in
    (ends_told _ _ _ _ _ _ before c.is_listed-here.ensures c.is_listed-after.ensures c.count_ends.ensures.0, c.count_ends.ensures.1)
