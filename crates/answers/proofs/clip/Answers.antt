-- `answers::clip` meets its contract. Assumes nothing.
use mathlib.Core.Path.{◌∙◌}
use Rattle.arith.proofs.Signs.{back, ok}
use Rattle.answers.proofs.Held.{clip_tried}
use Rattle.answers.proofs.clip.Goals as goal

pub returns : goal.returns
returns c =
    let z = c.unwrap_or in
    back z.result (ok z.type_inv) ∙ clip_tried c.args.n c.try_from.result z.result c.try_from.ensures z.ensures
