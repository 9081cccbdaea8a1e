-- `cosine::working::cosine_at` meets its contract. Assumes nothing.
use mathlib.Core.Path.{◌∙◌}
use Rattle.arith.proofs.Signs.{back, ok}
use Rattle.cosine.proofs.NaturalSteps.{cosine_of}
use Rattle.cosine.proofs.working.cosine_at.Goals as goal

pub returns : goal.returns
returns c =
    back c.cosine.result (ok c.cosine.type_inv) ∙ c.cosine.ensures ∙ cosine_of c.args.x c.of.result.k c.of.result.v c.of.ensures.0 c.of.ensures.1
