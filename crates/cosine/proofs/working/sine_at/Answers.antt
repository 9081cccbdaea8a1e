-- `cosine::working::sine_at` meets its contract. Assumes nothing.
use mathlib.Core.Path.{◌∙◌}
use Rattle.arith.proofs.Signs.{back, ok}
use Rattle.cosine.proofs.NaturalSteps.{sine_of}
use Rattle.cosine.proofs.working.sine_at.Goals as goal

pub returns : goal.returns
returns c =
    back c.sine.result (ok c.sine.type_inv) ∙ c.sine.ensures ∙ sine_of c.args.x c.of.result.k c.of.result.v c.of.ensures.0 c.of.ensures.1
