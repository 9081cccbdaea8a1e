-- `cosine::working::cosine_sine` meets its contract. Assumes nothing.
use mathlib.Core.Path.{◌∙◌}
use Rattle.arith.proofs.Signs.{back, ok}
use Rattle.cosine.proofs.NaturalSteps.{cosine_of, sine_of}
use Rattle.cosine.proofs.working.cosine_sine.Goals as goal

pub returns : goal.returns
returns c =
    let r = c.of-angle in (
      back c.cosine.result (ok c.cosine.type_inv) ∙ c.cosine.ensures ∙ cosine_of c.args.x r.result.k r.result.v r.ensures.0 r.ensures.1,
      back c.sine.result (ok c.sine.type_inv) ∙ c.sine.ensures ∙ sine_of c.args.x r.result.k r.result.v r.ensures.0 r.ensures.1,
    )
