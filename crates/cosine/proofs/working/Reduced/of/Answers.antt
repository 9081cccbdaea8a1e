-- `cosine::working::Reduced::of` meets its contract. Assumes nothing.
use Rattle.cosine.proofs.NaturalSteps.{quarter_back}
use Rattle.cosine.proofs.working.Reduced.of.Goals as goal

pub returns : goal.returns
returns c = (quarter_back c.args.x c.quarters-q.result c.quarters-q.ensures, c.biased_angle-v.ensures.0)
