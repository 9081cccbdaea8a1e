-- `cosine::working::quarters` meets its contract. Assumes nothing.
use Rattle.cosine.proofs.NaturalSteps.{quarters_is}
use Rattle.cosine.proofs.working.quarters.Goals as goal

pub returns : goal.returns
returns c = quarters_is _
