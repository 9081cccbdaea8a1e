-- `place::bodies::again` meets its contract. Assumes nothing.
use Rattle.place.proofs.Sightings.{again_usable, again_unusable}
use Rattle.place.proofs.bodies.again.Goals as goal

pub returns-in_default : goal.returns-in_default
returns-in_default c = again_unusable _ _ c.in_default.is

pub returns : goal.returns
returns c = again_usable _ _ _ c.in-Some.is
