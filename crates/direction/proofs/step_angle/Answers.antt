-- `direction::step_angle` meets its contract. Assumes nothing.
use Rattle.direction.proofs.Steps.{step_is}
use Rattle.direction.proofs.step_angle.Goals as goal

pub returns : goal.returns
returns c = step_is c.args.k
