-- `place::light_time::light` meets its contract. Assumes nothing.
use Rattle.place.proofs.Light.{light_told}
use Rattle.place.proofs.light_time.light.Goals as goal

pub returns : goal.returns
returns c = light_told c.args.distance c.mul_div_round_wide.result c.requires c.mul_div_round_wide.ensures
