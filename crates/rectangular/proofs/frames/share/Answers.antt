-- `rectangular::frames::share` meets its contract. Assumes nothing.
use Rattle.rectangular.proofs.Turn.{share_is}
use Rattle.rectangular.proofs.frames.share.Goals as goal

pub returns : goal.returns
returns c = share_is c.args.m c.args.v c.requires.0 c.requires.1 c.mul_div_round.result c.mul_div_round.ensures
