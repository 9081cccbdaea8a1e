-- `cosine::term::ByTick::times_far` meets its contract. Assumes nothing.
use Rattle.cosine.proofs.Residues.{times_on}
use Rattle.cosine.proofs.term.ByTick.times_far.Goals as goal

pub returns : goal.returns
returns c = times_on (times_on (times_on c.times-a.ensures c.times-b.ensures) c.times-c.ensures) c.times.ensures
