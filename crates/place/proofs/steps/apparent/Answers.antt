-- `place::steps::apparent` meets its contract. Assumes nothing.
use Rattle.place.proofs.Rebuilt.{apparent_is}
use borrow.Author.Rules.{rules}
use Rattle.place.proofs.steps.apparent.Goals as goal

pub returns : goal.returns
returns c =
    apparent_is c.args.t c.args.v c.apparent_vector-vector.result c.angles_at-a.result.nutation c.angles_at-a.result.obliquity (search rules)
    (search rules) c.angles_at-a.ensures.0 c.angles_at-a.ensures.1 c.requires.0 c.apparent_vector-vector.ensures
