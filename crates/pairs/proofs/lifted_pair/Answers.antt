-- `pairs::lifted_pair` meets its contract. Assumes nothing.
use Rattle.cosine.proofs.NaturalSteps.{series_at}
use Rattle.pairs.proofs.lifted_pair.Goals as goal

pub lift-requires : goal.lift-requires
lift-requires g c =
    (c.requires.0, series_at c.args.v.one c.square.result c.horner.result _ c.square.ensures.0 c.horner.ensures.0, c.horner.ensures.1)

pub lift-requires-2 : goal.lift-requires-2
lift-requires-2 g c =
    (c.requires.1, series_at c.args.v.two c.square-2.result c.horner-2.result _ c.square-2.ensures.0 c.horner-2.ensures.0, c.horner-2.ensures.1)
