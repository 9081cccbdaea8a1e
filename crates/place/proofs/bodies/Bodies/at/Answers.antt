-- `place::bodies::Bodies::at` meets its contract. Assumes nothing.
use Rattle.limits.proofs.Reach.{each_asked}
use Rattle.place.proofs.Sightings.{both_is}
use borrow.Author.Rules.{rules}
use Rattle.place.proofs.bodies.Bodies.at.Goals as goal

pub coordinates-p-requires : goal.coordinates-p-requires
coordinates-p-requires c = let h = (each_asked _ _ _ c.requires.3).0 in search rules

pub coordinates-e-requires : goal.coordinates-e-requires
coordinates-e-requires c = let h = (each_asked _ _ _ c.requires.3).1 in search rules

pub returns : goal.returns
returns c =
    both_is _ _ _ c.coordinates-p.result c.coordinates-e.result c.sight.result c.coordinates-p.ensures c.coordinates-e.ensures
    c.sight.ensures
