-- `stephylax::stephylax_apparent_place` meets its contract. Assumes nothing.
use mathlib.Core.Path.{ap, ◌∙◌}
use Rattle.arith.proofs.Signs.{back}
use Rattle.answers.specs.Answers.{place_shown}
use Rattle.stephylax.proofs.stephylax_apparent_place.Goals as goal

pub returns : goal.returns
returns c =
    let a = rw (back c.args.t c.ranges.t) at c.apparent_place.ensures in
    c.of_place.ensures ∙ ap place_shown a
