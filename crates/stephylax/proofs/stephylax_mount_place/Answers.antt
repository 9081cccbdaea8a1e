-- `stephylax::stephylax_mount_place` meets its contract. Assumes nothing.
use mathlib.Core.Path.{ap, ◌∙◌}
use Rattle.arith.proofs.Signs.{back}
use Rattle.answers.specs.Answers.{mount_shown}
use Rattle.stephylax.proofs.stephylax_mount_place.Goals as goal

pub returns : goal.returns
returns c =
    let a = rw (back c.args.t c.ranges.t) at c.mount_place.ensures in
    c.of_mount.ensures ∙ ap mount_shown a
