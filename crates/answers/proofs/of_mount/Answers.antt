-- `answers::of_mount` meets its contract. Assumes nothing.
use mathlib.Core.Path.{sym, ap, ◌∙◌}
use Rattle.answers.specs.Answers.{mount_shown}
use Rattle.answers.proofs.of_mount.Goals as goal

pub returns-in-Ok : goal.returns-in-Ok
unfolding mount_shown
returns-in-Ok c = c.of_numbered_mount.ensures ∙ ap mount_shown (sym c.in-Ok.is)

pub returns-in-Err : goal.returns-in-Err
unfolding mount_shown
returns-in-Err c = c.of_numbered_mount-in-Err.ensures ∙ rw c.number.ensures (ap mount_shown (sym c.in-Err.is))
