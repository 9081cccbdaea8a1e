-- `answers::of_numbered_mount` meets its contract. Assumes nothing.
use mathlib.Core.Path.{sym, ap}
use lib.Ieee.{of_bits, of_int}
use Rattle.answers.specs.Answers.{mount_numbered}
use Rattle.answers.proofs.of_numbered_mount.Goals as goal

pub returns-in-Ok : goal.returns-in-Ok
unfolding mount_numbered
returns-in-Ok c = ap mount_numbered (sym c.in-Ok.is)

pub returns-in-Err : goal.returns-in-Err
unfolding mount_numbered of_bits of_int
returns-in-Err c = ap mount_numbered (sym c.in-Err.is)
