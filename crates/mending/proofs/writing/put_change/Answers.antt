-- `mending::writing::put_change` meets its contract. Assumes nothing.
use native.Mathlib.Omega.{arith}
use lib.ListN.{length-set}
use Rattle.mending.specs.Machine.Kinds.{kind_number}
use Rattle.mending.proofs.WritingPass.{wrote_two}
use Rattle.mending.proofs.writing.put_change.Goals as goal

pub bounds-list-slot-2 : goal.bounds-list-slot-2
bounds-list-slot-2 c = omega (arith, length-set c.args.list.now c.args.slot c.args.offset, c.requires)

pub returns : goal.returns
returns c = rw c.number.ensures (wrote_two c.args.offset (kind_number c.args.kind) c.args.slot c.args.list.now)
