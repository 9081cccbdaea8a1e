-- `unpack` meets its contract. Assumes nothing.
use Rattle.packed.proofs.Unpacking.{Unpacking}
use Rattle.packed.proofs.table.Table.unpack.Given as goal

abbrev pub invariant-loop-k : goal.invariant-loop-k
invariant-loop-k l = Unpacking l.bytes l.self.terms l.self.ends l.tallies l.read.value l.read.next l.k
