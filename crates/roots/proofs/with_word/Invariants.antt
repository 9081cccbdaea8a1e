-- `roots::with_word` meets its contract. Assumes nothing.
use Prim.Native.Nat.{◌+◌, ◌*◌}
use Rattle.roots.specs.Bits.{read}
use Rattle.roots.specs.Machine.Word.{word}
use Rattle.roots.proofs.Bits.{Reading}
use Rattle.roots.proofs.with_word.Given as goal

abbrev pub invariant-loop : goal.invariant-loop
invariant-loop l = Reading (read l.initial.w * word + l.next) l.w l.left l.counter
