-- `mending::writing::put_plain` meets its contract: what is written and what is left are all. Assumes nothing.
use mathlib.Core.Path.{◌≡◌}
use Prim.Native.Nat.{◌+◌, ◌-◌}
use native.Mathlib.Omega.{arith}
use Rattle.mending.proofs.WritingPass.{plain_room, copied_more}
use Rattle.mending.proofs.writing.put_plain.Goals as goal

pub bounds-out-at : goal.bounds-out-at
bounds-out-at c = plain_room c.loop-j.invariant (omega arith) (omega arith) c.requires.1

pub loop-j-preserved : goal.loop-j-preserved
loop-j-preserved c =
    let l = c.loop-j in
    let a = c.args in
    let e : a.at + (l.j + 1 - a.i) ≡ a.at + (l.j - a.i) + 1 = omega (arith, l.invariant.plain.onward) in
    rw e (copied_more l.invariant (omega arith) (omega arith))
