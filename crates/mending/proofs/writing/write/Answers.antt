-- `mending::writing::write` meets its contract: what is written and what is left are all. Assumes nothing.
use mathlib.Core.Path.{◌∙◌}
use native.Mathlib.Omega.{arith}
use Rattle.mending.proofs.WritingPass.{came_none, came_ready, came_further, end_room, end_list_room, end_out, end_list}
use Rattle.mending.proofs.Runs.{next_above}
use Rattle.mending.proofs.writing.write.Goals as goal

pub loop-i-init : goal.loop-i-init
loop-i-init c = came_none _ _ _

pub after-w-requires : goal.after-w-requires
after-w-requires c = (came_ready c.loop-i.invariant c.requires.0 c.requires.1, c.loop-i-test.true)

pub next_byte-i-requires : goal.next_byte-i-requires
next_byte-i-requires c = omega arith

pub loop-i-smaller : goal.loop-i-smaller
loop-i-smaller c =
    let e = c.next_byte-i.ensures in
    omega (arith, e, next_above c.after-w.result.from c.loop-i.i)

pub loop-i-preserved : goal.loop-i-preserved
loop-i-preserved c = rw c.next_byte-i.ensures (came_further c.loop-i.invariant c.after-w.ensures)

pub put_run-requires : goal.put_run-requires
put_run-requires c =
    let came = c.loop-i.invariant in (
      came.run.onward,
      came.run.within,
      end_room came c.loop-i-test.false c.requires.0,
      end_list_room came c.loop-i-test.false c.requires.1,
    )

pub shape_of-out : goal.shape_of-out
shape_of-out c = c.put_run.auto.out ∙ c.loop-i.invariant.bytes.same

pub shape_of-list : goal.shape_of-list
shape_of-list c = c.put_run.auto.list ∙ c.loop-i.invariant.changes.same

pub returns : goal.returns
returns c = let came = c.loop-i.invariant in (end_out came c.loop-i-test.false c.put_run.ensures.0, end_list came c.loop-i-test.false c.put_run.ensures.1)
