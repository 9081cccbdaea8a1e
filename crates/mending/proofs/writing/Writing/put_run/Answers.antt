-- `mending::writing::Writing::put_run` meets its contract: what is written and what is left are all. Assumes nothing.
use mathlib.Core.Path.{◌≡◌}
use Prim.Native.Nat.{◌+◌}
use native.Mathlib.Omega.{arith}
use lib.ListN.{get_or}
use Rattle.mending.specs.Rule.{left, listed, numbers}
use Rattle.mending.specs.Machine.Runs.{spared, run_bytes, run_numbers}
use Rattle.mending.proofs.WritingPass.{rest_start, rest_is, rest_more, rest_room, rest_over}
use Rattle.mending.proofs.WritingPass.{run_bytes_next, run_numbers_next, run_bytes_none, run_numbers_none}
use Rattle.mending.proofs.writing.Writing.put_run.Goals as goal

pub loop-i-init : goal.loop-i-init
loop-i-init c = (rest_start, rest_start)

pub put_blank-place-requires : goal.put_blank-place-requires
put_blank-place-requires c =
    let l = c.loop-i in
    let text = c.args.text.now in
    let byte = get_or text l.i 0 in
    let end = c.args.end in
    let go = c.loop-i-test.true in (
      rest_room (left (spared byte) byte) (run_bytes text (l.i + 1) end) (rest_is (run_bytes_next text l.i end go c.requires.1) l.invariant.0) c.requires.2,
      rest_room (numbers (listed l.i (spared byte))) (run_numbers text (l.i + 1) end)
          (rest_is (run_numbers_next text l.i end go c.requires.1) l.invariant.1)
          c.requires.3,
    )

pub loop-i-preserved : goal.loop-i-preserved
loop-i-preserved c =
    let l = c.loop-i in
    let text = c.args.text.now in
    let end = c.args.end in
    let go = c.loop-i-test.true in (
      rest_more (rest_is (run_bytes_next text l.i end go c.requires.1) l.invariant.0) c.put_blank-place.ensures.0,
      rest_more (rest_is (run_numbers_next text l.i end go c.requires.1) l.invariant.1) c.put_blank-place.ensures.1,
    )

pub shape_of-out : goal.shape_of-out
shape_of-out c = c.loop-i.invariant.0.same

pub shape_of-list : goal.shape_of-list
shape_of-list c = c.loop-i.invariant.1.same

pub returns : goal.returns
returns c =
    let l = c.loop-i in
    let a = c.args in
    let e : l.i ≡ a.end = omega arith in (
      rest_over (rest_is (run_bytes_none a.text.now l.i a.end e) l.invariant.0),
      rest_over (rest_is (run_numbers_none a.text.now l.i a.end e) l.invariant.1),
    )
