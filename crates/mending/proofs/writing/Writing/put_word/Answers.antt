-- `mending::writing::Writing::put_word` meets its contract. Assumes nothing.
use native.Mathlib.Omega.{arith}
use Rattle.mending.proofs.WritingPass.{run_room, run_list_room, byte_room, word_room, came_word}
use Rattle.mending.proofs.writing.Writing.put_word.Goals as goal

pub put_run-at-requires : goal.put_run-at-requires
put_run-at-requires c =
    let t = c.requires.1 in (
      c.requires.0.run.onward,
      c.requires.0.run.within,
      run_room _ _ _ _ _ c.requires.0 t.inside t.no_blank t.no_feed,
      run_list_room _ _ _ _ _ c.requires.0 t.inside t.no_blank t.no_feed,
    )

pub bounds-out-at : goal.bounds-out-at
bounds-out-at c =
    let t = c.requires.1 in
    let p = c.put_run-at in
    byte_room _ _ _ _ _ c.requires.0 t.inside t.no_blank t.no_feed _ _ _ _ p.ensures.0 p.ensures.1

pub overflow_add-at : goal.overflow_add-at
overflow_add-at c =
    let t = c.requires.1 in
    let p = c.put_run-at in
    let h = byte_room _ _ _ _ _ c.requires.0 t.inside t.no_blank t.no_feed _ _ _ _ p.ensures.0 p.ensures.1 in
    omega (arith, h)

pub put_plain-from-requires : goal.put_plain-from-requires
put_plain-from-requires c =
    let t = c.requires.1 in
    let p = c.put_run-at in
    (omega (arith, t.inside), word_room _ _ _ _ _ c.requires.0 t.inside t.no_blank t.no_feed _ _ _ _ p.ensures.0 p.ensures.1)

pub overflow_add-result : goal.overflow_add-result
overflow_add-result c =
    let t = c.requires.1 in
    let p = c.put_run-at in
    let q = c.put_plain-from.ensures in
    let came = came_word _ _ _ _ _ c.requires.0 t.inside t.no_blank t.no_feed _ _ _ _ p.ensures.0 p.ensures.1 _ _ q in
    omega (arith, came.bytes.count, c.requires.0.room)

pub shape_of-out : goal.shape_of-out
shape_of-out c =
    let t = c.requires.1 in
    let p = c.put_run-at in
    let q = c.put_plain-from.ensures in
    let came = came_word _ _ _ _ _ c.requires.0 t.inside t.no_blank t.no_feed _ _ _ _ p.ensures.0 p.ensures.1 _ _ q in
    came.bytes.same

pub returns : goal.returns
returns c =
    let t = c.requires.1 in
    let p = c.put_run-at in
    let q = c.put_plain-from.ensures in
    let came = came_word _ _ _ _ _ c.requires.0 t.inside t.no_blank t.no_feed _ _ _ _ p.ensures.0 p.ensures.1 _ _ q in
    (came, omega (arith, q.plain.onward))
