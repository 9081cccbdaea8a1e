-- `mending::writing::Writing::end_line` meets its contract. Assumes nothing.
use native.Mathlib.Omega.{arith}
use Rattle.mending.proofs.WritingPass.{drops_room, feed_room, came_feed, change_room, came_blank_line}
use Rattle.mending.proofs.writing.Writing.end_line.Goals as goal
use Rattle.mending.proofs.writing.Writing.end_line.Goals.{then-self, else-self}

pub list_run-slot-requires : goal.list_run-slot-requires
list_run-slot-requires c = (c.requires.0.run.onward, drops_room _ _ _ _ _ c.requires.0 c.requires.1.inside c.requires.1.is_feed)

pub bounds-out-at : goal.bounds-out-at
bounds-out-at c = feed_room _ _ _ _ _ c.requires.0 c.requires.1.inside c.requires.1.is_feed c.if-self.true

pub put_change-slot-requires : goal.put_change-slot-requires
put_change-slot-requires c = change_room _ _ _ _ _ c.requires.0 c.requires.1.inside c.requires.1.is_feed _ _ c.list_run-slot.ensures c.if-self.false

pub returns : goal.returns
returns c =
    let f = c.requires.1 in
    let d = c.list_run-slot.ensures in
    elim c.if-self.branch [
      | then-self w ↦ rw (w.place-is, w.out-is, w.list-is)
          (came_feed _ _ _ _ _ c.requires.0 f.inside f.is_feed _ _ d w.if-self.true, omega arith)
      | else-self w ↦ rw (w.place-is, w.out-is, w.list-is)
          (came_blank_line _ _ _ _ _ c.requires.0 f.inside f.is_feed _ _ d w.if-self.false _ _ w.put_change-slot.ensures, omega arith)
    ]
