-- `direction::direction_of` meets its contract. Assumes nothing.
use mathlib.Core.Path.{ap}
use lib.IntN.{pos}
use Rattle.arith.proofs.Signs.{back, ok}
use Rattle.direction.proofs.Turns.{by_none, by_one, by_two, by_three, by_origin, not_below, not_above, nought, answer}
use Rattle.direction.proofs.direction_of.Goals as goal
use Rattle.direction.proofs.direction_of.Goals.{else-x-gt0-via-then-x-gt0+else-y-ge0, else-x-gt0-via-else-x-gt0}

pub returns-then-y-ge0 : goal.returns-then-y-ge0
returns-then-y-ge0 c =
    let x = back c.args.x c.ranges.x in
    let y = back c.args.y c.ranges.y in
    answer 0 _ _ c.args.x c.args.y c.args.x c.args.y c.after.result (ok c.after.type_inv) c.after.ensures
    (rw x at c.unsigned_abs-a.ensures.value) (rw y at c.unsigned_abs-b.ensures.value)
    (by_none c.args.x c.args.y (rw x at c.if-x-gt0.true) (rw y at c.if-y-ge0.true))

pub returns-then-y-gt0 : goal.returns-then-y-gt0
returns-then-y-gt0 c =
    let x = back c.args.x c.ranges.x in
    let y = back c.args.y c.ranges.y in
    let up = rw y at c.if-y-gt0.true in
    answer 1 _ _ c.args.y c.args.x c.args.x c.args.y c.after-then-y-gt0.result (ok c.after-then-y-gt0.type_inv)
    c.after-then-y-gt0.ensures (rw y at c.unsigned_abs-b.ensures.value) (rw x at c.unsigned_abs-a.ensures.value)
    (elim c.else-x-gt0.branch [
      | else-x-gt0-via-then-x-gt0+else-y-ge0 w ↦ not_above c.args.y (rw y at w.if-y-ge0.false) up
      | else-x-gt0-via-else-x-gt0 w ↦ by_one c.args.x c.args.y (rw x at w.if-x-gt0.false) up
    ])

pub returns-then-x-lt0 : goal.returns-then-x-lt0
returns-then-x-lt0 c =
    let x = back c.args.x c.ranges.x in
    let y = back c.args.y c.ranges.y in
    answer 2 _ _ c.args.x c.args.y c.args.x c.args.y c.after-then-x-lt0.result (ok c.after-then-x-lt0.type_inv)
    c.after-then-x-lt0.ensures (rw x at c.unsigned_abs-a.ensures.value) (rw y at c.unsigned_abs-b.ensures.value)
    (by_two c.args.x c.args.y (rw x at c.if-x-lt0.true) (rw y at c.if-y-gt0.false))

pub returns-then-y-lt0 : goal.returns-then-y-lt0
returns-then-y-lt0 c =
    let x = back c.args.x c.ranges.x in
    let y = back c.args.y c.ranges.y in
    answer 3 _ _ c.args.y c.args.x c.args.x c.args.y c.after-then-y-lt0.result (ok c.after-then-y-lt0.type_inv)
    c.after-then-y-lt0.ensures (rw y at c.unsigned_abs-b.ensures.value) (rw x at c.unsigned_abs-a.ensures.value)
    (by_three c.args.x c.args.y (rw x at c.if-x-lt0.false) (rw y at c.if-y-lt0.true))

pub returns-else-y-lt0 : goal.returns-else-y-lt0
returns-else-y-lt0 c =
    let x = back c.args.x c.ranges.x in
    let y = back c.args.y c.ranges.y in
    let down = rw y at c.if-y-lt0.false in
    ap pos
    (elim c.else-x-gt0.branch [
      | else-x-gt0-via-then-x-gt0+else-y-ge0 w ↦ not_below c.args.y (rw y at w.if-y-ge0.false) down
      | else-x-gt0-via-else-x-gt0 w ↦
          by_origin c.args.x c.args.y (nought c.args.x (rw x at w.if-x-gt0.false) (rw x at c.if-x-lt0.false))
          (nought c.args.y (rw y at c.if-y-gt0.false) down)
    ])
