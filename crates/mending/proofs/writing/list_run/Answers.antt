-- `mending::writing::list_run` meets its contract: what is listed and what is left are all. Assumes nothing.
use mathlib.Core.List.{[], ◌∷◌}
use Prim.Native.Nat.{◌+◌, ◌-◌}
use Rattle.mending.specs.Rule.{drop_kind, numbers}
use Rattle.mending.specs.Machine.Runs.{drops}
use Rattle.mending.proofs.WritingPass.{rest_start, rest_is, rest_more, rest_room, rest_over, drops_next, drops_none}
use Rattle.mending.proofs.writing.list_run.Goals as goal

pub loop-i-init : goal.loop-i-init
loop-i-init c = rest_start

pub put_change-next-requires : goal.put_change-next-requires
put_change-next-requires c =
    let l = c.loop-i in
    rest_room (l.i ∷ drop_kind ∷ []) (numbers (drops (l.i + 1) (c.args.end - (l.i + 1))))
    (rest_is (drops_next l.i c.args.end c.loop-i-test.true) l.invariant)
    c.requires.1

pub loop-i-preserved : goal.loop-i-preserved
loop-i-preserved c =
    let l = c.loop-i in
    rest_more {ys = l.i ∷ drop_kind ∷ []} (rest_is (drops_next l.i c.args.end c.loop-i-test.true) l.invariant) c.put_change-next.ensures

pub shape_of-list : goal.shape_of-list
shape_of-list c = c.loop-i.invariant.same

pub returns : goal.returns
returns c =
    let l = c.loop-i in
    rest_over (rest_is (drops_none l.i c.args.end c.loop-i-test.false) l.invariant)
