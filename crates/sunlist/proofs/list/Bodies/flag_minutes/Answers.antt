-- `sunlist::list::Bodies::flag_minutes` meets its contract. Assumes nothing.
use Rattle.std.proofs.Common.{◌∙◌, sym, arith}
use Rattle.sunlist.proofs.Filling.{filling_more, filling_bad, filling_all, listed_then, clear_then, unusable_then}
use Rattle.sunlist.proofs.list.Bodies.flag_minutes.Goals as goal
use Rattle.sunlist.proofs.list.Bodies.flag_minutes.Goals.{in-Listed, in-Clear}

pub returns-in-Unusable : goal.returns-in-Unusable
returns-in-Unusable c =
    filling_bad _ _ _ _ c.loop-j.invariant (omega arith) (unusable_then _ (sym c.decide_at.ensures ∙ c.in-Unusable.is))

pub loop-j-preserved : goal.loop-j-preserved
loop-j-preserved c =
    elim c.match-decide_at.branch [
      | in-Listed w ↦
          let d = listed_then _ _ (sym c.decide_at.ensures ∙ w.in-Listed.is) in
          filling_more _ _ _ _ c.loop-j.invariant _ (omega arith) (omega arith) d.0 (w.flag-is ∙ d.1)
      | in-Clear w ↦
          let d = clear_then _ _ (sym c.decide_at.ensures ∙ w.in-Clear.is) in
          filling_more _ _ _ _ c.loop-j.invariant _ (omega arith) (omega arith) d.0 (w.flag-is ∙ d.1)
    ]

pub returns : goal.returns
returns c = filling_all _ _ _ _ c.loop-j.invariant (omega arith) (omega arith)
