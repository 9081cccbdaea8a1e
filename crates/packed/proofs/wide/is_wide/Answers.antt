-- `wide::is_wide` meets its contract. Assumes nothing.
use mathlib.Core.Path.{refl, ◌∙◌}
use Rattle.packed.proofs.Widening.{judging_none, judging_grows, judging_more, judging_done}
use Rattle.packed.proofs.wide.is_wide.Goals as goal

pub loop-k-init : goal.loop-k-init
loop-k-init c = rw (c.empty-before.ensures, c.empty_wide-wide.ensures) (judging_none _ c.requires)

pub widen-wide-requires : goal.widen-wide-requires
widen-wide-requires c = let l = c.loop-k in judging_grows _ _ _ _ l.invariant c.loop-k-test.true _ refl

pub loop-k-preserved : goal.loop-k-preserved
loop-k-preserved c = let l = c.loop-k in judging_more _ _ _ _ l.invariant c.loop-k-test.true _ refl _ c.widen-wide.ensures

pub returns : goal.returns
returns c = c.is_some.ensures ∙ judging_done _ _ _ _ c.loop-k.invariant c.loop-k-test.false
