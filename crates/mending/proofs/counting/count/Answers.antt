-- `mending::counting::count` meets its contract: what is counted and what is left are all. Assumes nothing.
use native.Mathlib.Omega.{arith}
use Rattle.mending.proofs.CountingPass.{counted_none, counted_all}
use Rattle.mending.proofs.Runs.{next_above}
use Rattle.mending.proofs.counting.count.Goals as goal

pub loop-i-init : goal.loop-i-init
loop-i-init c = rw c.no_run-c.ensures (counted_none _)

pub after-c-requires : goal.after-c-requires
after-c-requires c = (c.loop-i.invariant, c.loop-i-test.true)

pub next_byte-i-requires : goal.next_byte-i-requires
next_byte-i-requires c = omega arith

pub loop-i-smaller : goal.loop-i-smaller
loop-i-smaller c =
    let e = c.next_byte-i.ensures in
    omega (arith, e, next_above c.after-c.result.from c.loop-i.i)

pub loop-i-preserved : goal.loop-i-preserved
loop-i-preserved c = rw c.next_byte-i.ensures c.after-c.ensures

pub overflow_sub-result : goal.overflow_sub-result
overflow_sub-result c = omega (arith, c.loop-i.invariant.run.onward)

pub overflow_add-result : goal.overflow_add-result
overflow_add-result c = let l = c.loop-i in omega (arith, l.invariant.few_bytes, l.invariant.run.within)

pub overflow_add-result-2 : goal.overflow_add-result-2
overflow_add-result-2 c = let l = c.loop-i in omega (arith, l.invariant.few_changes, l.invariant.few_tabs, l.invariant.run.within)

pub returns : goal.returns
returns c = counted_all _ _ _ c.loop-i.invariant c.loop-i-test.false
