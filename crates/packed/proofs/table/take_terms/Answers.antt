-- `take_terms` meets its contract. Assumes nothing.
use mathlib.Core.Path.{sym}
use native.Mathlib.Omega.{arith}
use Rattle.limits.specs.Limits.{added, summed}
use Rattle.packed_numbers.proofs.Reading.{pass_on, show_got, was_bad}
use Rattle.packed.proofs.ReadCases.{term_after}
use Rattle.packed.proofs.Walking.{taken_none, taken_more, taken_stop, taken_last, filled_last, filled_stop, stepped}
use Rattle.packed.proofs.table.take_terms.Goals as goal

pub loop-k-init : goal.loop-k-init
loop-k-init c = taken_none _ _ _ _ _ _ _ c.requires.from_there

pub take_term-requires : goal.take_term-requires
take_term-requires c =
    let p = c.requires in
    (p.small, omega (arith, c.loop-k-test.true, p.few))

pub returns-in_err-read : goal.returns-in_err-read
returns-in_err-read c =
    let a = c.args in
    let l = c.loop-k in
    let t = c.in_err-read.ensures in
    let h = c.loop-k-test.true in (
      pass_on (added a.f l.read.value) (summed a.f a.tally) _ c.from_residual.ensures.1 t.0 (taken_stop _ _ _ _ _ _ _ _ _ _ _ l.invariant _ h),
      filled_stop _ _ _ _ _ _ _ _ _ _ _ l.invariant _ _ h (was_bad (added a.f l.read.value) _ _ (sym t.0)),
    )

pub loop-k-preserved : goal.loop-k-preserved
loop-k-preserved c =
    let a = c.args in
    let l = c.loop-k in
    let t = c.in_ok-read.ensures in
    let w = stepped (added a.f l.read.value) _ _ (term_after a.bytes.now a.f l.read.value l.read.next) t.0 in
    taken_more _ _ _ _ _ _ _ _ _ _ _ l.invariant _ _ c.loop-k-test.true w t.1

pub returns : goal.returns
returns c =
    let a = c.args in
    let l = c.loop-k in
    let h = c.loop-k-test.false in
    (show_got (summed a.f a.tally) (taken_last _ _ _ _ _ _ _ _ _ _ _ l.invariant h) l.invariant.with, filled_last _ _ _ _ _ _ _ _ _ _ _ l.invariant h)
