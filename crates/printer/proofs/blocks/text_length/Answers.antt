-- `text_length` meets its contract. Assumes nothing.
use mathlib.Core.Path.{ap}
use mathlib.Core.List.{List}
use Prim.Native.Nat.{ℕ}
use native.Mathlib.Omega.{arith}
use lib.ListN.{get_or}
use Rattle.printer.proofs.TableText.{ordered_next, totalled_none, totalled_more, totalled_last}
use Rattle.printer.proofs.blocks.text_length.Goals as goal

pub loop-place-init : goal.loop-place-init
loop-place-init c = totalled_none _ c.requires

pub block_length-n-requires : goal.block_length-n-requires
block_length-n-requires c =
    let l = c.loop-place in
    let e = c.ends-place-items.ensures in
    let q = ap (λ (es : List ℕ). get_or es l.place-index 0) e.0 in
    let w = ordered_next c.args.table.now e.1 l.from l.place-index _ c.loop-place-test.true q l.invariant.ordered in
    (w.after, w.within)

pub overflow_add-n : goal.overflow_add-n
overflow_add-n c =
    let l = c.loop-place in
    let e = c.ends-place-items.ensures in
    let q = ap (λ (es : List ℕ). get_or es l.place-index 0) e.0 in
    let w = ordered_next c.args.table.now e.1 l.from l.place-index _ c.loop-place-test.true q l.invariant.ordered in
    omega (arith, w.after, w.within, l.invariant.few, c.loop-place-test.true, c.block_length-n.ensures.1)

pub loop-place-preserved : goal.loop-place-preserved
loop-place-preserved c =
    let l = c.loop-place in
    let e = c.ends-place-items.ensures in
    let q = ap (λ (es : List ℕ). get_or es l.place-index 0) e.0 in
    let p = c.block_length-n.ensures in
    totalled_more _ e.1 _ l.from l.place-index _ _ l.invariant c.loop-place-test.true q p.0 p.1

pub returns : goal.returns
returns c = totalled_last _ c.ends-place-items.ensures.1 _ _ _ c.loop-place.invariant c.loop-place-test.false
