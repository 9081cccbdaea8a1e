-- `put_blocks` meets its contract. Assumes nothing.
use mathlib.Core.Path.{ap}
use mathlib.Core.List.{List}
use Prim.Native.Nat.{ℕ}
use lib.ListN.{get_or}
use Rattle.packed.specs.Machine.Table.{table_blocks}
use Rattle.printer.proofs.PieceByPiece.{left_one, left_more, left_empty, left_over, left_room}
use Rattle.printer.proofs.TableText.{ordered_next, block_left, blocks_over}
use Rattle.printer.proofs.blocks.put_blocks.Goals as goal

pub loop-place-init : goal.loop-place-init
unfolding table_blocks
loop-place-init c = (c.requires.0, left_one _ _ _)

pub put_block-p-requires : goal.put_block-p-requires
put_block-p-requires c =
    let e = c.ends-place-items.ensures in
    let l = c.loop-place in
    let q = ap (λ (es : List ℕ). get_or es l.place-index 0) e.0 in
    let w = ordered_next c.args.table.now e.1 l.from l.place-index _ c.loop-place-test.true q l.invariant.0 in
    let left = block_left c.args.table.now e.1 l.from l.place-index _ l.invariant.1 c.loop-place-test.true q in
    (w.after, w.within, left_room left c.requires.1)

pub loop-place-preserved : goal.loop-place-preserved
loop-place-preserved c =
    let e = c.ends-place-items.ensures in
    let l = c.loop-place in
    let q = ap (λ (es : List ℕ). get_or es l.place-index 0) e.0 in
    let w = ordered_next c.args.table.now e.1 l.from l.place-index _ c.loop-place-test.true q l.invariant.0 in
    let left = block_left c.args.table.now e.1 l.from l.place-index _ l.invariant.1 c.loop-place-test.true q in
    (w.rest, left_more left c.put_block-p.ensures)

pub shape_of-out : goal.shape_of-out
shape_of-out c = c.loop-place.invariant.1.same

pub returns : goal.returns
returns c =
    let l = c.loop-place in
    left_over (left_empty l.invariant.1 (blocks_over c.args.table.now c.ends-place-items.ensures.1 l.from l.place-index c.loop-place-test.false))
