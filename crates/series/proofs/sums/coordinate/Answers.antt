-- `series::sums::coordinate` meets its contract. Assumes nothing.
use mathlib.Core.Path.{sym, subst}
use Prim.Native.Nat.{ℕ, ◌+◌, ◌-◌, ◌*◌, ◌≤◌}
use native.Mathlib.Omega.{arith}
use lib.IntN.{ℤ}
use lib.ListN.{length}
use Rattle.arith.proofs.Signs.{back, ok}
use Rattle.units.specs.Units.{powers}
use Rattle.packed.specs.declared.table.Table.{Table as Terms}
use Rattle.packed.specs.Machine.Table.{table_blocks}
use Rattle.series.specs.Machine.Table.{Table}
use Rattle.series.proofs.Blocks.{Running, running_start, running_next, running_whole, running_within}
use Rattle.series.proofs.Reach.{in_reach}
use Rattle.series.proofs.sums.coordinate.Goals as goal

-- the blocks of the table, of which there are enough
enough_blocks : {rows : Terms} {first : ℕ} → Table rows → first ≤ 2 * powers → first + 6 ≤ length (table_blocks rows)
enough_blocks h l = let n = h.allowed.eighteen in omega arith

pub loop-k-init : goal.loop-k-init
loop-k-init c =
    let enough = enough_blocks c.requires.1 c.requires.3 in
    running_start c.args.p.t (table_blocks c.args.table.now) c.args.first enough

pub overflow_add-first : goal.overflow_add-first
overflow_add-first c = let f = c.loop-k.invariant.few in let l = c.requires.3 in omega arith

pub with_block-v-requires : goal.with_block-v-requires
with_block-v-requires c =
    let enough = enough_blocks c.requires.1 c.requires.3 in
    let f = c.loop-k.invariant.few in
    let l = c.requires.3 in (
      c.requires.0,
      c.requires.1,
      omega arith,
      running_within c.args.p.t (table_blocks c.args.table.now) c.args.first enough
          (in_reach c.args.p.t (table_blocks c.args.table.now) c.requires.1.allowed c.requires.0 c.requires.2)
          _ c.loop-k.k c.loop-k-test.true c.loop-k.invariant,
    )

pub loop-k-preserved : goal.loop-k-preserved
loop-k-preserved c =
    let enough = enough_blocks c.requires.1 c.requires.3 in
    let bs = table_blocks c.args.table.now in
    subst (λ (z : ℤ). Running c.args.p.t bs c.args.first z (c.loop-k.k - 1))
    (sym (back c.with_block-v.result (ok c.with_block-v.type_inv)))
    (running_next c.args.p.t bs c.args.first enough _ c.with_block-v.result
    c.loop-k.k c.loop-k-test.true c.loop-k.invariant c.with_block-v.ensures)

pub returns : goal.returns
returns c =
    let enough = enough_blocks c.requires.1 c.requires.3 in
    running_whole c.args.p.t (table_blocks c.args.table.now) c.args.first enough
    _ c.loop-k.k c.loop-k.invariant c.loop-k-test.false
