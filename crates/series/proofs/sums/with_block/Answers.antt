-- `series::sums::with_block` meets its contract. Assumes nothing.
use mathlib.Core.Path.{refl}
use Rattle.series.proofs.Stepping.{inside, sum_asks, sum_is, carried_asks, step_fits, step_is}
use Rattle.series.proofs.sums.with_block.Goals as goal

pub block_start-from-requires : goal.block_start-from-requires
block_start-from-requires c = c.requires.2

pub block_end-to-requires : goal.block_end-to-requires
block_end-to-requires c = c.requires.2

pub sum_terms-sum-requires : goal.sum_terms-sum-requires
sum_terms-sum-requires c =
    let q =
    sum_asks c.args.table.now c.requires.1 c.args.j c.requires.2 c.block_start-from.result c.block_end-to.result
    c.block_start-from.ensures c.block_end-to.ensures in
    (q.0, q.1, q.2)

pub mul_div_round-carried-requires : goal.mul_div_round-carried-requires
mul_div_round-carried-requires c = carried_asks c.args.p.t c.args.v c.requires.0 c.requires.3

pub overflow_add-result : goal.overflow_add-result
overflow_add-result c =
    let answer =
    sum_is c.args.table.now c.requires.1 c.args.j c.requires.2 c.block_start-from.result c.block_end-to.result c.block_start-from.ensures
    c.block_end-to.ensures c.args.p.t c.sum_terms-sum.result c.sum_terms-sum.ensures in
    step_fits c.args.p.t c.args.v c.requires.0 c.requires.3 _ (inside c.args.table.now c.requires.1 c.args.j c.requires.2)
    c.sum_terms-sum.result c.mul_div_round-carried.result answer c.mul_div_round-carried.ensures

pub returns : goal.returns
returns c =
    let answer =
    sum_is c.args.table.now c.requires.1 c.args.j c.requires.2 c.block_start-from.result c.block_end-to.result c.block_start-from.ensures
    c.block_end-to.ensures c.args.p.t c.sum_terms-sum.result c.sum_terms-sum.ensures in
    step_is c.args.p.t c.args.v c.requires.0 c.requires.3 _ (inside c.args.table.now c.requires.1 c.args.j c.requires.2)
    c.sum_terms-sum.result c.mul_div_round-carried.result answer c.mul_div_round-carried.ensures _ refl
