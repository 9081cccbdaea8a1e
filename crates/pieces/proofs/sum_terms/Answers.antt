-- `pieces::sum_terms` meets its contract: what is summed and what is left are the block's sum. Assumes nothing.
use mathlib.Core.Path.{◌≡◌, refl, sym, subst}
use Prim.Native.Nat.{min, ◌≤◌}
use lib.IntN.{ℤ}
use native.Mathlib.Omega.{arith}
use Rattle.pieces.proofs.Adding.{add_fits, add_is}
use Rattle.pieces.proofs.Summing.{Summed, summed_none, summed_at, summed_end, summed_past, summed_all, piece_fits, sum_small, summed_piece}
use Rattle.pieces.proofs.sum_terms.Goals as goal

pub loop-at-init : goal.loop-at-init
loop-at-init c =
    let least : min c.args.from c.args.to ≡ c.args.from = let h = c.requires.0 in omega arith in
    (rw least (summed_none c.requires.0 c.requires.1 c.requires.2), record { evens = refl; odds = refl })

pub sum_piece-sum-requires : goal.sum_piece-sum-requires
sum_piece-sum-requires c =
    let e = c.min-end.ensures in (
      record {
        order = omega arith;
        space = (let r = c.requires.1 in omega arith);
        short = omega arith;
        limits = piece_fits (summed_at c.loop-at-test.true c.loop-at.invariant.0) c.min-end.result (omega arith) (omega arith) (omega arith);
      },
      c.loop-at.invariant.1,
    )

pub overflow_add-sum : goal.overflow_add-sum
overflow_add-sum c =
    let e = c.min-end.ensures in
    add_fits _ c.sum_piece-sum.result
    (sum_small (summed_at c.loop-at-test.true c.loop-at.invariant.0) c.min-end.result (omega arith) (omega arith)
    c.sum_piece-sum.result c.sum_piece-sum.ensures.0)

pub loop-at-preserved : goal.loop-at-preserved
loop-at-preserved c =
    let e = c.min-end.ensures in
    let s = summed_at c.loop-at-test.true c.loop-at.invariant.0 in
    let rises : c.loop-at.at ≤ c.min-end.result = omega arith in
    let ends : c.min-end.result ≤ c.args.to = omega arith in
    let small = sum_small s c.min-end.result rises ends c.sum_piece-sum.result c.sum_piece-sum.ensures.0 in
    let is = add_is _ c.sum_piece-sum.result small _ refl in (
      summed_end _ e
          (subst (λ (z : ℤ). Summed c.args.p.t c.args.table.now c.args.from c.args.to z c.min-end.result) (sym is)
          (summed_piece s c.min-end.result rises ends c.sum_piece-sum.result c.sum_piece-sum.ensures.0)),
      c.sum_piece-sum.ensures.1,
    )

pub returns : goal.returns
returns c = summed_past c.loop-at-test.false c.loop-at.invariant.0

pub returns-2 : goal.returns-2
returns-2 c =
    let e = c.min-end.ensures in
    let s = summed_at c.loop-at-test.true c.loop-at.invariant.0 in
    let rises : c.loop-at.at ≤ c.min-end.result = omega arith in
    let ends : c.min-end.result ≤ c.args.to = omega arith in
    let small = sum_small s c.min-end.result rises ends c.sum_piece-sum.result c.sum_piece-sum.ensures.0 in
    let is = add_is _ c.sum_piece-sum.result small _ refl in
    summed_all
    (subst (λ (z : ℤ). Summed c.args.p.t c.args.table.now c.args.from c.args.to z c.min-end.result) (sym is)
    (summed_piece s c.min-end.result rises ends c.sum_piece-sum.result c.sum_piece-sum.ensures.0)) (omega arith)
