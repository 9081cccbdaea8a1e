-- `nutation::rows::nutation_at` meets its contract. The sums so far, and the terms of the rows that are left, give the whole. Assumes nothing.
use mathlib.Core.Path.{sym, subst}
use Prim.Native.Nat.{◌≤◌}
use native.Mathlib.Omega.{arith}
use lib.IntN.{nat_abs}
use Rattle.arith.proofs.Cells.{Cell}
use Rattle.arith.proofs.Signs.{back}
use Rattle.units.specs.Units.{t_limit}
use Rattle.nutation.specs.Machine.Reduced.{NutationAt}
use Rattle.nutation.proofs.Sums.{summed_none, longitude_fits, obliquity_fits, summed_more, summed_all}
use Rattle.nutation.proofs.rows.nutation_at.Goals as goal

pub loop-i-init : goal.loop-i-init
loop-i-init c = summed_none _

pub overflow_add-sum : goal.overflow_add-sum
overflow_add-sum c =
    let time : nat_abs (Cell c.args.t) ≤ t_limit = subst (λ z. nat_abs z ≤ t_limit) (sym (back c.args.t c.ranges.t)) c.requires in
    longitude_fits _ c.loop-i.sum c.terms-n.result c.loop-i.i c.row_at-row.result time c.loop-i.invariant c.row_at-row.ensures.1 c.terms-n.ensures.0
    c.terms-n.ensures.1

pub overflow_add-sum-in-loop-i : goal.overflow_add-sum-in-loop-i
overflow_add-sum-in-loop-i c =
    let time : nat_abs (Cell c.args.t) ≤ t_limit = subst (λ z. nat_abs z ≤ t_limit) (sym (back c.args.t c.ranges.t)) c.requires in
    obliquity_fits _ c.loop-i.sum c.terms-n.result c.loop-i.i c.row_at-row.result time c.loop-i.invariant c.row_at-row.ensures.1 c.terms-n.ensures.0
    c.terms-n.ensures.1

pub loop-i-preserved : goal.loop-i-preserved
loop-i-preserved c =
    let time : nat_abs (Cell c.args.t) ≤ t_limit = subst (λ z. nat_abs z ≤ t_limit) (sym (back c.args.t c.ranges.t)) c.requires in
    summed_more _ c.loop-i.sum c.terms-n.result c.loop-i.i c.row_at-row.result time c.loop-i.invariant c.row_at-row.ensures.1 c.terms-n.ensures.0
    c.terms-n.ensures.1 (omega arith) c.row_at-row.ensures.0

pub returns : goal.returns
returns c = subst (λ z. NutationAt z c.loop-i.sum) (back c.args.t c.ranges.t) (summed_all _ _ _ c.loop-i.invariant (omega arith))
