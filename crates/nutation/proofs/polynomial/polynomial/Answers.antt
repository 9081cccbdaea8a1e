-- `nutation::polynomial::polynomial` meets its contract. Assumes nothing.
use mathlib.Core.Path.{◌≡◌, ◌∙◌, sym, ap, subst}
use Prim.Native.Nat.{◌+◌, ◌-◌, ◌*◌, ◌^◌, ◌<◌}
use native.Mathlib.Omega.{arith}
use lib.IntN.{nat_abs, ◌+ℤ◌, ◌*ℤ◌}
use lib.ListN.{length}
use mir.Syntax.{w64}
use mir.Val.{to_z}
use Rattle.std.proofs.lemmas.Iterator.Adapters.{YieldsList-from_rev_slice}
use Rattle.std.proofs.lemmas.Iterator.Consumers.{YieldsList-turn, YieldsList-end}
use Rattle.std.proofs.lemmas.List.{length_push}
use Rattle.integers.specs.Division.{rounded}
use Rattle.arith.proofs.Cells.{Cell, cell}
use Rattle.arith.proofs.Signs.{back, ok}
use Rattle.nutation.specs.Nutation.{polynomial}
use Rattle.nutation.specs.Machine.Reduced.{By, centuries}
use Rattle.nutation.proofs.Polynomials.{worked_none, worked_more, worked_all, worked_asks}
use Rattle.nutation.proofs.polynomial.polynomial.Goals as goal

pub loop-a-init : goal.loop-a-init
loop-a-init c = (tt, tt, worked_none _ _ _)

pub next-v-requires : goal.next-v-requires
next-v-requires c =
    let by : By (Cell c.args.n) c.args.d = subst (λ z. By z c.args.d) (sym (back c.args.n c.ranges.n)) c.requires.0 in
    let t = YieldsList-turn (YieldsList-from_rev_slice c.args.c.now cc) c.loop-a.yielded _ c.loop-a.yielded_by _ _ c.in-Some.a c.in-Some.is c.next.ensures.steps in
    let asked : nat_abs c.in-Some.a.now + centuries * nat_abs (to_z w64 c.loop-a.v-bits) < 2 ^ 63 - 1 =
    worked_asks _ _ c.args.c.now _ (length c.loop-a.yielded) c.loop-a.invariant.2 c.in-Some.a.now t by c.requires.1 in
    (by, rw (cell c.in-Some.a.now (omega (arith, asked))) asked)

pub loop-a-preserved : goal.loop-a-preserved
loop-a-preserved c =
    let by : By (Cell c.args.n) c.args.d = subst (λ z. By z c.args.d) (sym (back c.args.n c.ranges.n)) c.requires.0 in
    let t = YieldsList-turn (YieldsList-from_rev_slice c.args.c.now cc) c.loop-a.yielded _ c.loop-a.yielded_by _ _ c.in-Some.a c.in-Some.is c.next.ensures.steps in
    let asked : nat_abs c.in-Some.a.now + centuries * nat_abs (to_z w64 c.loop-a.v-bits) < 2 ^ 63 - 1 =
    worked_asks _ _ c.args.c.now _ (length c.loop-a.yielded) c.loop-a.invariant.2 c.in-Some.a.now t by c.requires.1 in
    let read : Cell c.in-Some.a.now ≡ c.in-Some.a.now = cell c.in-Some.a.now (omega (arith, asked)) in (
      tt,
      tt,
      rw (length_push c.loop-a.yielded c.in-Some.a)
          (worked_more _ _ c.args.c.now _ (length c.loop-a.yielded) c.loop-a.invariant.2 c.in-Some.a.now t _
          (back c.next-v.result (ok c.next-v.type_inv) ∙ c.next-v.ensures
          ∙ ap (λ z. z +ℤ rounded (to_z w64 c.loop-a.v-bits *ℤ Cell c.args.n) c.args.d) read)),
    )

pub returns : goal.returns
returns c =
    let t = YieldsList-end (YieldsList-from_rev_slice c.args.c.now cc) c.loop-a.yielded _ c.loop-a.yielded_by _ _ c.in-None.is c.next.ensures.steps in
    worked_all _ _ c.args.c.now _ _ t.1 c.loop-a.invariant.2 ∙ ap (λ z. polynomial z c.args.d c.args.c.now) (back c.args.n c.ranges.n)
