-- `pairs::values` meets its contract. Assumes nothing.
use mathlib.Core.Path.{sym, ap₂, ◌∙◌, subst}
use lib.IntN.{◌+ℤ◌}
use mir.Syntax.{w64}
use mir.Val.{SFits}
use Rattle.arith.proofs.Signs.{back, ok}
use Rattle.pairs.proofs.Lanes.{two_fit, value_back, value_of}
use Rattle.pairs.proofs.values.Goals as goal

pub overflow_add-result : goal.overflow_add-result
overflow_add-result g c =
    let x = c.times_cosine in
    let y = c.times_cosine-2 in
    let v = c.lifted_pair-c in
    let given = ap₂ ◌+ℤ◌ (value_back x.result c.args.a1 v.result.one (ok x.type_inv) c.ranges.a1 x.ensures)
    (value_back y.result c.args.a2 v.result.two (ok y.type_inv) c.ranges.a2 y.ensures) in
    subst (λ z. SFits w64 z) (sym given)
    (two_fit c.args.a1 c.args.a2 v.result.one v.result.two c.requires.0 c.requires.1 v.ensures.2 v.ensures.3)

pub returns : goal.returns
returns g c =
    let x = c.times_cosine in
    let y = c.times_cosine-2 in
    let v = c.lifted_pair-c in
    let p = g.P.Parity in
    let law = g.met.P.Parity.value_is in
    back _ (overflow_add-result g c)
    ∙ ap₂ ◌+ℤ◌
    (value_back x.result c.args.a1 v.result.one (ok x.type_inv) c.ranges.a1 x.ensures
    ∙ value_of p.part p.value law c.args.a1 v.result.one c.args.v.one v.ensures.0)
    (value_back y.result c.args.a2 v.result.two (ok y.type_inv) c.ranges.a2 y.ensures
    ∙ value_of p.part p.value law c.args.a2 v.result.two c.args.v.two v.ensures.1)
