-- `inner_rules::terms::figures_of` meets its contract. Assumes nothing.
use mathlib.Core.Path.{◌≡◌, ◌∙◌, ap}
use native.Mathlib.Omega.{arith}
use Rattle.integers.specs.Division.{modulo}
use Rattle.arith.proofs.Signs.{back, ok}
use Rattle.cosine.specs.Terms.{term_angle, term_value}
use Rattle.inner_rules.proofs.terms.figures_of.Goals as goal

pub value_of-value-requires : goal.value_of-value-requires
value_of-value-requires c =
    let e = rw (back c.args.a c.ranges.a) at c.reduced_term-w.ensures.1 in
    (omega (arith, e, c.requires.0), c.reduced_term-w.ensures.2, c.reduced_term-w.ensures.3)

pub returns : goal.returns
unfolding modulo
returns c =
    let a = c.args.a in
    let b = c.args.b in
    let k = c.args.c in
    let t : c.at-p.result.t ≡ c.args.t = rw (back c.args.t c.ranges.t) at c.at-p.ensures in (
      (rw (back k c.ranges.c) at c.angle-x.ensures.0) ∙ ap (term_angle b k) t,
      back c.value_of-value.result (ok c.value_of-value.type_inv) ∙ c.value_of-value.ensures
          ∙ (rw (back a c.ranges.a, back k c.ranges.c) at c.reduced_term-w.ensures.0) ∙ ap (term_value a b k) t,
    )
