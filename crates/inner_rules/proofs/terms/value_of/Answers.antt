-- `inner_rules::terms::value_of` meets its contract. Assumes nothing.
use mathlib.Core.Path.{◌≡◌, ◌∙◌}
use native.Mathlib.Omega.{arith}
use borrow.Author.Rules.{rules}
use Rattle.arith.proofs.Signs.{back, ok}
use Rattle.arith.proofs.Cells.{Cell}
use Rattle.inner_rules.proofs.Values.{even_alone, odd_alone}
use Rattle.inner_rules.proofs.terms.value_of.Goals as goal

pub returns-then-w-eq0 : goal.returns-then-w-eq0
returns-then-w-eq0 c =
    let a : Cell c.args.w.a ≡ c.args.w.a = search rules in
    back c.values.result (ok c.values.type_inv)
    ∙ even_alone c.args.w.odd c.args.w.a c.values.result c.args.w.v (omega arith) (rw a at c.values.ensures)

pub returns : goal.returns
returns c =
    let a : Cell c.args.w.a ≡ c.args.w.a = search rules in
    back c.values-2.result (ok c.values-2.type_inv)
    ∙ odd_alone c.args.w.odd c.args.w.a c.values-2.result c.args.w.v (λ e. omega (arith, e)) (rw a at c.values-2.ensures)
