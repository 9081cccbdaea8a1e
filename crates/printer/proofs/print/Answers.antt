-- `print` meets its contract. Assumes nothing.
use mathlib.Core.Path.{◌≡◌, sym, ◌∙◌}
use Rattle.units.specs.declared.Refusal.{Refusal}
use Rattle.std.specs.Prelude.{Err}
use Rattle.packed.specs.Series.{checked, parse}
use Rattle.printer.proofs.Answers.{opened, print_refused}
use Rattle.printer.proofs.print.Goals as goal

pub print_table-requires : goal.print_table-requires
print_table-requires c =
    let no_refusal : (q : Refusal) → checked (parse c.args.packed.now) ≡ Err q → ⊥ =
    λ q e. cc (c.unpack.ensures.0, c.in-Ok.is, e) in
    let t = c.unpack.ensures in
    (opened _ _ (no_refusal) t.1).ordered

pub returns-in-Err : goal.returns-in-Err
returns-in-Err c = print_refused _ _ _ (sym c.unpack.ensures.0 ∙ c.in-Err.is)

pub returns-in-Ok : goal.returns-in-Ok
returns-in-Ok c =
    let no_refusal : (q : Refusal) → checked (parse c.args.packed.now) ≡ Err q → ⊥ =
    λ q e. cc (c.unpack.ensures.0, c.in-Ok.is, e) in
    let o = opened _ _ (no_refusal) c.unpack.ensures.1 in
    let p = c.print_table.ensures in
    (rw o.is p.0, rw o.is p.1)
