-- `read_a` meets its contract. Assumes nothing.
use mathlib.Core.Path.{◌≡◌, sym, ◌∙◌}
use mathlib.Core.Bool.{true}
use native.Mathlib.Omega.{arith}
use Rattle.packed_numbers.specs.Numbers.{folded, unfolded}
use Rattle.packed_numbers.specs.Machine.Answers.{plain}
use Rattle.packed_numbers.proofs.Folding.{folded_unfolded}
use Rattle.packed_numbers.proofs.Reading.{number_found, pass_on, show_bad, show_got}
use Rattle.limits.specs.Limits.{a_fits}
use Rattle.limits.proofs.Magnitudes.{a_size, total_size}
use Rattle.packed.proofs.ReadCases.{a_bad, a_over, a_total, a_got}
use Rattle.packed.proofs.terms.read_a.Goals as goal

pub returns-in_err-n : goal.returns-in_err-n
returns-in_err-n c = pass_on plain folded _ c.from_residual.ensures.1 c.in_err-n.ensures (a_bad _ _ _ _)

pub overflow_sub-result : goal.overflow_sub-result
overflow_sub-result c = omega (arith, (number_found _ _ c.in_ok-n.n c.in_ok-n.ensures).forward)

pub returns-then-not-a_fits : goal.returns-then-not-a_fits
returns-then-not-a_fits c =
    let n = number_found _ _ c.in_ok-n.n c.in_ok-n.ensures in
    show_bad folded (a_over _ _ _ _ _ _ n.is (sym (a_size _ c.magnitude-m.ensures) ∙ (sym c.a_fits.ensures ∙ c.if-not-a_fits.true)))

pub overflow_sub-result-then-not-total_fits : goal.overflow_sub-result-then-not-total_fits
overflow_sub-result-then-not-total_fits c = omega (arith, (number_found _ _ c.in_ok-n.n c.in_ok-n.ensures).forward)

pub returns-then-not-total_fits : goal.returns-then-not-total_fits
returns-then-not-total_fits c =
    let n = number_found _ _ c.in_ok-n.n c.in_ok-n.ensures in
    let m = c.magnitude-m.ensures in
    let fits : a_fits (unfolded c.in_ok-n.n.value) ≡ true = sym (a_size _ m) ∙ (sym c.a_fits.ensures ∙ c.if-not-a_fits.false) in
    show_bad folded (a_total _ _ _ _ _ _ n.is fits (sym (total_size _ _ m) ∙ (sym c.total_fits.ensures ∙ c.if-not-total_fits.true)))

pub returns : goal.returns
returns c =
    let n = number_found _ _ c.in_ok-n.n c.in_ok-n.ensures in
    let m = c.magnitude-m.ensures in
    let fits : a_fits (unfolded c.in_ok-n.n.value) ≡ true = sym (a_size _ m) ∙ (sym c.a_fits.ensures ∙ c.if-not-a_fits.false) in
    show_got folded (a_got _ _ _ _ _ _ n.is fits (sym (total_size _ _ m) ∙ (sym c.total_fits.ensures ∙ c.if-not-total_fits.false)))
    (sym (folded_unfolded c.in_ok-n.n.value))
