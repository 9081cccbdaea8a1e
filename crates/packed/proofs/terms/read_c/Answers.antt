-- `read_c` meets its contract. Assumes nothing.
use mathlib.Core.Path.{◌≡◌, sym, ◌∙◌}
use mathlib.Core.Bool.{true}
use native.Mathlib.Omega.{arith}
use borrow.Author.Tests.{ltb-true}
use Rattle.packed_numbers.specs.Numbers.{folded, unfolded}
use Rattle.packed_numbers.specs.Machine.Answers.{plain}
use Rattle.packed_numbers.proofs.Folding.{folded_unfolded}
use Rattle.packed_numbers.proofs.Reading.{number_found, pass_on, show_bad, show_got}
use Rattle.limits.specs.Limits.{a_fits, c_fits}
use Rattle.limits.proofs.Magnitudes.{c_size, coarse_size}
use Rattle.packed.proofs.ReadCases.{c_bad, c_over, c_coarse, c_got}
use Rattle.packed.proofs.terms.read_c.Goals as goal

pub returns-in_err-n : goal.returns-in_err-n
returns-in_err-n c = pass_on plain folded _ c.from_residual.ensures.1 c.in_err-n.ensures (c_bad _ _ _ _ _ _ _)

pub overflow_sub-result : goal.overflow_sub-result
overflow_sub-result c = omega (arith, (number_found _ _ c.in_ok-n.n c.in_ok-n.ensures).forward)

pub returns-then-not-c_fits : goal.returns-then-not-c_fits
returns-then-not-c_fits c =
    let n = number_found _ _ c.in_ok-n.n c.in_ok-n.ensures in
    show_bad folded (c_over _ _ _ _ _ _ _ _ _ n.is (sym (c_size _ c.magnitude-m.ensures) ∙ (sym c.c_fits.ensures ∙ c.if-not-c_fits.true)))

pub coarse_fits-requires : goal.coarse_fits-requires
unfolding a_fits
coarse_fits-requires c = (c.requires.0, rw c.magnitude.ensures (ltb-true _ _ c.requires.1))

pub overflow_sub-result-then-not-coarse_fits : goal.overflow_sub-result-then-not-coarse_fits
overflow_sub-result-then-not-coarse_fits c = omega (arith, (number_found _ _ c.in_ok-n.n c.in_ok-n.ensures).forward)

pub returns-then-not-coarse_fits : goal.returns-then-not-coarse_fits
returns-then-not-coarse_fits c =
    let n = number_found _ _ c.in_ok-n.n c.in_ok-n.ensures in
    let m = c.magnitude-m.ensures in
    let fits : c_fits (unfolded c.in_ok-n.n.value) ≡ true = sym (c_size _ m) ∙ (sym c.c_fits.ensures ∙ c.if-not-c_fits.false) in
    show_bad folded
    (c_coarse _ _ _ _ _ _ _ _ _ n.is fits
    (sym (coarse_size _ _ _ _ _ c.magnitude.ensures m) ∙ (sym c.coarse_fits.ensures ∙ c.if-not-coarse_fits.true)))

pub returns : goal.returns
returns c =
    let n = number_found _ _ c.in_ok-n.n c.in_ok-n.ensures in
    let m = c.magnitude-m.ensures in
    let fits : c_fits (unfolded c.in_ok-n.n.value) ≡ true = sym (c_size _ m) ∙ (sym c.c_fits.ensures ∙ c.if-not-c_fits.false) in
    show_got folded
    (c_got _ _ _ _ _ _ _ _ _ n.is fits
    (sym (coarse_size _ _ _ _ _ c.magnitude.ensures m) ∙ (sym c.coarse_fits.ensures ∙ c.if-not-coarse_fits.false)))
    (sym (folded_unfolded c.in_ok-n.n.value))
