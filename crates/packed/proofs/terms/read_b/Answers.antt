-- `read_b` meets its contract. Assumes nothing.
use mathlib.Core.Path.{refl, sym, ◌∙◌}
use native.Mathlib.Omega.{arith}
use Rattle.packed_numbers.specs.Machine.Answers.{plain}
use Rattle.packed_numbers.proofs.Reading.{number_found, pass_on, show_bad, show_got}
use Rattle.packed.proofs.ReadCases.{b_bad, b_over, b_got}
use Rattle.packed.proofs.terms.read_b.Goals as goal

pub returns-in_err-n : goal.returns-in_err-n
returns-in_err-n c = pass_on plain plain _ c.from_residual.ensures.1 c.in_err-n.ensures (b_bad _ _ _)

pub overflow_sub-result : goal.overflow_sub-result
overflow_sub-result c = omega (arith, (number_found _ _ c.in_ok-n.n c.in_ok-n.ensures).forward)

pub returns-then-not-b_fits : goal.returns-then-not-b_fits
returns-then-not-b_fits c =
    show_bad plain (b_over _ _ _ _ _ (number_found _ _ c.in_ok-n.n c.in_ok-n.ensures).is (sym c.b_fits.ensures ∙ c.if-not-b_fits.true))

pub returns : goal.returns
returns c =
    show_got plain (b_got _ _ _ _ _ (number_found _ _ c.in_ok-n.n c.in_ok-n.ensures).is (sym c.b_fits.ensures ∙ c.if-not-b_fits.false)) refl
