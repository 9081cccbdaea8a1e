-- `take_term` meets its contract. Assumes nothing.
use mathlib.Core.Path.{sym, ◌∙◌}
use Rattle.packed_numbers.proofs.Reading.{pass_on, show_got, was_bad}
use Rattle.limits.specs.Limits.{added}
use Rattle.limits.proofs.Passing.{all_pass}
use Rattle.packed.specs.Machine.Answers.{packed_term, term_of}
use Rattle.packed.proofs.ReadCases.{term_after}
use Rattle.packed.proofs.Accepting.{term_accepted, was_found, packed_may_come, packed_added}
use Rattle.packed.proofs.Walking.{store_term, store_none}
use Rattle.packed.proofs.table.take_term.Goals as goal

pub returns-in_err-t : goal.returns-in_err-t
returns-in_err-t c =
    let e = c.in_err-t.ensures in (
      pass_on packed_term (added c.args.f c.args.tally) _ c.from_residual.ensures.1 e (λ h. h),
      store_none _ _ _ _ (was_bad packed_term _ _ (sym e)),
    )

pub add_term-requires : goal.add_term-requires
add_term-requires c =
    let a = c.args in
    let found = was_found c.in_ok-t.t (term_after a.bytes.now a.f a.tally a.at) (sym c.in_ok-t.ensures) in
    let p = all_pass _ _ (term_of _ _ _) (term_accepted _ _ _ _ found.is).passes in
    (c.requires.0, packed_may_come _ _ _ _ c.sizes.ensures ∙ p)

pub returns : goal.returns
returns c =
    let a = c.args in
    let found = was_found c.in_ok-t.t (term_after a.bytes.now a.f a.tally a.at) (sym c.in_ok-t.ensures) in (
      show_got (added a.f a.tally) found.is (c.add_term.ensures ∙ packed_added _ _ _ _ c.sizes.ensures),
      store_term _ _ _ _ _ _ found.is,
    )
