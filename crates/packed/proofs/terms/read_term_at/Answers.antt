-- `read_term_at` meets its contract. Assumes nothing.
use mathlib.Core.Path.{sym, ◌∙◌}
use Rattle.packed_numbers.proofs.Reading.{show_got}
use Rattle.packed.specs.Machine.Answers.{packed_term}
use Rattle.packed.proofs.ReadCases.{term_fit}
use Rattle.packed.proofs.Accepting.{packed_back, packed_may_come}
use Rattle.packed.proofs.terms.read_term_at.Goals as goal

pub returns-then-term_may_come : goal.returns-then-term_may_come
returns-then-term_may_come c =
    let u = c.in-Some.ensures in
    let e = sym (packed_may_come _ _ _ _ c.sizes.ensures) ∙ (sym c.term_may_come.ensures ∙ c.if-term_may_come.true) in
    show_got packed_term (term_fit _ _ _ _ _ _ _ u.read_a _ _ _ u.read_b _ _ _ u.read_c e) (packed_back _)
