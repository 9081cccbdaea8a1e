-- `quick_a` meets its contract. Assumes nothing.
use mathlib.Core.Path.{refl}
use native.Mathlib.Omega.{arith}
use Rattle.packed_numbers.specs.Machine.Usual.{tops}
use Rattle.packed_numbers.proofs.Usual.{first_only, first_begun}
use Rattle.packed_numbers.proofs.quick.quick_a.Goals as goal

pub returns-then-x-lt-GROUP : goal.returns-then-x-lt-GROUP
returns-then-x-lt-GROUP c =
    let a = c.args in
    let x = c.byte_at-x in
    first_only a.s.now a.at x.result x.ensures.0 (omega arith) c.if-x-lt-GROUP.true

pub end_soon-requires : goal.end_soon-requires
unfolding tops
end_soon-requires c =
    let a = c.args in
    let x = c.byte_at-x in
    (first_begun a.s.now a.at x.result x.ensures.0 (omega arith) c.if-x-lt-GROUP.false x.ensures.1, refl, refl, omega arith, c.requires)
