-- `arith::round::nearest` meets its contract: which way it goes is the test on the remainder. Assumes nothing.
use mathlib.Core.Path.{◌∙◌, sym, ap}
use native.Mathlib.Omega.{arith}
use Prim.Native.Nat.{◌+◌, ◌*◌}
use Rattle.integers.specs.Signs.{near}
use Rattle.integers.proofs.Division.{near_up, near_stay, near_up⁻, near_stay⁻}
use Rattle.arith.proofs.round.nearest.Goals as goal

pub returns-then-h-r : goal.returns-then-h-r
returns-then-h-r c =
    let a = c.args in
    sym (ap (λ s. near s (a.q * a.d + a.r) a.d) c.if-neg.true ∙ near_up⁻ a.q a.r a.d (omega arith) (omega arith))

pub returns-else-h-r : goal.returns-else-h-r
returns-else-h-r c =
    let a = c.args in
    sym (ap (λ s. near s (a.q * a.d + a.r) a.d) c.if-neg.true ∙ near_stay⁻ a.q a.r a.d (omega arith) (omega arith))

pub returns-then-h-r-2 : goal.returns-then-h-r-2
returns-then-h-r-2 c =
    let a = c.args in
    sym (ap (λ s. near s (a.q * a.d + a.r) a.d) c.if-neg.false ∙ near_up a.q a.r a.d (omega arith) (omega arith))

pub returns-else-h-r-2 : goal.returns-else-h-r-2
returns-else-h-r-2 c =
    let a = c.args in
    sym (ap (λ s. near s (a.q * a.d + a.r) a.d) c.if-neg.false ∙ near_stay a.q a.r a.d (omega arith))
