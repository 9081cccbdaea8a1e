-- `nutation::rows::term` meets its contract. Assumes nothing.
use mathlib.Core.Path.{◌≡◌, ◌∙◌, ap}
use Prim.Native.Nat.{ℕ, ◌^◌, ◌≤◌, ◌<◌}
use native.Mathlib.Omega.{arith}
use lib.IntN.{◌*ℤ◌}
use Rattle.integers.specs.Division.{rounded}
use Rattle.arith.proofs.Signs.{back, ok}
use Rattle.units.specs.Units.{U}
use Rattle.nutation.specs.Nutation.{coefficient}
use Rattle.nutation.specs.Machine.Reduced.{coefficient_limit}
use Rattle.nutation.proofs.Terms.{same_small}
use Rattle.nutation.proofs.rows.term.Goals as goal

small : (n : ℕ) → n ≤ coefficient_limit → n < 2 ^ 63
small n h = omega arith

pub scale-requires : goal.scale-requires
scale-requires c = (
  small _ (same_small _ _ _ (back c.coefficient_at.result (ok c.coefficient_at.type_inv)) c.coefficient_at.ensures.1),
  same_small _ _ _ (back c.args.w c.ranges.w) c.requires.3,
)

pub returns : goal.returns
returns c =
    let at-coefficient : (c.coefficient_at.result ≡ coefficient c.args.t c.args.first c.args.rate) =
    rw (back c.args.t c.ranges.t, back c.args.first c.ranges.first, back c.args.rate c.ranges.rate) at c.coefficient_at.ensures.0 in
    back c.scale.result (ok c.scale.type_inv)
    ∙ (rw (back c.coefficient_at.result (ok c.coefficient_at.type_inv), back c.args.w c.ranges.w) at c.scale.ensures)
    ∙ ap (λ z. rounded (z *ℤ c.args.w) U) (at-coefficient)
