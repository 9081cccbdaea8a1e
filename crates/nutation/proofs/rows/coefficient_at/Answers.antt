-- `nutation::rows::coefficient_at` meets its contract. Assumes nothing.
use mathlib.Core.Path.{◌≡◌, sym, subst}
use Prim.Native.Nat.{◌≤◌}
use native.Mathlib.Omega.{arith}
use lib.IntN.{pos, nat_abs, ◌+ℤ◌, ◌*ℤ◌}
use Rattle.integers.specs.Division.{rounded}
use Rattle.arith.proofs.Cells.{cell}
use Rattle.arith.proofs.Signs.{back, ok}
use Rattle.nutation.specs.Machine.Reduced.{century, coefficient_limit}
use Rattle.nutation.proofs.Terms.{ten_times, coefficient_is, coefficient_small}
use Rattle.nutation.proofs.rows.coefficient_at.Goals as goal

pub returns : goal.returns
returns c =
    let at_next : c.next.result ≡ pos 10 *ℤ c.args.first +ℤ rounded (c.args.rate *ℤ c.args.t) century =
    rw (
      back c.args.t c.ranges.t,
      back c.args.rate c.ranges.rate,
      back c.args.first c.ranges.first,
      cell (pos 10 *ℤ c.args.first) (omega (arith, ten_times c.args.first c.requires.1)),
    ) at c.next.ensures in
    rw (back c.next.result (ok c.next.type_inv)) (
      coefficient_is c.args.t c.args.first c.args.rate c.next.result at_next,
      subst (λ z. nat_abs z ≤ coefficient_limit) (sym at_next)
          (coefficient_small c.args.t c.args.first c.args.rate c.requires.0 c.requires.1 c.requires.2),
    )
