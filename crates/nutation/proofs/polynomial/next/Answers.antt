-- `nutation::polynomial::next` meets its contract. Assumes nothing.
use mathlib.Core.Path.{◌≡◌}
use Prim.Native.Nat.{ℕ, ◌+◌, ◌*◌, ◌-◌, ◌^◌, ◌<◌}
use native.Mathlib.Omega.{arith}
use lib.IntN.{nat_abs, ◌*ℤ◌}
use Rattle.integers.specs.Division.{rounded}
use Rattle.arith.proofs.Signs.{back, ok}
use Rattle.nutation.specs.Machine.Reduced.{centuries}
use Rattle.nutation.proofs.Polynomials.{room, step_fits}
use Rattle.nutation.proofs.polynomial.next.Goals as goal

pub mul_div_round-requires : goal.mul_div_round-requires
mul_div_round-requires c =
    let b = c.requires.0 in
    rw (back c.args.n c.ranges.n, back c.args.v c.ranges.v) (
      b.positive,
      b.divisor,
      b.factor,
      room (nat_abs c.args.v) (nat_abs c.args.n) c.args.d (2 ^ 63 - 1) b.positive b.ratio (more _ _ c.requires.1),
    )
  where
    more : (a v : ℕ) → a + centuries * v < 2 ^ 63 - 1 → centuries * v < 2 ^ 63 - 1
    more a v h = omega arith

pub overflow_add-result : goal.overflow_add-result
overflow_add-result c =
    let product : c.mul_div_round.result ≡ rounded (c.args.v *ℤ c.args.n) c.args.d =
    rw (back c.args.n c.ranges.n, back c.args.v c.ranges.v) at c.mul_div_round.ensures in
    rw (back c.args.c c.ranges.c, back c.mul_div_round.result (ok c.mul_div_round.type_inv), product)
    (step_fits c.args.c c.args.v c.args.n c.args.d c.requires.0 c.requires.1)

pub returns : goal.returns
returns c =
    let product : c.mul_div_round.result ≡ rounded (c.args.v *ℤ c.args.n) c.args.d =
    rw (back c.args.n c.ranges.n, back c.args.v c.ranges.v) at c.mul_div_round.ensures in
    rw (
      back c.args.c c.ranges.c,
      back c.mul_div_round.result (ok c.mul_div_round.type_inv),
      product,
      back _ (step_fits c.args.c c.args.v c.args.n c.args.d c.requires.0 c.requires.1),
    )
