-- `nutation::mean_obliquity_at` meets its contract. Assumes nothing.
use mathlib.Core.Path.{◌≡◌, sym, subst}
use Prim.Native.Nat.{ℕ, ◌^◌, ◌≤◌}
use native.Mathlib.Omega.{arith}
use lib.Dec.{lit<, lit≤}
use lib.IntN.{ℤ, nat_abs}
use Rattle.arith.proofs.Signs.{back, ok}
use Rattle.units.specs.Units.{millennium, tau_limit, t_limit}
use Rattle.nutation.specs.Nutation.{obliquity_coefficients, mean_obliquity}
use Rattle.nutation.specs.Machine.Reduced.{By, reach}
use Rattle.nutation.proofs.Polynomials.{polynomial_bound}
use Rattle.nutation.proofs.mean_obliquity_at.Goals as goal

by_tau : (t : ℤ) → nat_abs t ≤ t_limit → By t millennium
by_tau t h = record { positive = lit< tt; divisor = lit≤ tt; factor = omega arith; ratio = omega arith }

size : (t : ℤ) → nat_abs t ≤ t_limit → nat_abs (mean_obliquity t) ≤ 2 ^ 34
unfolding mean_obliquity
size t h = more (polynomial_bound tau_limit t millennium (lit< tt) (omega arith) obliquity_coefficients)
  where
    more : {n : ℕ} → n ≤ reach tau_limit obliquity_coefficients → n ≤ 2 ^ 34
    more k = unfold reach in omega arith

pub polynomial-requires : goal.polynomial-requires
unfolding reach
polynomial-requires c = (subst (λ z. By z millennium) (sym (back c.args.t c.ranges.t)) (by_tau c.args.t c.requires), lit< tt)

pub returns : goal.returns
unfolding mean_obliquity
returns c =
    let at-polynomial : c.polynomial.result ≡ mean_obliquity c.args.t = rw (back c.args.t c.ranges.t) at c.polynomial.ensures in
    rw (back c.polynomial.result (ok c.polynomial.type_inv))
    (at-polynomial, subst (λ z. nat_abs z ≤ 2 ^ 34) (sym (at-polynomial)) (size c.args.t c.requires))
