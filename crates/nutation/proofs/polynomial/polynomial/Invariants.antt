-- `nutation::polynomial::polynomial` meets its contract. Assumes nothing.
use Rattle.std.proofs.Common.{length}
use Rattle.nutation.proofs.Polynomials.{WorkedDown}
use Rattle.nutation.proofs.polynomial.polynomial.Given as goal

abbrev pub invariant-loop-a : goal.invariant-loop-a
invariant-loop-a l =
    (goal.iterator-loop-a).can_next l.a-iterator × (goal.iterator-loop-a).is_finite l.a-iterator × WorkedDown l.n l.d l.c l.v (length l.yielded)
