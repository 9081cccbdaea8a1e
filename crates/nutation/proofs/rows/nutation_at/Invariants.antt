-- `nutation::rows::nutation_at` meets its contract. The sums so far, and the terms of the rows that are left, give the whole. Assumes nothing.
use Rattle.nutation.proofs.Sums.{Summed}
use Rattle.nutation.proofs.rows.nutation_at.Given as goal

abbrev pub invariant-loop-i : goal.invariant-loop-i
invariant-loop-i l = Summed l.t l.sum l.i
