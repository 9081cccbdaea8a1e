-- `nutation::moon::argument_at` meets its contract. Assumes nothing.
use mathlib.Core.Path.{◌∙◌}
use Rattle.arith.proofs.Signs.{back, ok}
use Rattle.nutation.proofs.Terms.{by_time, argument_is}
use Rattle.nutation.proofs.moon.argument_at.Goals as goal

pub polynomial-requires : goal.polynomial-requires
polynomial-requires c = rw (back c.args.t c.ranges.t) (by_time c.args.t c.requires.0, c.requires.1)

pub returns : goal.returns
returns c =
    back c.polynomial.result (ok c.polynomial.type_inv) ∙ (rw (back c.args.t c.ranges.t) at c.polynomial.ensures)
    ∙ argument_is c.args.t _
