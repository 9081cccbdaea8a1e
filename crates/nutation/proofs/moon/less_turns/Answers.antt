-- `nutation::moon::less_turns` meets its contract. Assumes nothing.
use mathlib.Core.Path.{◌∙◌, ap}
use lib.IntN.{pos}
use Rattle.nutation.specs.Machine.Reduced.{less_turns}
use Rattle.nutation.proofs.Terms.{left_told}
use Rattle.nutation.proofs.moon.less_turns.Goals as goal

pub overflow_cast-result : goal.overflow_cast-result
overflow_cast-result c = (left_told c.args.a _ c.ranges.a c.residue.ensures).room

pub returns : goal.returns
unfolding less_turns
returns c = let l = left_told c.args.a _ c.ranges.a c.residue.ensures in l.cast ∙ ap pos l.is
