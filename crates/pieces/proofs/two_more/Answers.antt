-- `pieces::two_more` meets its contract. Assumes nothing.
use mathlib.Core.Path.{refl}
use Rattle.pieces.proofs.Filling.{two_asks, two_fit, two_are}
use Rattle.pieces.proofs.two_more.Goals as goal

pub values-requires : goal.values-requires
values-requires g c = two_asks g.P.Parity.value c.args.half.now c.args.i c.requires.0

pub overflow_add-result : goal.overflow_add-result
overflow_add-result g c =
    two_fit g.P.Parity.value c.args.half.now c.args.i
    c.requires.0 c.args.sum c.values.result c.requires.1 c.values.ensures

pub returns : goal.returns
returns g c = two_are g.P.Parity.value c.args.half.now c.args.i c.requires.0 c.args.sum c.values.result c.requires.1 c.values.ensures _ refl
