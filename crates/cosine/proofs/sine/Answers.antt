-- `cosine::sine` meets its contract. Assumes nothing.
use mathlib.Core.Path.{◌≡◌, ap, ◌∙◌}
use lib.IntN.{pos}
use native.Mathlib.Omega.{arith}
use Rattle.integers.specs.Division.{modulo}
use Rattle.integers.proofs.Division.{modulo_lt}
use Rattle.units.specs.Units.{turn}
use Rattle.arith.proofs.Signs.{back, ok}
use Rattle.cosine.specs.Cosine.{sine}
use Rattle.cosine.proofs.WholeTurns.{sine_mod}
use Rattle.cosine.proofs.sine.Goals as goal

pub sine_at-requires : goal.sine_at-requires
sine_at-requires c =
    let reduced : c.residue.result ≡ modulo c.args.x turn = rw (back c.args.x c.ranges.x) at c.residue.ensures in
    omega (arith, reduced, modulo_lt c.args.x turn (omega arith))

pub returns : goal.returns
returns c =
    let reduced : c.residue.result ≡ modulo c.args.x turn = rw (back c.args.x c.ranges.x) at c.residue.ensures in
    back c.sine_at.result (ok c.sine_at.type_inv) ∙ c.sine_at.ensures ∙ ap (λ r. sine (pos r)) (reduced)
    ∙ sine_mod c.args.x
