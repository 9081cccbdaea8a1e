-- `cosine::cosine` meets its contract. Assumes nothing.
use mathlib.Core.Path.{◌≡◌, ap, ◌∙◌}
use lib.IntN.{pos}
use native.Mathlib.Omega.{arith}
use Rattle.integers.specs.Division.{modulo}
use Rattle.integers.proofs.Division.{modulo_lt}
use Rattle.units.specs.Units.{turn}
use Rattle.arith.proofs.Signs.{back, ok}
use Rattle.cosine.specs.Cosine.{cosine}
use Rattle.cosine.proofs.WholeTurns.{cosine_mod}
use Rattle.cosine.proofs.cosine.Goals as goal

pub cosine_at-requires : goal.cosine_at-requires
cosine_at-requires c =
    let reduced : c.residue.result ≡ modulo c.args.x turn = rw (back c.args.x c.ranges.x) at c.residue.ensures in
    omega (arith, reduced, modulo_lt c.args.x turn (omega arith))

pub returns : goal.returns
returns c =
    let reduced : c.residue.result ≡ modulo c.args.x turn = rw (back c.args.x c.ranges.x) at c.residue.ensures in
    back c.cosine_at.result (ok c.cosine_at.type_inv) ∙ c.cosine_at.ensures ∙ ap (λ r. cosine (pos r)) (reduced)
    ∙ cosine_mod c.args.x
