-- `cosine::parts::parts_angle` meets its contract. Assumes nothing.
use mathlib.Core.Path.{◌≡◌, sym, subst}
use Prim.Native.Nat.{ℕ, ◌<◌}
use native.Mathlib.Omega.{arith}
use Rattle.integers.specs.Division.{modulo}
use Rattle.integers.proofs.Division.{modulo_lt}
use Rattle.units.specs.Units.{turn}
use Rattle.arith.proofs.Signs.{back}
use Rattle.cosine.proofs.PartsAngle.{parts_angle_is}
use Rattle.cosine.proofs.parts.parts_angle.Goals as goal

pub overflow_mul-h : goal.overflow_mul-h
overflow_mul-h c =
    let at : c.residue-m.result ≡ modulo c.args.n turn = rw (back c.args.n c.ranges.n) at c.residue-m.ensures in
    let below : c.residue-m.result < turn = subst (λ (m : ℕ). m < turn) (sym (at)) (modulo_lt c.args.n turn (omega arith)) in
    omega (arith, below)

pub returns : goal.returns
returns c =
    let at : c.residue-m.result ≡ modulo c.args.n turn = rw (back c.args.n c.ranges.n) at c.residue-m.ensures in
    parts_angle_is c.args.n c.residue-m.result (at)
