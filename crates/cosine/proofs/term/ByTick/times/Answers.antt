-- `cosine::term::ByTick::times` meets its contract. Assumes nothing.
use native.Mathlib.Omega.{arith}
use Prim.Native.Nat.{◌*◌, ◌-◌, ◌≤◌}
use Rattle.units.specs.Units.{turn}
use Rattle.cosine.specs.Machine.Prepared.{tick, step_limit}
use Rattle.cosine.proofs.Residues.{times_is}
use Rattle.cosine.proofs.TermAngle.{product_most}
use Rattle.cosine.proofs.term.ByTick.times.Goals as goal

pub overflow_mul-s : goal.overflow_mul-s
overflow_mul-s c =
    let rests : c.args.g * c.args.self.r ≤ step_limit * (tick - 1) = product_most _ _ step_limit (tick - 1) c.requires.0 c.requires.2 in
    omega (arith, rests)

pub overflow_mul-result : goal.overflow_mul-result
overflow_mul-result c =
    let quotients : c.args.g * c.args.self.q ≤ step_limit * (turn - 1) = product_most _ _ step_limit (turn - 1) c.requires.0 c.requires.1 in
    omega (arith, quotients)

pub overflow_add-result : goal.overflow_add-result
overflow_add-result c =
    let quotients : c.args.g * c.args.self.q ≤ step_limit * (turn - 1) = product_most _ _ step_limit (turn - 1) c.requires.0 c.requires.1 in
    let rests : c.args.g * c.args.self.r ≤ step_limit * (tick - 1) = product_most _ _ step_limit (tick - 1) c.requires.0 c.requires.2 in
    omega (arith, quotients, rests)

pub returns : goal.returns
returns c = times_is _ _ _
