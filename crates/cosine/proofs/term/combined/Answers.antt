-- `cosine::term::combined` meets its contract. Assumes nothing.
use native.Mathlib.Omega.{arith}
use Prim.Native.Nat.{◌*◌, ◌-◌, ◌≤◌}
use Rattle.cosine.specs.Machine.Prepared.{base, top_digit, cuts}
use Rattle.cosine.proofs.TermAngle.{product_most}
use Rattle.cosine.proofs.term.combined.Goals as goal

pub overflow_mul-result : goal.overflow_mul-result
overflow_mul-result c =
    let first : c.args.g0 * c.args.x0 ≤ (base - 1) * (cuts - 1) = product_most _ _ (base - 1) (cuts - 1) (omega arith) c.requires.2 in
    omega (arith, first)

pub overflow_mul-result-2 : goal.overflow_mul-result-2
overflow_mul-result-2 c =
    let second : c.args.g1 * c.args.x1 ≤ top_digit * (cuts - 1) = product_most _ _ top_digit (cuts - 1) c.requires.1 c.requires.3 in
    omega (arith, second)

pub overflow_add-result : goal.overflow_add-result
overflow_add-result c =
    let first : c.args.g0 * c.args.x0 ≤ (base - 1) * (cuts - 1) = product_most _ _ (base - 1) (cuts - 1) (omega arith) c.requires.2 in
    let second : c.args.g1 * c.args.x1 ≤ top_digit * (cuts - 1) = product_most _ _ top_digit (cuts - 1) c.requires.1 c.requires.3 in
    omega (arith, first, second)

pub overflow_add-result-2 : goal.overflow_add-result-2
overflow_add-result-2 c =
    let first : c.args.g0 * c.args.x0 ≤ (base - 1) * (cuts - 1) = product_most _ _ (base - 1) (cuts - 1) (omega arith) c.requires.2 in
    let second : c.args.g1 * c.args.x1 ≤ top_digit * (cuts - 1) = product_most _ _ top_digit (cuts - 1) c.requires.1 c.requires.3 in
    omega (arith, first, second)

pub returns : goal.returns
returns c =
    let first : c.args.g0 * c.args.x0 ≤ (base - 1) * (cuts - 1) = product_most _ _ (base - 1) (cuts - 1) (omega arith) c.requires.2 in
    let second : c.args.g1 * c.args.x1 ≤ top_digit * (cuts - 1) = product_most _ _ top_digit (cuts - 1) c.requires.1 c.requires.3 in
    (omega arith, omega (arith, first, second))
