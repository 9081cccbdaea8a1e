-- `roots::with_pair` meets its contract. Assumes nothing.
use mathlib.Core.Path.{◌∙◌}
use Prim.Native.Nat.{◌+◌, ◌*◌, ◌≤◌}
use native.Mathlib.Omega.{arith}
use Rattle.roots.proofs.Bits.{rest_small, Chosen, one, nought, bit_small, growth_fits, pair_worked}
use Rattle.roots.proofs.with_pair.Goals as goal
use Rattle.roots.proofs.with_pair.Goals.{then-trial-rest, else-trial-rest}

pub overflow_add-rest : goal.overflow_add-rest
overflow_add-rest c = omega (arith, rest_small c.requires.0)

pub overflow_add-result : goal.overflow_add-result
overflow_add-result c =
    let chosen : Chosen c.args.w c.args.pair c.if-trial-rest.bit c.if-trial-rest.growth = let w = c.args.w in let small : w.rest ≤ 2 * w.root =
    rest_small c.requires.0 in elim c.if-trial-rest.branch [
      | then-trial-rest k ↦ one (omega (arith, k.if-trial-rest.true)) k.bit-is (k.growth-is ∙ omega arith)
      | else-trial-rest k ↦ nought
          (omega (arith, k.if-trial-rest.false)) k.bit-is k.growth-is
    ] in
    omega (arith, bit_small (chosen))

pub overflow_sub-result : goal.overflow_sub-result
overflow_sub-result c =
    let chosen : Chosen c.args.w c.args.pair c.if-trial-rest.bit c.if-trial-rest.growth = let w = c.args.w in let small : w.rest ≤ 2 * w.root =
    rest_small c.requires.0 in elim c.if-trial-rest.branch [
      | then-trial-rest k ↦ one (omega (arith, k.if-trial-rest.true)) k.bit-is (k.growth-is ∙ omega arith)
      | else-trial-rest k ↦ nought
          (omega (arith, k.if-trial-rest.false)) k.bit-is k.growth-is
    ] in
    omega (arith, growth_fits (chosen), rest_small c.requires.0)

pub returns : goal.returns
returns c =
    let chosen : Chosen c.args.w c.args.pair c.if-trial-rest.bit c.if-trial-rest.growth = let w = c.args.w in let small : w.rest ≤ 2 * w.root =
    rest_small c.requires.0 in elim c.if-trial-rest.branch [
      | then-trial-rest k ↦ one (omega (arith, k.if-trial-rest.true)) k.bit-is (k.growth-is ∙ omega arith)
      | else-trial-rest k ↦ nought
          (omega (arith, k.if-trial-rest.false)) k.bit-is k.growth-is
    ] in
    let w = c.args.w in
    let small : w.rest ≤ 2 * w.root = rest_small c.requires.0 in
    let fits : c.if-trial-rest.growth ≤ 4 * w.rest + c.args.pair = growth_fits (chosen) in
    pair_worked _ c.requires.0 c.requires.2 (chosen) (omega arith) (omega arith)
