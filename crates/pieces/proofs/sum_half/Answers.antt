-- `pieces::sum_half` meets its contract: the sum is that of the places passed. Assumes nothing.
use mathlib.Core.Path.{refl, ◌∙◌}
use Prim.Native.Nat.{◌+◌}
use native.Mathlib.Omega.{arith}
use Rattle.arith.proofs.Signs.{back, ok}
use Rattle.pieces.specs.Machine.Parted.{half_sum}
use Rattle.pieces.proofs.Filling.{half_less, half_all}
use Rattle.pieces.proofs.sum_half.Goals as goal

pub loop-i-init : goal.loop-i-init
unfolding half_sum
loop-i-init g c = (omega arith, refl)

pub two_more-sum-requires : goal.two_more-sum-requires
two_more-sum-requires g c =
    (half_less g.P.Parity.value c.args.half.now (c.loop-i.i + 2) (c.args.n + 1) (omega arith) c.requires.filled, c.loop-i.invariant.1)

pub overflow_step-i : goal.overflow_step-i
overflow_step-i g c = let f = c.requires.filled.few in omega arith

pub loop-i-smaller : goal.loop-i-smaller
loop-i-smaller g c = omega arith

pub loop-i-preserved : goal.loop-i-preserved
loop-i-preserved g c = (omega arith, back c.two_more-sum.result (ok c.two_more-sum.type_inv) ∙ c.two_more-sum.ensures)

pub returns : goal.returns
returns g c =
    half_all g.P.Parity.value c.args.half.now c.args.n c.requires _ c.loop-i.i c.loop-i.invariant.0
    c.loop-i.invariant.1 c.loop-i-test.false
