-- `inner_rules::held_vector` meets its contract. Assumes nothing.
use Rattle.arith.proofs.Signs.{back, ok}
use Rattle.inner_rules.proofs.Ranges.{vector_held}
use Rattle.inner_rules.proofs.held_vector.Goals as goal

pub returns : goal.returns
returns c =
    vector_held c.args.last (back _ (ok c.held.type_inv)) (back _ (ok c.held-2.type_inv)) (back _ (ok c.held-3.type_inv)) c.held.ensures c.held-2.ensures
    c.held-3.ensures (back _ c.ranges.x) (back _ c.ranges.y) (back _ c.ranges.z)
