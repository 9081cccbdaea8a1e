-- `inner_rules::stephylax_test_latitude` meets its contract. Assumes nothing.
use mathlib.Core.Path.{◌∙◌}
use Rattle.arith.proofs.Signs.{back, ok}
use Rattle.inner_rules.proofs.Ranges.{latitude_asks, latitude_told}
use Rattle.inner_rules.proofs.stephylax_test_latitude.Goals as goal

pub latitude_of-requires : goal.latitude_of-requires
latitude_of-requires c = latitude_asks c.held.result c.held-2.result c.held-3.result c.held.ensures.1 c.held-2.ensures.1 c.held-3.ensures.1

pub returns : goal.returns
returns c =
    let x = back c.held.result (ok c.held.type_inv) ∙ (rw (back c.args.x c.ranges.x) at c.held.ensures.0) in
    let y = back c.held-2.result (ok c.held-2.type_inv) ∙ (rw (back c.args.y c.ranges.y) at c.held-2.ensures.0) in
    let z = back c.held-3.result (ok c.held-3.type_inv) ∙ (rw (back c.args.z c.ranges.z) at c.held-3.ensures.0) in
    back c.latitude_of.result (ok c.latitude_of.type_inv) ∙ latitude_told _ _ _ _ _ _ _ x y z c.latitude_of.ensures
