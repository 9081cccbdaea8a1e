-- `published_records::parts::come_to` meets its contract. Assumes nothing.
use Rattle.std.proofs.Common.{arith}
use Rattle.published_records.proofs.PartRuns.{come_small}
use Rattle.published_records.proofs.parts.come_to.Goals as goal

pub overflow_add-result : goal.overflow_add-result
overflow_add-result c =
    let a = c.args in
    omega (arith, come_small a.row a.spot c.requires.0 c.requires.1.0 c.requires.1.1)
