-- `put_two` meets its contract. Assumes nothing.
use Rattle.list_lines.proofs.WrittenRuns.{two_put}
use Rattle.list_lines.proofs.lines.put_two.Goals as goal

pub returns : goal.returns
returns g c = two_put _ _ _ _ c.put_byte.ensures c.put_byte-2.ensures
