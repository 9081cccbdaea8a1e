-- `put_distance` meets its contract. Assumes nothing.
use Rattle.arith.proofs.Signs.{back}
use Rattle.decimals.specs.Texts.{text}
use Rattle.position_lines.proofs.WrittenLines.{distance_put}
use Rattle.position_lines.proofs.lines.put_distance.Goals as goal

pub returns : goal.returns
unfolding text
returns g c =
    let b = back _ c.ranges.d in
    distance_put _ _ _ _ (rw b at c.unsigned_abs.ensures.value) (rw b at c.put_line.ensures)
