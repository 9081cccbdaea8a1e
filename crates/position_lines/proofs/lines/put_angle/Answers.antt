-- `put_angle` meets its contract. Assumes nothing.
use Rattle.std.proofs.Common.{arith}
use Rattle.arith.proofs.Signs.{back}
use Rattle.decimals.specs.Texts.{text}
use Rattle.position_lines.proofs.WrittenLines.{angle_put}
use Rattle.position_lines.proofs.lines.put_angle.Goals as goal

pub returns : goal.returns
unfolding text
returns g c =
    let b = back _ c.ranges.k in
    let m = rw b at c.unsigned_abs.ensures.value in
    angle_put _ _ _ _ _ (rw b at c.put_line.ensures) (omega (arith, m))
