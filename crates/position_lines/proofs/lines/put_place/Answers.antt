-- `put_place` meets its contract. Assumes nothing.
use Rattle.std.proofs.Common.{arith, rules, lit≤}
use Rattle.arith.proofs.Cells.{cell}
use Rattle.decimals.specs.Texts.{text}
use Rattle.position_lines.proofs.WrittenLines.{after_angle, place_put}
use Rattle.position_lines.proofs.lines.put_place.Goals as goal

pub put_angle-requires-2 : goal.put_angle-requires-2
put_angle-requires-2 g c =
    let h = after_angle _ _ _ _ c.put_angle.ensures (lit≤ tt) in
    (search rules, (search rules, (search rules, omega arith)))

pub put_distance-requires : goal.put_distance-requires
put_distance-requires g c =
    let h = after_angle _ _ _ _ c.put_angle.ensures (lit≤ tt) in
    let i = after_angle _ _ _ _ c.put_angle-2.ensures (lit≤ tt) in
    (search rules, omega arith)

pub returns : goal.returns
unfolding text
returns g c =
    let i = c.requires.small.ascension_in in
    let j = c.requires.small.declination_in in
    let k = c.requires.small.distance_in in
    let p = c.args.p in
    place_put _ _ _ _ _ (rw (cell p.right_ascension (omega arith)) at c.put_angle.ensures)
    (rw (cell p.declination (omega arith)) at c.put_angle-2.ensures) (rw (cell p.distance (omega arith)) at c.put_distance.ensures)
