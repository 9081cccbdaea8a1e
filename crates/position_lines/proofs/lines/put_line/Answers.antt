-- `put_line` meets its contract. Assumes nothing.
use Rattle.std.proofs.Common.{arith, rules}
use lib.IntN.{pos}
use lib.Signed.{lt_z}
use Rattle.std.proofs.lemmas.Grind.{common_steps}
use Rattle.arith.proofs.Signs.{back, lt_zero}
use Rattle.decimals.proofs.Digits.{signed_length}
use Rattle.position_lines.proofs.WrittenLines.{fraction_length, line_put}
use Rattle.position_lines.proofs.lines.put_line.Goals as goal

-- how much room is left after the fraction, the unit of measure and the whole number
pub put-requires-2 : goal.put-requires-2
put-requires-2 g c = (search rules, grind (arith, common_steps, fraction_length (lt_z c.args.k (pos 0)) c.args.places c.args.n))

pub put_signed-requires : goal.put_signed-requires
put_signed-requires g c = (search rules, grind (arith, common_steps, fraction_length (lt_z c.args.k (pos 0)) c.args.places c.args.n))

pub put_byte-requires : goal.put_byte-requires
put_byte-requires g c =
    let w = rw (back _ c.ranges.k) at c.put_signed.ensures in
    (search rules, grind (arith, common_steps, fraction_length (lt_z c.args.k (pos 0)) c.args.places c.args.n, signed_length c.args.k, w))

pub returns : goal.returns
returns g c =
    let b = back _ c.ranges.k in
    line_put _ _ _ _ _ _ _ _ _ _ _ _ (lt_zero c.args.k) c.put.ensures (rw b at c.put_fraction.ensures) c.put-2.ensures
    (rw b at c.put_signed.ensures) c.put_byte.ensures
