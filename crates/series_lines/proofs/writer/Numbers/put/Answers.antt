-- `series_lines::writer::Numbers::put` meets its contract. Assumes nothing.
use native.Mathlib.Omega.{arith}
use Rattle.series_lines.proofs.WrittenTerm.{length_three, stored_three}
use Rattle.series_lines.proofs.writer.Numbers.put.Goals as goal

pub returns : goal.returns
returns c =
    let a = c.args.self in
    let x = c.put_groups-at_b.ensures in
    let y = c.put_groups-at_c.ensures in
    let z = c.put_groups.ensures in
    (omega (arith, length_three a.a a.b a.c), stored_three a.a a.b a.c _ _ _ _ _ _ _ x.1 x.0 y.1 y.0 z.1)
