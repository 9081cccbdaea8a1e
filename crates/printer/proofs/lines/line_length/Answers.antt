-- `line_length` meets its contract. Assumes nothing.
use mathlib.Core.Path.{ap, ◌∙◌}
use mathlib.Core.Bool.{false}
use Prim.Native.Nat.{ℕ}
use native.Mathlib.Omega.{arith}
use lib.ListN.{length}
use Rattle.series_lines.specs.Grammar.{decimal}
use Rattle.packed.specs.Machine.Table.{term_at}
use Rattle.printer.specs.Printer.{plain_decimal}
use Rattle.printer.proofs.LinePieces.{packed_a, packed_b, packed_c, line_length}
use Rattle.printer.proofs.lines.line_length.Goals as goal

pub returns : goal.returns
returns c =
    let n = c.decimal_length-n.ensures in
    let m = c.decimal_length-m.ensures in
    let l = c.decimal_length-l.ensures in
    let is = c.term-a.ensures in
    let a = packed_a _ _ _ is c.below_zero-minus_a.ensures c.magnitude-size_a.ensures in
    let z = packed_c _ _ _ is c.below_zero-minus_c.ensures c.magnitude-size_c.ensures in
    let b = ap (λ (b : ℕ). length (decimal (plain_decimal false b))) (packed_b _ _ _ is) in
    let e = line_length (term_at c.args.table.now c.args.k) _ _ _ _ a z _ _ _ n.0 (m.0 ∙ b) l.0 in
    (e, omega (arith, n.1, m.1, l.1))
