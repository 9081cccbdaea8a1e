-- `pieces::put_term` meets its contract. Assumes nothing.
use mathlib.Core.Path.{◌≡◌, refl, ap}
use lib.IntN.{ℤ}
use lib.ListN.{set}
use Rattle.arith.proofs.Cells.{Cell}
use borrow.Author.Rules.{rules}
use Rattle.pieces.proofs.put_term.Goals as goal

pub returns : goal.returns
returns c =
    let s = c.args in
    let e : Cell s.w.a ≡ s.w.a = search rules in
    record {
      evens = ap (λ (x : ℤ). set s.evens.now s.n.evens (record { a = x; v = s.w.v })) e;
      odds = ap (λ (x : ℤ). set s.odds.now s.n.odds (record { a = x; v = s.w.v })) e;
      count = refl;
    }
