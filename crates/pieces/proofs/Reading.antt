-- A packed term of the term table, its a and c unfolded and handed on as their bits, is the term at its place. Assumes nothing.
use mathlib.Core.Path.{◌≡◌, ap, ◌∙◌}
use Prim.Native.Nat.{ℕ, ◌^◌, ◌≤◌, ◌<◌}
use native.Mathlib.Omega.{arith}
use lib.IntN.{ℤ, nat_abs}
use Rattle.arith.proofs.Cells.{Cell, cell}
use Rattle.units.specs.Units.{a_limit, b_limit, c_limit}
use Rattle.packed_numbers.specs.Numbers.{unfolded}
use Rattle.cosine.specs.Terms.{term_value}
use Rattle.cosine.specs.Machine.Parity.{value_by_parity, InRange}
use Rattle.cosine.specs.declared.term.ReducedTerm.{ReducedTerm}
use Rattle.limits.specs.Allowed.{TermFits}
use Rattle.packed_numbers.specs.declared.quick.PackedTerm.{PackedTerm}
use Rattle.packed.specs.declared.table.Table.{Table}
use Rattle.packed.specs.Machine.Table.{packed_at, term_at}
use Rattle.pieces.specs.Machine.Parted.{WorkedFor}

-- z is x, of which little is known but its size
held_as : (z x : ℤ) → z ≡ x → nat_abs x < 2 ^ 63 → Cell z ≡ x
held_as z x e h = ap Cell e ∙ cell x h

module _ (rows : Table) (i : ℕ) (f : TermFits (term_at rows i)) (p : PackedTerm) (is : p ≡ packed_at rows i) (a c : ℤ)
    (ea : a ≡ unfolded p.a) (ec : c ≡ unfolded p.c) where
  a_is : Cell a ≡ (term_at rows i).a
  unfolding term_at
  a_is = held_as a _ (ea ∙ ap (λ (q : PackedTerm). unfolded q.a) is) (let l = f.a_below in omega arith)

  c_is : Cell c ≡ (term_at rows i).c
  unfolding term_at
  c_is = held_as c _ (ec ∙ ap (λ (q : PackedTerm). unfolded q.c) is) (let l = f.c_below in omega arith)

  b_is : p.b ≡ (term_at rows i).b
  unfolding term_at
  b_is = ap (λ (q : PackedTerm). q.b) is

  pub row_asks : (nat_abs (Cell a) < a_limit) × (p.b < b_limit) × (nat_abs (Cell c) < c_limit)
  row_asks = rw (a_is, b_is, c_is) (f.a_below, f.b_below, f.c_below)

  pub row_worked : (t : ℤ) (w : ReducedTerm) → value_by_parity w.odd w.a w.v ≡ term_value (Cell a) p.b (Cell c) t
      → nat_abs w.a ≡ nat_abs (Cell a) → w.odd ≤ 1 → InRange w.v → WorkedFor t (term_at rows i) w
  row_worked t w e h o v = record {
    value = e ∙ rw (a_is, b_is, c_is);
    size = h ∙ ap nat_abs a_is;
    parity = o;
    offset = v;
  }
