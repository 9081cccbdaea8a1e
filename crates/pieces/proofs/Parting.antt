-- The two tables of a piece: a term goes to that of its parity, and both hold the piece's sum. Assumes nothing.
use mathlib.Core.Path.{◌≡◌, refl, sym, ap, ap₂, ◌∙◌, subst}
use mathlib.Core.List.{List}
use Prim.Native.Nat.{ℕ, zero, suc, ◌+◌, ◌-◌, ◌^◌, ◌≤◌, ◌<◌}
use native.Mathlib.Omega.{arith}
use lib.IntN.{ℤ, pos, neg_ℤ, nat_abs, ◌+ℤ◌, ◌-ℤ◌, +ℤ_assoc, +ℤ_comm}
use lib.ListN.{length, set}
use mir.Syntax.{w64}
use mir.Val.{SFits}
use Rattle.arith.proofs.Cells.{Cell}
use Rattle.units.specs.Units.{U, a_limit}
use Rattle.cosine.specs.Cosine.{even_part, odd_part}
use Rattle.cosine.specs.Machine.Parity.{even_value, odd_value, value_by_parity}
use Rattle.cosine.specs.declared.term.ReducedTerm.{ReducedTerm}
use Rattle.limits.specs.declared.Term.{Term}
use Rattle.packed.specs.declared.table.Table.{Table}
use Rattle.packed.specs.Machine.Table.{term_at, terms_at}
use Rattle.pieces.specs.declared.Counts.{Counts}
use Rattle.pieces.specs.declared.Placed.{Placed}
use Rattle.pieces.specs.Sums.{block_sum}
use Rattle.pieces.specs.Machine.Parted.{piece_limit, room, half_sum, WorkedFor, Piece, Rooms, PutInBoth, Small, Half, Parted}
use Rattle.pieces.proofs.Adding.{cells_fit, cells_are}
use Rattle.pieces.proofs.Filling.{sum_same, half_none, half_less, half_same, sum_stored, half_more, half_closed, half_below}
use Rattle.pieces.proofs.Sizes.{no_share}
use Rattle.pieces.proofs.Summing.{Summed, summed_none, summed_all, summed_term, term_fits, value_below}

-- The tables hold values whose sum is x.
pub record Holding (es os : List Placed) (evens odds : ℕ) (x : ℤ) : Type 0 where
  pub evens_half : Half even_value es evens
  pub odds_half : Half odd_value os odds
  pub sum : half_sum even_value es evens +ℤ half_sum odd_value os odds ≡ x

holding_none : (es os : List Placed) → length es ≡ room → length os ≡ room →
    Holding es os 0 0 (pos 0)
unfolding half_sum
holding_none es os h k = record { evens_half = half_none even_value es h; odds_half = half_none odd_value os k; sum = refl }

module _ {es os : List Placed} {evens odds : ℕ} {x : ℤ} (p : Holding es os evens odds x) (he : evens < room)
    (ho : odds < room) (w : Placed) where
  abbrev E : ℤ
  E = half_sum even_value es evens

  abbrev O : ℤ
  O = half_sum odd_value os odds

  same_evens : half_sum even_value (set es evens w) evens ≡ E
  same_evens = sum_same even_value es evens w evens (omega arith)

  same_odds : half_sum odd_value (set os odds w) odds ≡ O
  same_odds = sum_same odd_value os odds w odds (omega arith)

  even_put : Small even_value w.a w.v → Holding (set es evens w) (set os odds w) (evens + 1) odds (x +ℤ even_value w.a w.v)
  even_put s = record {
    evens_half = half_more even_value es evens p.evens_half w he s;
    odds_half = half_same odd_value os odds p.odds_half w ho;
    sum = ap₂ ◌+ℤ◌ (sum_stored even_value es evens p.evens_half w he) same_odds ∙ swapped E (even_value w.a w.v) O ∙
        ap (λ (z : ℤ). z +ℤ even_value w.a w.v) p.sum;
  }
    where
      swapped : (x y z : ℤ) → x +ℤ y +ℤ z ≡ x +ℤ z +ℤ y
      swapped x y z = +ℤ_assoc x y z ∙ ap (λ (w : ℤ). x +ℤ w) (+ℤ_comm y z) ∙ sym (+ℤ_assoc x z y)

  odd_put : Small odd_value w.a w.v → Holding (set es evens w) (set os odds w) evens (odds + 1) (x +ℤ odd_value w.a w.v)
  odd_put s = record {
    evens_half = half_same even_value es evens p.evens_half w he;
    odds_half = half_more odd_value os odds p.odds_half w ho s;
    sum = ap₂ ◌+ℤ◌ same_evens (sum_stored odd_value os odds p.odds_half w ho) ∙ sym (+ℤ_assoc E O (odd_value w.a w.v)) ∙
        ap (λ (z : ℤ). z +ℤ odd_value w.a w.v) p.sum;
  }

  -- a term goes to the table of its parity
  put : (odd : ℕ) → odd ≤ 1 → Small (value_by_parity odd) w.a w.v → Holding (set es evens w) (set os odds w)
      (evens + (1 - odd)) (odds + odd) (x +ℤ value_by_parity odd w.a w.v)
  unfolding value_by_parity
  put zero h s = let e : odds + 0 ≡ odds = omega arith in rw e (even_put s)
  put (suc k) h s = let e : evens + (1 - suc k) ≡ evens = omega arith in let f : odds + suc k ≡ odds + 1 = omega arith in rw (e, f) (odd_put s)

-- ---- a term of amplitude 0

even_none : (v : ℕ) → even_value (pos 0) v ≡ pos 0
unfolding even_value
even_none v = no_share (even_part (pos v -ℤ pos U)) U (omega arith)

odd_none : (v : ℕ) → odd_value (pos 0) v ≡ pos 0
unfolding odd_value
odd_none v = no_share (neg_ℤ (odd_part (pos v -ℤ pos U))) U (omega arith)

small_none : (f : ℤ → ℕ → ℤ) → f (pos 0) U ≡ pos 0 → Small f (pos 0) U
small_none f e = record {
  a_below = omega arith;
  v_within = record { low = omega arith; high = omega arith };
  value_below = subst (λ (z : ℤ). nat_abs z < a_limit) (sym e) (omega arith);
}

-- ---- the loop over a piece's terms

-- x, the sum of the terms before place i, is what the tables hold
pub record Partly (t : ℤ) (rows : Table) (from to : ℕ) (es os : List Placed) (n : Counts) (i : ℕ) : Type 0 where
  pub x : ℤ
  pub holding : Holding es os n.evens n.odds x
  pub summed : Summed t rows from to x i
  pub many : from + (n.evens + n.odds) ≡ i
  pub short : to ≤ from + piece_limit

pub partly_none : {t : ℤ} {rows : Table} {from to : ℕ} {es os : List Placed}
    → Piece rows from to → Rooms es os
    → Partly t rows from to es os (record { evens = 0; odds = 0 }) from
partly_none {es} {os} q h = record {
  x = pos 0;
  holding = holding_none es os h.evens h.odds;
  summed = summed_none q.order q.space q.limits;
  many = omega arith;
  short = q.short;
}

module _ {t : ℤ} {rows : Table} {from to : ℕ} {es os : List Placed} where
  module _ {n : Counts} {i : ℕ} (p : Partly t rows from to es os n i) where
    pub evens_free : n.evens < room
    evens_free = let m = p.many in let s = p.short in let w = p.summed.within in omega arith

    pub odds_free : n.odds < room
    odds_free = let m = p.many in let s = p.short in let w = p.summed.within in omega arith

    module _ (h : i < to) (w : ReducedTerm) (k : WorkedFor t (term_at rows i) w) where
      small : Small (value_by_parity w.odd) w.a w.v
      small = record {
        a_below = let l = (term_fits p.summed h).a_below in let e = k.size in omega arith;
        v_within = k.offset;
        value_below = subst (λ (z : ℤ). nat_abs z < a_limit) (sym k.value) (value_below p.summed h);
      }

      moved : Partly t rows from to (set es n.evens (record { a = w.a; v = w.v })) (set os n.odds (record { a = w.a; v = w.v }))
          (record { evens = n.evens + (1 - w.odd); odds = n.odds + w.odd }) (i + 1)
      moved = record {
        x = p.x +ℤ value_by_parity w.odd w.a w.v;
        holding = put p.holding evens_free odds_free (record { a = w.a; v = w.v }) w.odd k.parity small;
        summed = subst (λ (z : ℤ). Summed t rows from to (p.x +ℤ z) (i + 1)) (sym k.value) (summed_term p.summed h);
        many = let m = p.many in omega arith;
        short = p.short;
      }

      pub partly_more : {es' os' : List Placed} {r : Counts} → PutInBoth w n es os es' os' r →
          Partly t rows from to es' os' r (i + 1)
      partly_more q = rw (q.evens, q.odds, q.count) moved

    abbrev last : Placed
    last = record { a = pos 0; v = U }

    ended : to ≤ i → Parted t (terms_at rows from (to - from)) (set es n.evens last) (set os n.odds last) n
    ended h = record {
      evens_closed = half_closed even_value es n.evens p.holding.evens_half last evens_free (small_none even_value (even_none U)) (even_none U);
      odds_closed = half_closed odd_value os n.odds p.holding.odds_half last odds_free (small_none odd_value (odd_none U)) (odd_none U);
      sum = ap₂ ◌+ℤ◌ (same_evens p.holding evens_free odds_free last) (same_odds p.holding evens_free odds_free last) ∙
          p.holding.sum ∙ summed_all p.summed h;
    }

    pub partly_all : to ≤ i → {es' os' : List Placed} {r : Counts} →
        PutInBoth (record { a = pos 0; v = U; odd = 0 }) n es os es' os' r → Parted t (terms_at rows from (to - from)) es' os' n
    partly_all h q = rw (q.evens, q.odds) (ended h)

-- ---- the sum of both tables

module _ {t : ℤ} {terms : List Term} {es os : List Placed} {n : Counts} (p : Parted t terms es os n)
    (even odd : ℤ) (he : even ≡ half_sum even_value es n.evens) (ho : odd ≡ half_sum odd_value os n.odds) where
  halves_small : nat_abs even + nat_abs odd < 2 ^ 63
  halves_small =
      let e = half_below even_value es n.evens (half_less even_value es n.evens (n.evens + 1) (omega arith) p.evens_closed.filled) even he in
      let o = half_below odd_value os n.odds (half_less odd_value os n.odds (n.odds + 1) (omega arith) p.odds_closed.filled) odd ho in
      omega arith

  pub halves_fit : SFits w64 (Cell even +ℤ Cell odd)
  halves_fit = cells_fit even odd halves_small

  pub halves_are : (r : ℤ) → r ≡ Cell even +ℤ Cell odd → Cell r ≡ block_sum t terms
  halves_are r e = cells_are even odd halves_small r e ∙ ap₂ ◌+ℤ◌ he ho ∙ p.sum

-- the tables keep their sizes
pub rooms_kept : {t : ℤ} {terms : List Term} {es os : List Placed} {n : Counts} → Parted t terms es os n
    → Rooms es os
rooms_kept p = record {
  evens = p.evens_closed.filled.size;
  odds = p.odds_closed.filled.size;
}
