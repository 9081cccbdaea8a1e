-- The table of an accepted series is one that the sums can be worked from, and what a caller learns from the answer. Assumes nothing.
use mathlib.Core.Path.{◌≡◌, refl, sym, ap, ◌∙◌, subst}
use mathlib.Core.Bool.{Bool, true, false, not, ◌||◌}
use mathlib.Core.List.{List}
use Prim.Native.Nat.{ℕ}
use native.Mathlib.Omega.{arith}
use borrow.Author.Tests.{not-true, not-false}
use lib.IntN.{ℤ}
use Rattle.units.specs.Units.{near}
use Rattle.units.specs.declared.Refusal.{Refusal}
use Rattle.limits.specs.declared.Term.{Term}
use Rattle.limits.specs.Allowed.{Allowed}
use Rattle.limits.specs.Wide.{good_for_wide, reaches}
use Rattle.limits.proofs.Reach.{reaches_is}
use Rattle.packed.specs.declared.Content.{Content}
use Rattle.std.specs.Prelude.{Err, Ok, Result}
use Rattle.packed.specs.Series.{Parsed, accepted, refused, parse, checked}
use Rattle.packed.specs.declared.table.Table.{Table as Terms}
use Rattle.packed.specs.Machine.Table.{Holds, table_blocks, unpacked}
use Rattle.series.specs.Machine.Table.{Table, TableOf, filled}
use Rattle.series.proofs.Accepted.{accepted_is}

-- ---- the table

table_of : (rows : Terms) (bs : List (List Term)) → Holds rows bs → Allowed bs → TableOf rows bs
table_of rows bs h a = record {
  table = record {
    holds = subst (λ (b : List (List Term)). Holds rows b) (sym h.table) h;
    allowed = subst Allowed (sym h.table) a;
  };
  same = h.table;
}

pub fills : (bytes : List ℕ) (rows : Terms) → unpacked (parse bytes) rows → filled (parse bytes) rows
unfolding unpacked filled
fills bytes rows u = by_parse (parse bytes) refl u
  where
    by_parse : (p : Parsed) → parse bytes ≡ p → unpacked p rows → filled p rows
    by_parse (accepted bs) e h = table_of rows bs h (accepted_is bytes bs e)
    by_parse (refused r) e h = tt

-- ---- what the answer k says of the bytes and the table

pub record SeriesIn (bytes : List ℕ) (rows : Terms) (c : Content) : Type 0 where
  pub parsed : parse bytes ≡ accepted (table_blocks rows)
  pub table : Table rows
  pub wide : c.wide ≡ good_for_wide (table_blocks rows)

accepted_of : (p : Parsed) (c : Content) → checked p ≡ Ok c → (bs : List (List Term)) × (p ≡ accepted bs) × (c.wide ≡ good_for_wide bs)
unfolding checked
accepted_of (accepted bs) c e = (bs, refl, (cc))
accepted_of (refused r) c e = let z : ◌≡◌ {A = ℕ} 0 1 = cc in absurd (omega arith)

pub series_in : (bytes : List ℕ) (rows : Terms) (k : Result Content Refusal) (c : Content) → k ≡ Ok c → k ≡ checked (parse bytes)
    → filled (parse bytes) rows → SeriesIn bytes rows c
series_in bytes rows k c e f u =
    let p = accepted_of (parse bytes) c (sym f ∙ e) in
    let h : TableOf rows p.0 = held (parse bytes) p.0 p.1 u in
    record { parsed = p.1 ∙ ap accepted (sym h.same); table = h.table; wide = p.2 ∙ ap good_for_wide (sym h.same) }
  where
    held : (q : Parsed) (bs : List (List Term)) → q ≡ accepted bs → filled q rows → TableOf rows bs
    held q bs e u = unfold filled in (subst (λ (x : Parsed). filled x rows) e u)

-- b answers whether this series may be asked at t, and the caller branched on its negation
module _ (bytes : List ℕ) (rows : Terms) (c : Content) (u : SeriesIn bytes rows c) (t : ℤ) (b : Bool) (e : b ≡ (near t || c.wide)) where
  pub told_reach : not b ≡ false → reaches (table_blocks rows) t ≡ true
  told_reach f = sym (reaches_is (table_blocks rows) t c.wide u.wide) ∙ sym e ∙ not-false b f

  pub told_far : not b ≡ true → reaches (table_blocks rows) t ≡ false
  told_far f = sym (reaches_is (table_blocks rows) t c.wide u.wide) ∙ sym e ∙ not-true b f

pub refused_of : (p : Parsed) (k : Result Content Refusal) (r : Refusal) → k ≡ Err r → k ≡ checked p → p ≡ refused r
unfolding checked
refused_of (accepted bs) k r e f = let z : ◌≡◌ {A = ℕ} 0 1 = cc in absurd (omega arith)
refused_of (refused q) k r e f = let v : q ≡ r = cc in ap refused v
