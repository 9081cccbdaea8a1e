-- The sums over the rows so far, and what the rows that are left add to them. Assumes nothing.
use mathlib.Core.Path.{◌≡◌, refl, sym, ap, ◌∙◌, subst}
use mathlib.Core.List.{◌∷◌}
use Prim.Native.Nat.{ℕ, ◌+◌, ◌*◌, ◌≤◌, ◌<◌}
use native.Mathlib.Numerals.{add-one}
use native.Mathlib.Omega.{arith}
use lib.Dec.{lit<, lit≤}
use lib.IntN.{ℤ, pos, nat_abs, ◌+ℤ◌}
use lib.ListN.{get_or, drop, length}
use lib.Seq.{drop-cons}
use Rattle.integers.proofs.Order.{nat_abs-+}
use Rattle.units.specs.Units.{t_limit}
use Rattle.nutation_table.specs.declared.Row.{Row}
use Rattle.nutation_table.specs.Table.{rows, no_row}
use Rattle.nutation_table.specs.Machine.Small.{row_count, Small}
use Rattle.nutation.specs.declared.Nutation.{Nutation}
use Rattle.nutation.specs.Nutation.{longitude_term, obliquity_term, add_up, longitude_nutation, obliquity_nutation}
use Rattle.nutation.specs.Machine.Reduced.{NutationAt, coefficient_limit, sum_limit}
use Rattle.nutation.proofs.Terms.{longitude_small, obliquity_small, sum_fits, kept}
use mir.Syntax.{w64}
use mir.Val.{SFits}
use Rattle.arith.proofs.Cells.{Cell}
use Rattle.arith.proofs.Signs.{back}

pub record Summed (t : ℤ) (sum : Nutation) (i : ℕ) : Type 0 where
  pub within : i ≤ row_count
  pub longitude_left : add_up (longitude_term t) sum.longitude (drop i rows) ≡ longitude_nutation t
  pub obliquity_left : add_up (obliquity_term t) sum.obliquity (drop i rows) ≡ obliquity_nutation t
  pub longitude_size : nat_abs sum.longitude ≤ i * coefficient_limit
  pub obliquity_size : nat_abs sum.obliquity ≤ i * coefficient_limit

pub summed_none : (t : ℤ) → Summed t (record { longitude = pos 0; obliquity = pos 0 }) 0
unfolding longitude_nutation obliquity_nutation
summed_none t = record { within = lit≤ tt; longitude_left = refl; obliquity_left = refl; longitude_size = lit≤ tt; obliquity_size = lit≤ tt }

all_rows : length rows ≡ row_count
unfolding rows
all_rows = refl

next_row : (i : ℕ) → i < row_count → drop i rows ≡ get_or rows i no_row ∷ drop (i + 1) rows
next_row i h = rw (add-one) (drop-cons rows i no_row (subst (λ (n : ℕ). i < n) (sym all_rows) h))

add_next : (term : Row → ℤ) (s s' : ℤ) (i : ℕ) (r : Row) → i < row_count → r ≡ get_or rows i no_row → s' ≡ s +ℤ term r
    → add_up term s' (drop (i + 1) rows) ≡ add_up term s (drop i rows)
unfolding add_up
add_next term s s' i r h e f =
    sym (ap (λ l. add_up term s l) (next_row i h) ∙ ap (λ z. add_up term z (drop (i + 1) rows)) (ap (λ (q : Row). s +ℤ term q) (sym e) ∙ sym f))

size_next : (s s' x : ℤ) (i : ℕ) → nat_abs s ≤ i * coefficient_limit → nat_abs x ≤ coefficient_limit → s' ≡ s +ℤ x → nat_abs s' ≤ (i + 1) * coefficient_limit
size_next s s' x i h k e = subst (λ z. nat_abs z ≤ (i + 1) * coefficient_limit) (sym e) (omega (arith, nat_abs-+ s x))

-- no sum passes its limit on the way
summed_room : (t : ℤ) (sum : Nutation) (i : ℕ) → Summed t sum i → (nat_abs sum.longitude ≤ sum_limit) × (nat_abs sum.obliquity ≤ sum_limit)
summed_room t sum i s = (room _ i s.within s.longitude_size, room _ i s.within s.obliquity_size)
  where
    room : (n i : ℕ) → i ≤ row_count → n ≤ i * coefficient_limit → n ≤ sum_limit
    room n i h k = omega arith

-- the terms n of the next row r, as the code adds them
module _ (t : ℤ) (sum n : Nutation) (i : ℕ) (r : Row) (ht : nat_abs t ≤ t_limit) (s : Summed t sum i) (k : Small r)
    (pl : n.longitude ≡ longitude_term t r) (po : n.obliquity ≡ obliquity_term t r) where
  abbrev Added : ℤ → ℤ → Type 0
  Added x y = (SFits w64 (Cell x +ℤ Cell y)) × (Cell (Cell x +ℤ Cell y) ≡ x +ℤ y)

  added : (x y : ℤ) → nat_abs x ≤ sum_limit → nat_abs y ≤ coefficient_limit → Added x y
  added x y h g =
      let e : Cell x +ℤ Cell y ≡ x +ℤ y = rw (kept x sum_limit (lit< tt) h, kept y coefficient_limit (lit< tt) g) in
      let f : SFits w64 (Cell x +ℤ Cell y) = rw e (sum_fits x y (omega arith) (omega arith)) in
      (f, back _ f ∙ e)

  longitude_added : Added sum.longitude n.longitude
  longitude_added = added sum.longitude n.longitude (summed_room t sum i s).0 (rw pl (longitude_small t r ht k))

  obliquity_added : Added sum.obliquity n.obliquity
  obliquity_added = added sum.obliquity n.obliquity (summed_room t sum i s).1 (rw po (obliquity_small t r ht k))

  pub longitude_fits : SFits w64 (Cell sum.longitude +ℤ Cell n.longitude)
  longitude_fits = longitude_added.0

  pub obliquity_fits : SFits w64 (Cell sum.obliquity +ℤ Cell n.obliquity)
  obliquity_fits = obliquity_added.0

  pub summed_more : i < row_count → r ≡ get_or rows i no_row
      → Summed t (record { longitude = Cell (Cell sum.longitude +ℤ Cell n.longitude); obliquity = Cell (Cell sum.obliquity +ℤ Cell n.obliquity) }) (i + 1)
  summed_more h e =
      let p = longitude_added.1 ∙ ap (λ z. sum.longitude +ℤ z) pl in
      let q = obliquity_added.1 ∙ ap (λ z. sum.obliquity +ℤ z) po in
      record {
        within = omega arith;
        longitude_left = add_next (longitude_term t) sum.longitude _ i r h e p ∙ s.longitude_left;
        obliquity_left = add_next (obliquity_term t) sum.obliquity _ i r h e q ∙ s.obliquity_left;
        longitude_size = size_next sum.longitude _ _ i s.longitude_size (longitude_small t r ht k) p;
        obliquity_size = size_next sum.obliquity _ _ i s.obliquity_size (obliquity_small t r ht k) q;
      }

none_left : (term : Row → ℤ) (s : ℤ) → add_up term s (drop row_count rows) ≡ s
unfolding add_up rows
none_left term s = refl

pub summed_all : (t : ℤ) (sum : Nutation) (i : ℕ) → Summed t sum i → row_count ≤ i → NutationAt t sum
summed_all t sum i s h = record {
  longitude_is = all (longitude_term t) sum.longitude ∙ s.longitude_left;
  obliquity_is = all (obliquity_term t) sum.obliquity ∙ s.obliquity_left;
  longitude_small = (summed_room t sum i s).0;
  obliquity_small = (summed_room t sum i s).1;
}
  where
    end : i ≡ row_count
    end = omega (arith, s.within)

    all : (term : Row → ℤ) (z : ℤ) → z ≡ add_up term z (drop i rows)
    all term z = sym (ap (λ (n : ℕ). add_up term z (drop n rows)) end ∙ none_left term z)
