-- One table of a piece: a term stored, the sum of the places filled, how large it can be. Assumes nothing.
use mathlib.Core.Path.{◌≡◌, refl, sym, ap, ap₂, ◌∙◌, subst}
use mathlib.Core.List.{List}
use Prim.Native.Nat.{ℕ, zero, suc, ◌+◌, ◌*◌, ◌^◌, ◌≤◌, ◌<◌}
use native.Mathlib.Numerals.{add-one}
use native.Mathlib.Decide.{ℕ_discrete}
use native.Mathlib.Omega.{arith}
use lib.IntN.{ℤ, pos, nat_abs, ◌+ℤ◌, +ℤ_assoc, +ℤ_idr}
use lib.ListN.{length, set, length-set}
use lib.Seq.{get_or-set_same, get_or-set_other}
use mir.Syntax.{w64}
use mir.Val.{SFits}
use Rattle.integers.proofs.Order.{nat_abs-+}
use Rattle.arith.proofs.Cells.{Cell, cell}
use Rattle.units.specs.Units.{a_limit}
use Rattle.cosine.specs.Machine.Parity.{InRange}
use Rattle.pieces.specs.declared.Placed.{Placed}
use Rattle.pieces.specs.Machine.Parted.{room, placed_at, half_sum, Small, Half, Closed}
use Rattle.pieces.proofs.Adding.{cells_fit, cells_are}

module _ (f : ℤ → ℕ → ℤ) where
  abbrev value : Placed → ℤ
  value x = f x.a x.v

  -- ---- the sum

  sum_one : (xs : List Placed) (n : ℕ) → half_sum f xs (n + 1) ≡ half_sum f xs n +ℤ value (placed_at xs n)
  unfolding half_sum
  sum_one xs n = rw add-one

  sum_two : (xs : List Placed) (n : ℕ) →
      half_sum f xs (n + 2) ≡ half_sum f xs n +ℤ (value (placed_at xs n) +ℤ value (placed_at xs (n + 1)))
  sum_two xs n =
      let e : n + 2 ≡ n + 1 + 1 = omega arith in
      ap (λ (m : ℕ). half_sum f xs m) e ∙ sum_one xs (n + 1)
      ∙ ap (λ (x : ℤ). x +ℤ value (placed_at xs (n + 1))) (sum_one xs n)
      ∙ +ℤ_assoc (half_sum f xs n) (value (placed_at xs n)) (value (placed_at xs (n + 1)))

  -- a store at place k, past those summed
  pub sum_same : (xs : List Placed) (k : ℕ) (x : Placed) (n : ℕ) → n ≤ k → half_sum f (set xs k x) n ≡ half_sum f xs n
  unfolding half_sum
  sum_same xs k x zero h = refl
  sum_same xs k x (suc n) h =
      ap₂ ◌+ℤ◌ (sum_same xs k x n (omega arith)) (ap value (get_or-set_other xs k n x _ (λ e. omega (arith, e))))

  sum_more : (xs : List Placed) (n : ℕ) (x : Placed) → n < length xs → half_sum f (set xs n x) (n + 1) ≡ half_sum f xs n +ℤ value x
  sum_more xs n x h =
      sum_one (set xs n x) n ∙ ap₂ ◌+ℤ◌ (sum_same xs n x n (omega arith)) (ap value (get_or-set_same xs n x _ h))

  -- ---- the places filled

  pub half_none : (xs : List Placed) → length xs ≡ room → Half f xs 0
  half_none xs h = record { size = h; few = omega arith; each = λ k l. absurd (omega (arith, l)) }

  pub half_less : (xs : List Placed) (m n : ℕ) → m ≤ n → Half f xs n → Half f xs m
  half_less xs m n h p = record { size = p.size; few = let l = p.few in omega arith; each = λ k l. p.each k (omega (arith, l)) }

  module _ (xs : List Placed) (n : ℕ) (p : Half f xs n) (x : Placed) (h : n < room) where
    kept : (k : ℕ) → k < n → Small f (placed_at (set xs n x) k).a (placed_at (set xs n x) k).v
    kept k l = rw (get_or-set_other xs n k x (record { a = pos 0; v = 0 }) (λ e. omega (arith, e))) (p.each k l)

    pub half_same : Half f (set xs n x) n
    half_same = record { size = length-set xs n x ∙ p.size; few = p.few; each = kept }

    pub sum_stored : half_sum f (set xs n x) (n + 1) ≡ half_sum f xs n +ℤ value x
    sum_stored = let y = p.size in sum_more xs n x (omega arith)

    pub half_more : Small f x.a x.v → Half f (set xs n x) (n + 1)
    half_more s = record {
      size = length-set xs n x ∙ p.size;
      few = omega arith;
      each = λ k l. at k l (ℕ_discrete k n);
    }
      where
        here : Small f (placed_at (set xs n x) n).a (placed_at (set xs n x) n).v
        here = let y = p.size in rw (get_or-set_same xs n x (record { a = pos 0; v = 0 }) (omega arith)) s

        at : (k : ℕ) → k < n + 1 → Dec (k ≡ n) → Small f (placed_at (set xs n x) k).a (placed_at (set xs n x) k).v
        at k l (yes e) = subst (λ (k : ℕ). Small f (placed_at (set xs n x) k).a (placed_at (set xs n x) k).v) (sym e) here
        at k l (no e) = kept k (below k n l e)
          where
            below : (k n : ℕ) → k < n + 1 → (k ≡ n → ⊥) → k < n
            below k n l e = omega (arith, e)

    -- past the terms, a value of 0
    pub half_closed : Small f x.a x.v → value x ≡ pos 0 → Closed f (set xs n x) n
    half_closed s e = record {
      filled = half_more s;
      past = sum_stored ∙ ap (λ (z : ℤ). half_sum f xs n +ℤ z) e ∙ +ℤ_idr (half_sum f xs n) ∙ sym (sum_same xs n x n (omega arith));
    }

  -- ---- how large

  half_size : (xs : List Placed) (n : ℕ) → Half f xs n → nat_abs (half_sum f xs n) ≤ n * a_limit
  unfolding half_sum
  half_size xs zero p = omega arith
  half_size xs (suc n) p =
      let s = half_size xs n (half_less xs n (suc n) (omega arith) p) in
      let v = (p.each n (omega arith)).value_below in
      omega (arith, nat_abs-+ (half_sum f xs n) (value (placed_at xs n)))

  pub half_below : (xs : List Placed) (n : ℕ) → Half f xs n → (sum : ℤ) → sum ≡ half_sum f xs n → nat_abs sum ≤ room * a_limit
  half_below xs n p sum e = subst (λ (x : ℤ). nat_abs x ≤ room * a_limit) (sym e) (let s = half_size xs n p in let l = p.few in omega arith)

  -- pairs end at the last term or one past it
  pub half_all : (xs : List Placed) (n : ℕ) → Closed f xs n → (sum : ℤ) (i : ℕ) → i ≤ n + 1 → sum ≡ half_sum f xs i → n ≤ i →
      sum ≡ half_sum f xs n
  half_all xs n p sum i h e k = e ∙ end (ℕ_discrete i n)
    where
      end : Dec (i ≡ n) → half_sum f xs i ≡ half_sum f xs n
      end (yes q) = ap (half_sum f xs) q
      end (no q) = ap (half_sum f xs) (next i n h k q) ∙ p.past
        where
          next : (i n : ℕ) → i ≤ n + 1 → n ≤ i → (i ≡ n → ⊥) → i ≡ n + 1
          next i n h k q = omega (arith, q)

module _ (f : ℤ → ℕ → ℤ) (xs : List Placed) (i : ℕ) (p : Half f xs (i + 2)) where
  -- ---- two terms more

  abbrev a : ℤ
  a = (placed_at xs i).a

  abbrev b : ℤ
  b = (placed_at xs (i + 1)).a

  abbrev v : ℕ
  v = (placed_at xs i).v

  abbrev w : ℕ
  w = (placed_at xs (i + 1)).v

  first : Small f a v
  first = p.each i (omega arith)

  second : Small f b w
  second = p.each (i + 1) (omega arith)

  a_cell : Cell a ≡ a
  a_cell = cell a (let s = first.a_below in omega arith)

  b_cell : Cell b ≡ b
  b_cell = cell b (let s = second.a_below in omega arith)

  pub two_asks : (nat_abs (Cell a) < a_limit) × (nat_abs (Cell b) < a_limit) × InRange v × InRange w
  two_asks = rw (a_cell, b_cell) (first.a_below, second.a_below, first.v_within, second.v_within)

  module _ (sum z : ℤ) (es : sum ≡ half_sum f xs i) (ez : z ≡ f (Cell a) v +ℤ f (Cell b) w) where
    z_is : z ≡ f a v +ℤ f b w
    z_is = ez ∙ ap₂ (λ (x y : ℤ). f x v +ℤ f y w) a_cell b_cell

    z_size : nat_abs z < 2 * a_limit
    z_size = subst (λ (x : ℤ). nat_abs x < 2 * a_limit) (sym z_is)
        (let s = first.value_below in let t = second.value_below in omega (arith, nat_abs-+ (f a v) (f b w)))

    sum_size : nat_abs sum ≤ room * a_limit
    sum_size = half_below f xs i (half_less f xs i (i + 2) (omega arith) p) sum es

    two_small : nat_abs sum + nat_abs z < 2 ^ 63
    two_small = let s = sum_size in let t = z_size in omega arith

    pub two_fit : SFits w64 (Cell sum +ℤ Cell z)
    two_fit = cells_fit sum z two_small

    pub two_are : (r : ℤ) → r ≡ Cell sum +ℤ Cell z → Cell r ≡ half_sum f xs (i + 2)
    two_are r e = cells_are sum z two_small r e ∙ ap₂ ◌+ℤ◌ es z_is ∙ sym (sum_two f xs i)
