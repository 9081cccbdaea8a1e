-- A block's sum in pieces: what is summed and what is left are the block's sum. Assumes nothing.
use mathlib.Core.Path.{◌≡◌, refl, sym, ap, ◌∙◌, subst}
use mathlib.Core.List.{List, [], ◌∷◌, ◌++◌}
use Prim.Native.Nat.{ℕ, zero, suc, ◌+◌, ◌-◌, ◌^◌, min, ◌≤◌, ◌<◌}
use native.Mathlib.Omega.{arith}
use lib.IntN.{ℤ, pos, nat_abs, ◌+ℤ◌, +ℤ_assoc, +ℤ_idl, +ℤ_idr}
use lib.ListN.{length}
use Rattle.integers.proofs.Order.{nat_abs-+}
use Rattle.units.specs.Units.{a_limit, total_limit, series_limit}
use Rattle.cosine.specs.Terms.{term_value}
use Rattle.limits.specs.declared.Term.{Term}
use Rattle.limits.specs.Allowed.{TermFits, AllFit, none, more, BlockFits, total_of}
use Rattle.packed.specs.declared.table.Table.{Table}
use Rattle.packed.specs.Machine.Table.{term_at, terms_at}
use Rattle.pieces.specs.Sums.{block_sum}
use Rattle.pieces.specs.Machine.Parted.{piece_limit}
use Rattle.pieces.proofs.Sizes.{value_size, block_size}

-- ---- terms and more terms

sum_append : (t : ℤ) (xs ys : List Term) → block_sum t (xs ++ ys) ≡ block_sum t xs +ℤ block_sum t ys
unfolding block_sum
sum_append t [] ys = sym (+ℤ_idl (block_sum t ys))
sum_append t (x ∷ xs) ys =
    ap (λ (z : ℤ). term_value x.a x.b x.c t +ℤ z) (sum_append t xs ys)
    ∙ sym (+ℤ_assoc (term_value x.a x.b x.c t) (block_sum t xs) (block_sum t ys))

total_append : (xs ys : List Term) → total_of (xs ++ ys) ≡ total_of xs + total_of ys
unfolding total_of
total_append [] ys = omega arith
total_append (x ∷ xs) ys = let e = total_append xs ys in omega arith

first_fit : (xs ys : List Term) → AllFit (xs ++ ys) → AllFit xs
first_fit [] ys h = none
first_fit (x ∷ xs) ys (more h k) = more h (first_fit xs ys k)

rest_fit : (xs ys : List Term) → AllFit (xs ++ ys) → AllFit ys
rest_fit [] ys h = h
rest_fit (x ∷ xs) ys (more h k) = rest_fit xs ys k

module _ (rows : Table) where
  terms_append : (m n i : ℕ) → terms_at rows i (m + n) ≡ terms_at rows i m ++ terms_at rows (i + m) n
  unfolding terms_at
  terms_append zero n i = let e : 0 + n ≡ n = omega arith in let f : i + 0 ≡ i = omega arith in rw (e, f)
  terms_append (suc m) n i =
      let e : suc m + n ≡ suc (m + n) = omega arith in
      let f : i + suc m ≡ i + 1 + m = omega arith in
      rw (e, f) (ap (λ (xs : List Term). term_at rows i ∷ xs) (terms_append m n (i + 1)))

  terms_length : (n i : ℕ) → length (terms_at rows i n) ≡ n
  unfolding terms_at
  terms_length zero i = refl
  terms_length (suc n) i = ap suc (terms_length n (i + 1))

  one_term : (i : ℕ) → terms_at rows i (i + 1 - i) ≡ term_at rows i ∷ []
  unfolding terms_at
  one_term i = let e : i + 1 - i ≡ 1 = omega arith in rw e

-- ---- the pieces

-- sum is the sum of the terms before place i
pub record Summed (t : ℤ) (rows : Table) (from to : ℕ) (sum : ℤ) (i : ℕ) : Type 0 where
  pub within : i ≤ to
  pub space : to ≤ series_limit
  pub limits : AllFit (terms_at rows i (to - i))
  pub small : nat_abs sum + total_of (terms_at rows i (to - i)) ≤ total_limit
  pub left : sum +ℤ block_sum t (terms_at rows i (to - i)) ≡ block_sum t (terms_at rows from (to - from))

module _ {t : ℤ} {rows : Table} {from to : ℕ} where
  pub summed_none : from ≤ to → to ≤ series_limit → BlockFits (terms_at rows from (to - from)) → Summed t rows from to (pos 0) from
  summed_none h k b = record {
    within = h;
    space = k;
    limits = b.terms;
    small = let s = b.total in omega arith;
    left = zero_plus (block_sum t (terms_at rows from (to - from)));
  }
    where
      zero_plus : (x : ℤ) → pos 0 +ℤ x ≡ x
      zero_plus x = +ℤ_idl x

  module _ {sum : ℤ} {i : ℕ} (s : Summed t rows from to sum i) (j : ℕ) (h : i ≤ j) (k : j ≤ to) where
    abbrev piece : List Term
    piece = terms_at rows i (j - i)

    abbrev rest : List Term
    rest = terms_at rows j (to - j)

    cut : terms_at rows i (to - i) ≡ piece ++ rest
    cut = joined (to - i) (j - i) (to - j) j (omega arith) (omega arith)
      where
        joined : (m n r j : ℕ) → m ≡ n + r → j ≡ i + n → terms_at rows i m ≡ terms_at rows i n ++ terms_at rows j r
        joined m n r j e f = rw (e, f) (terms_append rows n r i)

    sizes : nat_abs sum + (total_of piece + total_of rest) ≤ total_limit
    sizes = let l = subst (λ (xs : List Term). nat_abs sum + total_of xs ≤ total_limit) cut s.small in let e = total_append piece rest in omega arith

    pub piece_fits : j ≤ i + piece_limit → BlockFits piece
    piece_fits l = record {
      few = let e = terms_length rows (j - i) i in omega arith;
      terms = first_fit piece rest (subst AllFit cut s.limits);
      total = let z = sizes in omega arith;
    }

    module _ (v : ℤ) (e : v ≡ block_sum t piece) where
      size : nat_abs sum + (nat_abs v + total_of rest) ≤ total_limit
      size = let l = sizes in let m = subst (λ (x : ℤ). nat_abs x ≤ total_of piece) (sym e) (block_size t piece) in omega arith

      pub sum_small : nat_abs sum + nat_abs v < 2 ^ 63
      sum_small = let l = size in omega arith

      pub summed_piece : Summed t rows from to (sum +ℤ v) j
      summed_piece = record {
        within = k;
        space = s.space;
        limits = rest_fit piece rest (subst AllFit cut s.limits);
        small = let l = size in let n = nat_abs-+ sum v in omega arith;
        left =
            ap (λ (x : ℤ). sum +ℤ x +ℤ block_sum t rest) e
            ∙ +ℤ_assoc sum (block_sum t piece) (block_sum t rest)
            ∙ ap (λ (x : ℤ). sum +ℤ x) (sym (ap (block_sum t) cut ∙ sum_append t piece rest)) ∙ s.left;
      }

  -- a piece of one term
  module _ {sum : ℤ} {i : ℕ} (s : Summed t rows from to sum i) (h : i < to) where
    abbrev x : Term
    x = term_at rows i

    pub term_fits : TermFits x
    term_fits = only (subst AllFit (one_term rows i) (piece_fits s (i + 1) (omega arith) (omega arith) (omega arith)).terms)
      where
        only : {x : Term} → AllFit (x ∷ []) → TermFits x
        only (more h k) = h

    pub value_below : nat_abs (term_value x.a x.b x.c t) < a_limit
    value_below = let l = term_fits.a_below in let m = value_size x.a x.b x.c t in omega arith

    pub summed_term : Summed t rows from to (sum +ℤ term_value x.a x.b x.c t) (i + 1)
    unfolding block_sum
    summed_term =
        summed_piece s (i + 1) (omega arith) (omega arith) (term_value x.a x.b x.c t)
        (sym (ap (block_sum t) (one_term rows i) ∙ one (term_value x.a x.b x.c t)))
      where
        one : (x : ℤ) → x +ℤ pos 0 ≡ x
        one x = +ℤ_idr x

  pub summed_all : {sum : ℤ} {i : ℕ} → Summed t rows from to sum i → to ≤ i → sum ≡ block_sum t (terms_at rows from (to - from))
  summed_all {sum} {i} s h = sym (no_more sum) ∙ s.left
    where
      none_left : terms_at rows i (to - i) ≡ []
      none_left = ap (λ (n : ℕ). terms_at rows i n) (zero_left to i h) ∙ unfold terms_at in refl
        where
          zero_left : (to i : ℕ) → to ≤ i → to - i ≡ 0
          zero_left to i h = omega arith

      no_more : (x : ℤ) → x +ℤ block_sum t (terms_at rows i (to - i)) ≡ x
      no_more x = ap (λ (xs : List Term). x +ℤ block_sum t xs) none_left ∙ unfold block_sum in +ℤ_idr x

  -- a step may go past the end
  pub summed_at : {sum : ℤ} {i : ℕ} → i < to → Summed t rows from to sum (min i to) → Summed t rows from to sum i
  summed_at {sum} {i} h s = subst (λ (k : ℕ). Summed t rows from to sum k) (least i to h) s
    where
      least : (i n : ℕ) → i < n → min i n ≡ i
      least i n h = omega arith

  pub summed_past : {sum : ℤ} {i : ℕ} → to ≤ i → Summed t rows from to sum (min i to) → sum ≡ block_sum t (terms_at rows from (to - from))
  summed_past {sum} {i} h s = summed_all s (least i to h)
    where
      least : (i n : ℕ) → n ≤ i → n ≤ min i n
      least i n h = omega arith

  pub summed_end : {sum : ℤ} {j : ℕ} (i : ℕ) → j ≡ min i to → Summed t rows from to sum j → Summed t rows from to sum (min i to)
  summed_end {sum} i e s = subst (λ (k : ℕ). Summed t rows from to sum k) e s
