-- A count and a term that pass their tests, and the orders that the tests stand for: each from the other. Assumes nothing.
use mathlib.Core.Path.{◌≡◌, refl}
use mathlib.Core.Bool.{Bool, true, false, cond, ◌&&◌}
use Prim.Native.Nat.{ℕ, ◌+◌, ◌≤◌, ◌<◌}
use native.Mathlib.Omega.{arith}
use borrow.Author.Tests.{lt-ltb, le-leb, ltb-true, leb-true}
use lib.Dec.{leb}
use lib.IntN.{ℤ, nat_abs}
use Rattle.integers.proofs.Tests.{both}
use Rattle.units.specs.Units.{a_limit, b_limit, c_limit, block_limit, series_limit, total_limit, coarse_limit}
use Rattle.limits.specs.declared.Term.{Term}
use Rattle.limits.specs.declared.Tally.{Tally}
use Rattle.units.specs.Refusals.{over_limit, total_over_limit, too_coarse}
use Rattle.limits.specs.Limits.{weight, count_fits, a_fits, b_fits, c_fits, total_fits, coarse_fits, term_may_come, numbers_fit, term_refusal}

-- A count.
pub record GoodCount (s : Tally) (n : ℕ) : Type 0 where
  pub few : n ≤ block_limit
  pub fewer : s.terms + n ≤ series_limit

pub count_passed : (s : Tally) (n : ℕ) → count_fits s n ≡ true → GoodCount s n
unfolding count_fits
count_passed s n e =
    let b = both (leb n block_limit) (leb (s.terms + n) series_limit) e in
    record { few = leb-true _ _ b.0; fewer = leb-true _ _ b.1 }

pub count_passes : (s : Tally) (n : ℕ) → GoodCount s n → count_fits s n ≡ true
unfolding count_fits
count_passes s n g = rw (le-leb n block_limit g.few, le-leb (s.terms + n) series_limit g.fewer)

-- A term, in a block with factor f after the tally s.
pub record GoodA (s : Tally) (a : ℤ) : Type 0 where
  pub small : nat_abs a < a_limit
  pub total : s.total + nat_abs a ≤ total_limit

pub record GoodC (f : ℕ) (s : Tally) (a : ℤ) (b : ℕ) (c : ℤ) : Type 0 where
  pub small : nat_abs c < c_limit
  pub coarse : s.coarse + weight f a b c ≤ coarse_limit

pub record GoodTerm (f : ℕ) (s : Tally) (t : Term) : Type 0 where
  pub good_a : GoodA s t.a
  pub good_b : t.b < b_limit
  pub good_c : GoodC f s t.a t.b t.c

-- The tests that it passes.
pub record Passes (f : ℕ) (s : Tally) (t : Term) : Type 0 where
  pub a : a_fits t.a ≡ true
  pub total : total_fits s t.a ≡ true
  pub b : b_fits t.b ≡ true
  pub c : c_fits t.c ≡ true
  pub coarse : coarse_fits f s t.a t.b t.c ≡ true

module _ (f : ℕ) (s : Tally) (t : Term) where
  pub good_of : Passes f s t → GoodTerm f s t
  unfolding a_fits b_fits c_fits total_fits coarse_fits
  good_of p =
      record {
        good_a = record { small = ltb-true _ _ p.a; total = leb-true _ _ p.total };
        good_b = ltb-true _ _ p.b;
        good_c = record { small = ltb-true _ _ p.c; coarse = leb-true _ _ p.coarse };
      }

  pub passes_of : GoodTerm f s t → Passes f s t
  unfolding a_fits b_fits c_fits total_fits coarse_fits
  passes_of g =
      record {
        a = lt-ltb _ _ g.good_a.small;
        total = le-leb _ _ g.good_a.total;
        b = lt-ltb _ _ g.good_b;
        c = lt-ltb _ _ g.good_c.small;
        coarse = le-leb _ _ g.good_c.coarse;
      }

  -- All of them at once.
  pub all_passed : term_may_come f s t ≡ true → Passes f s t
  unfolding term_may_come
  all_passed e =
      let p = both (a_fits t.a) _ e in
      let q = both (total_fits s t.a) _ p.1 in
      let r = both (b_fits t.b) _ q.1 in
      let u = both (c_fits t.c) _ r.1 in
      record { a = p.0; total = q.0; b = r.0; c = u.0; coarse = u.1 }

  pub may_come_good : term_may_come f s t ≡ true → GoodTerm f s t
  may_come_good e = good_of (all_passed e)

  pub all_pass : Passes f s t → term_may_come f s t ≡ true
  unfolding term_may_come
  all_pass p = rw (p.a, p.total, p.b, p.c, p.coarse)

  -- The refusal 0.
  pub refused_not : Passes f s t → term_refusal f s t ≡ 0
  unfolding term_refusal numbers_fit
  refused_not p = rw (p.a, p.total, p.b, p.c, p.coarse)

  pub not_refused : term_refusal f s t ≡ 0 → Passes f s t
  unfolding term_refusal numbers_fit
  not_refused = go (a_fits t.a) refl (b_fits t.b) refl (c_fits t.c) refl (total_fits s t.a) refl (coarse_fits f s t.a t.b t.c) refl
    where
      go : (a : Bool) → a_fits t.a ≡ a → (b : Bool) → b_fits t.b ≡ b → (c : Bool) → c_fits t.c ≡ c → (u : Bool) → total_fits s t.a ≡ u
          → (w : Bool) → coarse_fits f s t.a t.b t.c ≡ w
          → ◌≡◌ {A = ℕ} (cond (a && (b && c)) (cond u (cond w 0 too_coarse) total_over_limit) over_limit) 0 → Passes f s t
      go true pa true pb true pc true pu true pw e = record { a = pa; total = pu; b = pb; c = pc; coarse = pw }
      go true pa true pb true pc true pu false pw e = absurd (omega arith)
      go true pa true pb true pc false pu w pw e = absurd (omega arith)
      go true pa true pb false pc u pu w pw e = absurd (omega arith)
      go true pa false pb c pc u pu w pw e = absurd (omega arith)
      go false pa b pb c pc u pu w pw e = absurd (omega arith)

-- The refusals that a term can have.
pub refusal_among : (P : ℕ → Type 0) → P 0 → P over_limit → P total_over_limit → P too_coarse
    → (f : ℕ) (s : Tally) (t : Term) → P (term_refusal f s t)
unfolding term_refusal
refusal_among P none over total coarse f s t = go (numbers_fit t) (total_fits s t.a) (coarse_fits f s t.a t.b t.c)
  where
    go : (n u w : Bool) → P (cond n (cond u (cond w 0 too_coarse) total_over_limit) over_limit)
    go true true true = none
    go true true false = coarse
    go true false w = total
    go false u w = over
