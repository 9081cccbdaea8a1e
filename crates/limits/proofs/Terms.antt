-- The terms of a block, judged one by one, and the limits of the block: each follows from the other. Assumes nothing.
use mathlib.Core.Path.{◌≡◌, refl, ◌∙◌}
use mathlib.Core.Bool.{Bool, true, false, cond}
use mathlib.Core.List.{List, [], ◌∷◌}
use Prim.Native.Nat.{ℕ, ◌+◌, ◌*◌, ◌≤◌}
use native.Mathlib.Nat.{mul-add}
use native.Mathlib.Omega.{arith}
use lib.IntN.{nat_abs}
use Rattle.units.specs.Units.{U, total_limit, coarse_share, coarse_limit}
use Rattle.limits.specs.declared.Term.{Term}
use Rattle.limits.specs.declared.Tally.{Tally}
use Rattle.limits.specs.Limits.{constant, weight, added, summed}
use Rattle.limits.specs.Allowed.{AllFit, none, more, total_of, moving_total, moving_count}
use Rattle.limits.proofs.Passing.{GoodTerm}

-- What a block adds to the coarseness sum, at factor f.
unfoldable pub burden : ℕ → List Term → ℕ
burden f ts = f * (coarse_share * moving_total ts + U * moving_count ts)

-- A term more.
pub burden_more : (f : ℕ) (t : Term) (ts : List Term) → burden f (t ∷ ts) ≡ weight f t.a t.b t.c + burden f ts
unfolding burden weight moving_total moving_count
burden_more f t ts = go (constant t.b t.c)
  where
    go : (b : Bool) → f * (coarse_share * (cond b 0 (nat_abs t.a) + moving_total ts) + U * (cond b 0 1 + moving_count ts))
        ≡ cond b 0 (f * (coarse_share * nat_abs t.a + U)) + f * (coarse_share * moving_total ts + U * moving_count ts)
    go true = omega arith
    go false = omega (arith, mul-add f (coarse_share * nat_abs t.a + U) (coarse_share * moving_total ts + U * moving_count ts))

-- Each term is good after the tally of those before it.
pub data GoodTerms (f : ℕ) : Tally → List Term → Type 0 where
  good_none : {s : Tally} → GoodTerms f s []
  good_term : {s : Tally} {t : Term} {ts : List Term} → GoodTerm f s t → GoodTerms f (added f s t) ts → GoodTerms f s (t ∷ ts)

pub terms_fit : {f : ℕ} {s : Tally} {ts : List Term} → GoodTerms f s ts → AllFit ts
terms_fit good_none = none
terms_fit (good_term g h) = more (record { a_below = g.good_a.small; b_below = g.good_b; c_below = g.good_c.small }) (terms_fit h)

-- The tally after terms.
pub summed_terms : (f : ℕ) (s : Tally) (ts : List Term) → (summed f s ts).terms ≡ s.terms
unfolding summed added
summed_terms f s [] = refl
summed_terms f s (t ∷ ts) = summed_terms f (added f s t) ts

pub summed_coarse : (f : ℕ) (s : Tally) (ts : List Term) → (summed f s ts).coarse ≡ s.coarse + burden f ts
unfolding summed added
summed_coarse f s [] = unfold burden moving_total moving_count in omega arith
summed_coarse f s (t ∷ ts) = rw (burden_more f t ts) (summed_coarse f (added f s t) ts ∙ omega arith)

pub summed_total : (f : ℕ) (s : Tally) (ts : List Term) → (summed f s ts).total ≡ s.total + total_of ts
unfolding summed added total_of
summed_total f s [] = omega arith
summed_total f s (t ∷ ts) = summed_total f (added f s t) ts ∙ omega arith

pub terms_total : {f : ℕ} {s : Tally} {ts : List Term} → GoodTerms f s ts → s.total ≤ total_limit → s.total + total_of ts ≤ total_limit
unfolding added total_of
terms_total good_none h = omega arith
terms_total (good_term g k) h = let r = terms_total k g.good_a.total in omega arith

pub terms_coarse : {f : ℕ} {s : Tally} {ts : List Term}
    → GoodTerms f s ts → s.coarse ≤ coarse_limit → s.coarse + burden f ts ≤ coarse_limit
unfolding added
terms_coarse good_none h = unfold burden moving_total moving_count in omega arith
terms_coarse {f} {s} {ts = t ∷ ts} (good_term g k) h = let r = terms_coarse k g.good_c.coarse in rw (burden_more f t ts) (omega arith)

-- And back: terms that fit, with a total and a coarseness that fit, are good one by one.
pub terms_good : (f : ℕ) (s : Tally) (ts : List Term)
    → AllFit ts → s.total + total_of ts ≤ total_limit → s.coarse + burden f ts ≤ coarse_limit → GoodTerms f s ts
unfolding added total_of
terms_good f s [] none p q = good_none
terms_good f s (t ∷ ts) (more w h) p q =
    let r : s.coarse + (weight f t.a t.b t.c + burden f ts) ≤ coarse_limit = rw (burden_more f t ts) at q in
    good_term {s = s} {t = t}
    (record {
      good_a = record { small = w.a_below; total = omega arith };
      good_b = w.b_below;
      good_c = record { small = w.c_below; coarse = omega arith };
    })
    (terms_good f (added f s t) ts h (omega arith) (omega arith))
