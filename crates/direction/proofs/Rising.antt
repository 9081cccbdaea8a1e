-- From 0 to a quarter turn the working sine never falls and the working cosine never rises. Assumes nothing.
use mathlib.Core.Path.{◌≡◌, ap, subst}
use mathlib.Core.List.{List, [], ◌∷◌}
use Prim.Native.Nat.{ℕ, ◌*◌, ◌/◌, ◌≤◌, ◌<◌}
use native.Mathlib.Omega.{arith}
use lib.Dec.{le→leb, lit<, lit≤}
use lib.IntN.{ℤ, pos, ◌+ℤ◌, ◌-ℤ◌, ◌*ℤ◌, neg_ℤ}
use lib.Signed.{≤ℤ_refl}
use Rattle.integers.specs.Order.{◌≼◌}
use Rattle.integers.specs.Division.{rounded}
use Rattle.integers.proofs.Pairs.{nonneg}
use Rattle.integers.proofs.Auto.{ring!, cert!, polys, gap, gap<, ◌⊞◌, ◌⊛◌, ◌·◌}
use Rattle.integers.proofs.Division.{rounded_low, rounded_high}
use Rattle.integers.proofs.Rounding.{rounded_le, rounded_mono, rounded_zero}
use Rattle.units.specs.Units.{U, quarter, angle_step}
use Rattle.cosine.specs.Cosine.{horner, y_of, even_part, odd_part, evens, odds}

-- ---- the Horner values fall as y rises, by no more than y rises
-- y and y', y the lower one, and a Horner value at each
pub record Falls (y y' h h' : ℤ) : Type 0 where
  pub falls : h' ≼ h
  pub slow : h ≼ h' +ℤ (y' -ℤ y)
  pub least : y' ≼ h'
  pub most : h ≼ pos U

-- no y is greater: w_most·w_most/U is 616,850,275, here rounded up
abbrev y_most : ℕ
y_most = 620000000

abbrev AllDivide : List ℕ → Type 0
AllDivide [] = Unit
AllDivide (d ∷ ds) = (2 ≤ d) × AllDivide ds

abbrev odds_tail : List ℕ
odds_tail = 4 * 5 ∷ 6 * 7 ∷ 8 * 9 ∷ 10 * 11 ∷ 12 * 13 ∷ []

odds_divide : AllDivide odds_tail
odds_divide = (lit≤ tt, (lit≤ tt, (lit≤ tt, (lit≤ tt, (lit≤ tt, tt)))))

evens_divide : AllDivide evens
evens_divide = (lit≤ tt, (lit≤ tt, (lit≤ tt, (lit≤ tt, (lit≤ tt, (lit≤ tt, tt))))))

module _ (y y' : ℤ) (hy : pos 0 ≼ y) (le : y ≼ y') (hy' : y' ≼ pos y_most) where
  product_le : (h h' : ℤ) → Falls y y' h h' → y *ℤ h ≼ y' *ℤ h'
  product_le h h' f =
      cert! (y ∷ y' ∷ h ∷ h' ∷ []) 0 ((hy ⊞ gap le) ⊛ gap f.slow ⊞ gap le ⊛ (gap f.falls ⊞ gap f.least)) (search polys depth 60 fits 100000) tt

  product_slow : (d : ℕ) (h h' : ℤ) → pos 1 ≼ pos d → Falls y y' h h' → y' *ℤ h' ≼ pos (U * d) *ℤ (y' -ℤ y) +ℤ y *ℤ h
  product_slow d h h' hd f =
      cert! (y ∷ y' ∷ h ∷ h' ∷ pos d ∷ []) 0 ((hy ⊞ gap le) ⊛ gap f.falls ⊞ gap le ⊛ gap f.most ⊞ U · (gap hd ⊛ gap le))
      (search polys depth 60 fits 100000) tt

  -- one step, with a divisor of 2 or more
  next_falls : (d : ℕ) (h h' : ℤ) → 2 ≤ d → pos 2 ≼ pos d → Falls y y' h h'
      → Falls y y' (pos U -ℤ rounded (y *ℤ h) (U * d)) (pos U -ℤ rounded (y' *ℤ h') (U * d))
  next_falls d h h' hd hd' f =
      let positive : 0 < U * d = omega arith in
      let r = rounded (y *ℤ h) (U * d) in
      let r' = rounded (y' *ℤ h') (U * d) in
      let a = rounded_mono (y *ℤ h) (y' *ℤ h') (U * d) positive (product_le h h' f) in
      let b = rounded_le (y' *ℤ h') (y *ℤ h) (y' -ℤ y) (U * d) positive
      (product_slow d h h' (cert! (pos d ∷ []) 0 (gap hd') (search polys depth 60 fits 100000) tt) f) in
      let top : y' *ℤ h' ≼ pos (U * d) *ℤ (pos U -ℤ y') +ℤ pos 0 =
      cert! (y ∷ y' ∷ h ∷ h' ∷ pos d ∷ []) 0
      (U · (gap hd' ⊛ (gap hy' ⊞ nonneg 380000000)) ⊞ (3 * U) · gap hy' ⊞ (hy ⊞ gap le) ⊛ (gap f.most ⊞ gap f.falls))
      (search polys depth 60 fits 100000) tt in
      let l = rounded_le (y' *ℤ h') (pos 0) (pos U -ℤ y') (U * d) positive top in
      let bottom : pos 0 ≼ pos (U * d) *ℤ pos 0 +ℤ y *ℤ h =
      cert! (y ∷ y' ∷ h ∷ h' ∷ pos d ∷ []) 0 (hy ⊛ (hy ⊞ gap le ⊞ gap f.least ⊞ gap f.falls)) (search polys depth 60 fits 100000) tt in
      let m = rounded_le (pos 0) (y *ℤ h) (pos 0) (U * d) positive bottom in
      record {
        falls = cert! (r ∷ r' ∷ []) 0 (gap a) (search polys depth 60 fits 100000) tt;
        slow = cert! (y ∷ y' ∷ r ∷ r' ∷ []) 0 (gap b) (search polys depth 60 fits 100000) tt;
        least = cert! (y' ∷ r' ∷ []) 0 (gap (subst (λ t. r' ≼ pos U -ℤ y' +ℤ t) (rounded_zero (U * d) positive) l)) (search polys depth 60 fits 100000) tt;
        most = cert! (r ∷ []) 0 (gap (subst (λ t. t ≼ pos 0 +ℤ r) (rounded_zero (U * d) positive) m)) (search polys depth 60 fits 100000) tt;
      }

  -- every divisor is 2 or more
  horner_falls : (ds : List ℕ) → AllDivide ds → Falls y y' (horner y ds) (horner y' ds)
  unfolding horner
  horner_falls [] g = record {
    falls = ≤ℤ_refl (pos U);
    slow = cert! (y ∷ y' ∷ []) 0 (gap le) (search polys depth 60 fits 100000) tt;
    least = cert! (y' ∷ []) 0 (gap hy') (search polys depth 60 fits 100000) tt;
    most = ≤ℤ_refl (pos U);
  }
  horner_falls (d ∷ ds) g = next_falls d (horner y ds) (horner y' ds) g.0 (record { le = le→leb 2 d g.0 }) (horner_falls ds g.1)

  -- the value of the odd part falls by at most a sixth of what y rises, rounded up, and stays above every w
  odd_slow : pos 6 *ℤ (horner y odds -ℤ horner y' odds) ≼ y' -ℤ y +ℤ pos 5
  unfolding horner
  odd_slow =
      let h = horner y odds_tail in
      let h' = horner y' odds_tail in
      let f = horner_falls odds_tail odds_divide in
      let r = rounded (y *ℤ h) (U * 6) in
      let r' = rounded (y' *ℤ h') (U * 6) in
      cert! (y ∷ y' ∷ h ∷ h' ∷ r ∷ r' ∷ []) 1999999999
      (gap (rounded_low (y' *ℤ h') (U * 6) (lit< tt)) ⊞ gap< (rounded_high (y *ℤ h) (U * 6) (lit< tt)) ⊞ 2 · ((hy ⊞ gap le) ⊛ gap f.falls)
      ⊞ 2 · (gap le ⊛ gap f.most)) (search polys depth 60 fits 100000) tt

  odd_least : pos 790000000 ≼ horner y' odds
  unfolding horner
  odd_least =
      let h' = horner y' odds_tail in
      let f = horner_falls odds_tail odds_divide in
      let l = rounded_le (y' *ℤ h') (pos 0) (pos 210000000) (U * 6) (lit< tt)
      (cert! (y ∷ y' ∷ horner y odds_tail ∷ h' ∷ []) 0 ((hy ⊞ gap le) ⊛ (gap f.most ⊞ gap f.falls) ⊞ U · gap hy')
      (search polys depth 60 fits 100000) tt) in
      cert! (rounded (y' *ℤ h') (U * 6) ∷ []) 0 (gap (subst (λ t. rounded (y' *ℤ h') (U * 6) ≼ pos 210000000 +ℤ t) (rounded_zero (U * 6) (lit< tt)) l))
      (search polys depth 60 fits 100000) tt

-- ---- the parts, as w rises, to the greatest w of a quarter: half of it, rounded
abbrev pub w_most : ℕ
w_most = quarter / (2 * angle_step)

pub y_neg : (w : ℤ) → y_of (neg_ℤ w) ≡ y_of w
unfolding y_of
y_neg w = ap (λ t. rounded t U) (ring! (w ∷ []) (search polys depth 60 fits 100000) tt)

module _ (w w' : ℤ) (hw : pos 0 ≼ w) (le : w ≼ w') (hw' : w' ≼ pos w_most) where
  y_least : pos 0 ≼ y_of w
  unfolding y_of
  y_least =
      let l = rounded_le (pos 0) (w *ℤ w) (pos 0) U (lit< tt) (cert! (w ∷ []) 0 (hw ⊛ hw) (search polys depth 60 fits 100000) tt) in
      cert! (rounded (w *ℤ w) U ∷ []) 0 (gap (subst (λ t. t ≼ pos 0 +ℤ rounded (w *ℤ w) U) (rounded_zero U (lit< tt)) l)) (search polys depth 60 fits 100000) tt

  y_rises : y_of w ≼ y_of w'
  unfolding y_of
  y_rises = rounded_mono (w *ℤ w) (w' *ℤ w') U (lit< tt) (cert! (w ∷ w' ∷ []) 0 (gap le ⊛ (hw ⊞ hw ⊞ gap le)) (search polys depth 60 fits 100000) tt)

  y_top : y_of w' ≼ pos y_most
  unfolding y_of
  y_top =
      cert! (w ∷ w' ∷ rounded (w' *ℤ w') U ∷ []) 1999999999
      (gap (rounded_low (w' *ℤ w') U (lit< tt)) ⊞ 2 · (gap hw' ⊛ (hw ⊞ gap le)) ⊞ (2 * w_most) · gap hw') (search polys depth 60 fits 100000) tt

  y_slow : y_of w' -ℤ y_of w ≼ pos 2 *ℤ (w' -ℤ w)
  unfolding y_of
  y_slow =
      cert! (w ∷ w' ∷ rounded (w *ℤ w) U ∷ rounded (w' *ℤ w') U ∷ []) 1999999999
      (gap (rounded_low (w' *ℤ w') U (lit< tt)) ⊞ gap< (rounded_high (w *ℤ w) U (lit< tt)) ⊞ 4 · (gap le ⊛ gap hw') ⊞ 2 · (gap le ⊛ gap le)
      ⊞ 858407348 · gap le) (search polys depth 60 fits 100000) tt

  pub even_falls : even_part w' ≼ even_part w
  unfolding even_part
  even_falls = (horner_falls (y_of w) (y_of w') y_least y_rises y_top evens evens_divide).falls

  odd_product : w *ℤ horner (y_of w) odds ≼ w' *ℤ horner (y_of w') odds
  odd_product =
      let y = y_of w in
      let y' = y_of w' in
      let h = horner y odds in
      let h' = horner y' odds in
      let s = odd_slow y y' y_least y_rises y_top in
      let l = odd_least y y' y_least y_rises y_top in
      let e : h -ℤ h' ≼ w' -ℤ w = cert! (w ∷ w' ∷ y ∷ y' ∷ h ∷ h' ∷ []) 5 (gap s ⊞ gap y_slow ⊞ 4 · gap le) (search polys depth 60 fits 100000) tt in
      cert! (w ∷ w' ∷ h ∷ h' ∷ []) 0 (hw ⊛ gap e ⊞ gap le ⊛ (gap l ⊞ gap hw' ⊞ gap le ⊞ nonneg 4601837)) (search polys depth 60 fits 100000) tt

  pub odd_rises : odd_part w ≼ odd_part w'
  unfolding odd_part
  odd_rises = rounded_mono _ _ U (lit< tt) odd_product

  pub odd_rises⁻ : odd_part (neg_ℤ w') ≼ odd_part (neg_ℤ w)
  unfolding odd_part
  odd_rises⁻ =
      rounded_mono _ _ U (lit< tt)
      (rw (y_neg w, y_neg w') (cert! (w ∷ w' ∷ horner (y_of w) odds ∷ horner (y_of w') odds ∷ []) 0 (gap odd_product) (search polys depth 60 fits 100000) tt))
