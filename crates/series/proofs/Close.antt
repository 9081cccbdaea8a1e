-- How far x·p/q is from a fraction f, in units of 1/(2U), and how that adds up over terms, blocks and the running sum. Assumes nothing.
use mathlib.Core.Path.{◌≡◌, refl, sym, ap, ◌∙◌, subst}
use mathlib.Core.List.{[], ◌∷◌}
use Prim.Native.Nat.{ℕ, zero, suc, ◌*◌, ◌^◌, ◌<◌}
use native.Mathlib.Omega.{pow_step}
use native.Mathlib.Nat.{pow-zero}
use lib.Dec.{lt→ltb}
use lib.IntN.{ℤ, pos, ◌+ℤ◌, ◌-ℤ◌, ◌*ℤ◌}
use Rattle.integers.specs.Order.{◌≼◌, ◌≺◌}
use Rattle.integers.specs.Fractions.{Fraction, ◌*ᶠ◌, ◌+ᶠ◌, wholeᶠ, overᶠ, powerᶠ}
use Rattle.integers.proofs.Auto.{polys, ring!, cert!, ◌⊛◌}
use Rattle.integers.proofs.Pairs.{nonneg}
use Rattle.integers.proofs.Order.{≺-≼, product_pos}
use Rattle.integers.proofs.Bounds.{Bd, bd-*, bd-+, bd_self, bd_as, bd_cancel}

-- 2U·|x·p/q − f| is at most m
pub record Close (U m p q x : ℤ) (f : Fraction) : Type 0 where
  pub lower : pos 0 ≺ f.lower
  pub bound : Bd (m *ℤ (q *ℤ f.lower)) (pos 2 *ℤ U *ℤ (x *ℤ p *ℤ f.lower -ℤ f.upper *ℤ q))

pub close_zero : (U p q : ℤ) → Close U (pos 0) p q (pos 0) (wholeᶠ (pos 0))
close_zero U p q = record {
  lower = record { lt = tt };
  bound = record {
    low = cert! (U ∷ p ∷ q ∷ []) 0 (nonneg 0) (search polys depth 60 fits 100000) tt;
    high = cert! (U ∷ p ∷ q ∷ []) 0 (nonneg 0) (search polys depth 60 fits 100000) tt;
  };
}

pub close-+ : (U m n p q x y : ℤ) (f g : Fraction) → Close U m p q x f → Close U n p q y g → Close U (m +ℤ n) p q (x +ℤ y) (f +ᶠ g)
unfolding ◌+ᶠ◌
close-+ U m n p q x y f g h k =
    let a = bd-* _ g.lower _ g.lower h.bound (bd_self g.lower (≺-≼ k.lower)) in
    let b = bd-* _ f.lower _ f.lower k.bound (bd_self f.lower (≺-≼ h.lower)) in
    record {
      lower = product_pos f.lower g.lower h.lower k.lower;
      bound =
          bd_as _ _ _ _
          (ring! (m ∷ n ∷ q ∷ f.lower ∷ g.lower ∷ []) (search polys depth 60 fits 100000) tt)
          (ring! (U ∷ p ∷ q ∷ x ∷ y ∷ f.upper ∷ f.lower ∷ g.upper ∷ g.lower ∷ []) (search polys depth 60 fits 100000) tt)
          (bd-+ _ _ _ _ a b);
    }

-- A term: x is a·c/U rounded, c/U within N/U of z, |a| at most A, |p/q| at most w
pub close_term : (U N A w p q a c x : ℤ) (z : Fraction) → pos 0 ≺ q → pos 0 ≺ z.lower → pos 0 ≼ N → Bd (w *ℤ q) p → Bd A a → Bd U (pos 2 *ℤ (U *ℤ x -ℤ a *ℤ c))
    → Bd (N *ℤ z.lower) (c *ℤ z.lower -ℤ U *ℤ z.upper)
    → Close U (w *ℤ (pos 2 *ℤ N *ℤ A +ℤ U)) p q x (wholeᶠ a *ᶠ record { upper = p; lower = q } *ᶠ z)
unfolding ◌*ᶠ◌
close_term U N A w p q a c x z hq hz hN hp ha hx hc =
    let e = bd-+ _ _ _ _ (bd-* _ z.lower _ z.lower hx (bd_self z.lower (≺-≼ hz)))
    (bd-* (pos 2) _ (pos 2) _ (bd_self (pos 2) (nonneg 2)) (bd-* A _ a _ ha hc)) in
    let g = bd-* _ _ _ _ (bd-* _ q _ q hp (bd_self q (≺-≼ hq))) e in
    record {
      lower = product_pos (pos 1 *ℤ q) z.lower (product_pos (pos 1) q (record { lt = tt }) hq) hz;
      bound =
          bd_as _ _ _ _
          (ring! (U ∷ N ∷ A ∷ w ∷ q ∷ z.lower ∷ []) (search polys depth 60 fits 100000) tt)
          (ring! (U ∷ p ∷ q ∷ a ∷ c ∷ x ∷ z.upper ∷ z.lower ∷ []) (search polys depth 60 fits 100000) tt)
          g;
    }

-- A constant term: its value is a, and its cosine is 1
pub close_constant : (U p q a : ℤ) (z : Fraction) → pos 0 ≺ q → pos 0 ≺ z.lower → z.upper ≡ z.lower →
    Close U (pos 0) p q a (wholeᶠ a *ᶠ record { upper = p; lower = q } *ᶠ z)
unfolding ◌*ᶠ◌
close_constant U p q a z hq hz e = record {
  lower = product_pos (pos 1 *ℤ q) z.lower (product_pos (pos 1) q (record { lt = tt }) hq) hz;
  bound =
      subst (λ (u : ℤ). Bd (pos 0 *ℤ (q *ℤ (pos 1 *ℤ q *ℤ z.lower))) (pos 2 *ℤ U *ℤ (a *ℤ p *ℤ (pos 1 *ℤ q *ℤ z.lower) -ℤ a *ℤ p *ℤ u *ℤ q))) (sym e)
      (record {
        low = cert! (U ∷ p ∷ q ∷ a ∷ z.lower ∷ []) 0 (nonneg 0) (search polys depth 60 fits 100000) tt;
        high = cert! (U ∷ p ∷ q ∷ a ∷ z.lower ∷ []) 0 (nonneg 0) (search polys depth 60 fits 100000) tt;
      });
}

-- A step of the running sum: s for the block at p/q, v for the blocks above it at (t/T)·(p/q), r is v·t/T rounded
pub close_step : (U m n w p q t T s v r : ℤ) (f g : Fraction) → pos 0 ≼ U → pos 0 ≺ q → pos 0 ≺ T → Bd (w *ℤ q) p → Bd T (pos 2 *ℤ (T *ℤ r -ℤ v *ℤ t))
    → Close U m p q s f → Close U n (t *ℤ p) (T *ℤ q) v g → Close U (m +ℤ w *ℤ U +ℤ n) p q (s +ℤ r) (f +ᶠ g)
unfolding ◌+ᶠ◌
close_step U m n w p q t T s v r f g hU hq hT hp hr h k =
    let G = g.lower in
    let F = f.lower in
    let a = bd-* _ (T *ℤ G) _ (T *ℤ G) h.bound (bd_self (T *ℤ G) (≺-≼ (product_pos T G hT k.lower))) in
    let b = bd-* _ _ _ _ (bd-* _ _ _ _ hp hr) (bd_self (U *ℤ (F *ℤ G)) (hU ⊛ (≺-≼ h.lower ⊛ ≺-≼ k.lower))) in
    let c = bd-* _ F _ F k.bound (bd_self F (≺-≼ h.lower)) in
    record {
      lower = product_pos F G h.lower k.lower;
      bound =
          bd_cancel T _ _ hT
          (bd_as _ _ _ _
          (ring! (U ∷ m ∷ n ∷ w ∷ q ∷ T ∷ F ∷ G ∷ []) (search polys depth 60 fits 100000) tt)
          (ring! (U ∷ p ∷ q ∷ t ∷ T ∷ s ∷ v ∷ r ∷ f.upper ∷ F ∷ g.upper ∷ G ∷ []) (search polys depth 60 fits 100000) tt)
          (bd-+ _ _ _ _ (bd-+ _ _ _ _ a b) c));
    }

-- ---- powers of tau = t/T, with |t| at most K·T

pub power_lower : (t : ℤ) (T i : ℕ) → 0 < T → pos 0 ≺ (powerᶠ (overᶠ t T) i).lower
unfolding powerᶠ ◌*ᶠ◌
power_lower t T zero h = record { lt = tt }
power_lower t T (suc i) h = product_pos (pos T) (powerᶠ (overᶠ t T) i).lower (record { lt = lt→ltb 0 T h }) (power_lower t T i h)

pub power_bound : (K : ℕ) (t : ℤ) (T i : ℕ) → Bd (pos (K * T)) t → Bd (pos (K ^ i) *ℤ (powerᶠ (overᶠ t T) i).lower) (powerᶠ (overᶠ t T) i).upper
unfolding powerᶠ ◌*ᶠ◌
power_bound K t T zero h = subst (λ (n : ℕ). Bd (pos n *ℤ pos 1) (pos 1)) (sym (pow-zero K)) (record { low = record { le = tt }; high = record { le = tt } })
power_bound K t T (suc i) h =
    bd_as _ _ _ _
    (ring! (pos K ∷ pos T ∷ pos (K ^ i) ∷ (powerᶠ (overᶠ t T) i).lower ∷ []) {y = pos (K * K ^ i) *ℤ (pos T *ℤ (powerᶠ (overᶠ t T) i).lower)}
    (search polys depth 60 fits 100000) tt
    ∙ ap (λ (n : ℕ). pos n *ℤ (pos T *ℤ (powerᶠ (overᶠ t T) i).lower)) (order K i))
    refl
    (bd-* _ _ _ _ h (power_bound K t T i h))
  where
    order : (K i : ℕ) → K * K ^ i ≡ K ^ suc i
    order K i = sym (pow_step K i)
