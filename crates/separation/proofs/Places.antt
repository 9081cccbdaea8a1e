-- A working place from working cosines: how near it is to the exact one, and that it is at least 0.47 R long.
-- Exact figures are whole numbers over one lower number Q. Assumes nothing.
use mathlib.Core.Path.{refl}
use mathlib.Core.Logic.{◌⊎◌, inl, inr}
use mathlib.Core.List.{[], ◌∷◌}
use Prim.Native.Nat.{◌*◌, ◌<◌}
use native.Mathlib.Omega.{arith}
use lib.IntN.{ℤ, pos, neg_ℤ, ◌+ℤ◌, ◌-ℤ◌, ◌*ℤ◌}
use Rattle.integers.specs.Order.{◌≼◌}
use Rattle.integers.specs.Division.{rounded}
use Rattle.integers.proofs.Pairs.{nonneg}
use Rattle.integers.proofs.Auto.{polys, ring!, cert!, gap, gap<, ◌⊞◌, ◌⊛◌, ◌·◌}
use Rattle.integers.proofs.Division.{rounded_low, rounded_high}
use Rattle.integers.proofs.Bounds.{Bd, bd-*, bd-+, bd_self, bd_le, bd_cancel, bd_as, bd_rounded}
use Rattle.units.specs.Units.{U}
use Rattle.rectangular.specs.declared.Vector.{Vector}
use Rattle.rectangular.specs.Vectors.{geocentric}
use Rattle.rectangular.specs.Sight.{least_radius}
use Rattle.separation.specs.Machine.Near.{tolerance}
use Rattle.separation.proofs.Form.{scl, sub, Bd³}

-- R in parts, and the cosines and sines over U (working), or all five over Q (exact).
pub record Figures : Type 0 where
  pub R : ℤ
  pub cosB : ℤ
  pub sinB : ℤ
  pub cosL : ℤ
  pub sinL : ℤ

-- The working place.
unfoldable pub placed : Figures → Vector
placed w = record {
  x = rounded (rounded (w.R *ℤ w.cosB) U *ℤ w.cosL) U;
  y = rounded (rounded (w.R *ℤ w.cosB) U *ℤ w.sinL) U;
  z = rounded (w.R *ℤ w.sinB) U;
}

-- The exact direction, over Q², and the exact place, over Q³.
unfoldable pub toward : ℤ → Figures → Vector
toward Q e = record { x = e.cosB *ℤ e.cosL; y = e.cosB *ℤ e.sinL; z = Q *ℤ e.sinB }

unfoldable pub whole_place : ℤ → Figures → Vector
whole_place Q e = scl e.R (toward Q e)

-- c/U and C/Q are in [−1, 1] and within 2.46·10⁻⁶ of each other.
pub record CosinePair (Q c C : ℤ) : Type 0 where
  pub working : Bd (pos U) c
  pub exact : Bd Q C
  pub near : Bd (pos 2460 *ℤ Q) (c *ℤ Q -ℤ pos U *ℤ C)

-- The working figures are near the exact ones: R within 2·10⁵ parts.
pub record Faithful (Q : ℤ) (w e : Figures) : Type 0 where
  pub radius : Bd (pos tolerance *ℤ Q) (Q *ℤ w.R -ℤ e.R)
  pub cosB : CosinePair Q w.cosB e.cosB
  pub sinB : CosinePair Q w.sinB e.sinB
  pub cosL : CosinePair Q w.cosL e.cosL
  pub sinL : CosinePair Q w.sinL e.sinL

-- ---- How near the place is.

-- A multiple that is not negative keeps a bound.
pub times : (m A a : ℤ) → pos 0 ≼ m → Bd A a → Bd (m *ℤ A) (m *ℤ a)
times m A a h k = bd-* m A m a (bd_self m h) k

U_pos : 0 < U
U_pos = omega arith

-- One rounded product.
one_part : (Q R c C : ℤ) → pos 0 ≼ Q → pos 0 ≼ R → CosinePair Q c C
    → Bd (Q *ℤ Q *ℤ (pos U +ℤ pos 4920 *ℤ R)) (pos U *ℤ (Q *ℤ Q *ℤ rounded (R *ℤ c) U -ℤ R *ℤ (Q *ℤ C)))
one_part Q R c C hQ hR s =
    let z = rounded (R *ℤ c) U in
    let ρ = pos 2 *ℤ (pos U *ℤ z -ℤ R *ℤ c) in
    let δ = c *ℤ Q -ℤ pos U *ℤ C in
    let b = bd-+ (Q *ℤ Q *ℤ pos U) (pos 2 *ℤ (Q *ℤ R) *ℤ (pos 2460 *ℤ Q)) (Q *ℤ Q *ℤ ρ) (pos 2 *ℤ (Q *ℤ R) *ℤ δ)
    (times (Q *ℤ Q) (pos U) ρ (hQ ⊛ hQ) (bd_rounded (R *ℤ c) U U_pos)) (times (pos 2 *ℤ (Q *ℤ R)) (pos 2460 *ℤ Q) δ (nonneg 2 ⊛ (hQ ⊛ hR)) s.near) in
    let A = Q *ℤ Q *ℤ pos U +ℤ pos 2 *ℤ (Q *ℤ R) *ℤ (pos 2460 *ℤ Q) in
    let B = pos 2 *ℤ (Q *ℤ Q *ℤ (pos U +ℤ pos 4920 *ℤ R)) in
    let l : A ≼ B = cert! (Q ∷ R ∷ []) 0 (1000000000 · (hQ ⊛ hQ) ⊞ 4920 · (hQ ⊛ hQ ⊛ hR)) (search polys depth 60 fits 100000) tt in
    bd_cancel (pos 2) (Q *ℤ Q *ℤ (pos U +ℤ pos 4920 *ℤ R)) (pos U *ℤ (Q *ℤ Q *ℤ z -ℤ R *ℤ (Q *ℤ C))) (record { lt = tt })
    (bd_as B B _ (pos 2 *ℤ (pos U *ℤ (Q *ℤ Q *ℤ z -ℤ R *ℤ (Q *ℤ C)))) refl (ring! (Q ∷ R ∷ c ∷ C ∷ z ∷ []) (search polys depth 60 fits 100000) tt)
    (bd_le A B _ l b))

-- A rounded product of a rounded product.
two_part : (Q R c C d D : ℤ) → pos 0 ≼ Q → pos 0 ≼ R → CosinePair Q c C → CosinePair Q d D
    → Bd (Q *ℤ Q *ℤ (pos U +ℤ pos 4920 *ℤ R)) (pos U *ℤ (Q *ℤ Q *ℤ rounded (rounded (R *ℤ c) U *ℤ d) U -ℤ R *ℤ (C *ℤ D)))
two_part Q R c C d D hQ hR s t =
    let f = rounded (R *ℤ c) U in
    let x = rounded (f *ℤ d) U in
    let ρ = pos 2 *ℤ (pos U *ℤ f -ℤ R *ℤ c) in
    let ρ' = pos 2 *ℤ (pos U *ℤ x -ℤ f *ℤ d) in
    let δ = c *ℤ Q -ℤ pos U *ℤ C in
    let δ' = d *ℤ Q -ℤ pos U *ℤ D in
    let e₁ = times (Q *ℤ Q) (pos U *ℤ pos U) (ρ *ℤ d) (hQ ⊛ hQ) (bd-* (pos U) (pos U) ρ d (bd_rounded (R *ℤ c) U U_pos) t.working) in
    let e₂ = times (Q *ℤ Q *ℤ pos U) (pos U) ρ' (hQ ⊛ hQ ⊛ nonneg U) (bd_rounded (f *ℤ d) U U_pos) in
    let e₃ = times (pos 2 *ℤ R *ℤ Q) (pos 2460 *ℤ Q *ℤ pos U) (δ *ℤ d) (nonneg 2 ⊛ hR ⊛ hQ) (bd-* (pos 2460 *ℤ Q) (pos U) δ d s.near t.working) in
    let e₄ = times (pos 2 *ℤ R *ℤ pos U) (Q *ℤ (pos 2460 *ℤ Q)) (C *ℤ δ') (nonneg 2 ⊛ hR ⊛ nonneg U) (bd-* Q (pos 2460 *ℤ Q) C δ' s.exact t.near) in
    let b = bd-+ _ _ _ _ (bd-+ _ _ _ _ e₁ e₂) (bd-+ _ _ _ _ e₃ e₄) in
    bd_cancel (pos (2 * U)) (Q *ℤ Q *ℤ (pos U +ℤ pos 4920 *ℤ R)) (pos U *ℤ (Q *ℤ Q *ℤ x -ℤ R *ℤ (C *ℤ D))) (record { lt = tt })
    (bd_as _ _ _ _ (ring! (Q ∷ R ∷ []) (search polys depth 60 fits 100000) tt)
    (ring! (Q ∷ R ∷ c ∷ C ∷ d ∷ D ∷ f ∷ x ∷ []) (search polys depth 60 fits 100000) tt) b)

-- U times Q²·place − R·direction, in each component.
pub place_near : (Q : ℤ) (w e : Figures) → pos 0 ≼ Q → pos 0 ≼ w.R → Faithful Q w e
    → Bd³ (Q *ℤ Q *ℤ (pos U +ℤ pos 4920 *ℤ w.R)) (scl (pos U) (sub (scl (Q *ℤ Q) (placed w)) (scl w.R (toward Q e))))
unfolding scl geocentric placed toward
place_near Q w e hQ hR h =
    record {
      x = two_part Q w.R w.cosB e.cosB w.cosL e.cosL hQ hR h.cosB h.cosL;
      y = two_part Q w.R w.cosB e.cosB w.sinL e.sinL hQ hR h.cosB h.sinL;
      z = one_part Q w.R w.sinB e.sinB hQ hR h.sinB;
    }

-- ---- How long the place is.

-- |k·n| is at least A.
abbrev pub Far : ℤ → ℤ → ℤ → Type 0
Far k A n = (A ≼ k *ℤ n) ⊎ (k *ℤ n ≼ neg_ℤ A)

-- So is a rounded product with a cosine of size at least 0.69, with 0.69 A less a half for A.
far_rounded : (k A n c : ℤ) → pos 0 ≼ k → pos 0 ≼ A → Far k A n → Far (pos 1) (pos 690000000) c
    → Far (pos 200 *ℤ k) (pos 138 *ℤ A -ℤ pos 100 *ℤ k) (rounded (n *ℤ c) U)
far_rounded k A n c hk hA f g = go f g
  where
    r : ℤ
    r = rounded (n *ℤ c) U

    above : A *ℤ pos 690000000 ≼ k *ℤ (n *ℤ c) → pos 138 *ℤ A -ℤ pos 100 *ℤ k ≼ pos 200 *ℤ k *ℤ r
    above h = cert! (k ∷ A ∷ n ∷ c ∷ r ∷ []) 9999999 (hk ⊛ gap< (rounded_high (n *ℤ c) U U_pos) ⊞ hk ⊞ 2 · gap h) (search polys depth 60 fits 100000) tt

    below : k *ℤ (n *ℤ c) ≼ neg_ℤ (A *ℤ pos 690000000) → pos 200 *ℤ k *ℤ r ≼ neg_ℤ (pos 138 *ℤ A -ℤ pos 100 *ℤ k)
    below h = cert! (k ∷ A ∷ n ∷ c ∷ r ∷ []) 9999999 (hk ⊛ gap (rounded_low (n *ℤ c) U U_pos) ⊞ 2 · gap h) (search polys depth 60 fits 100000) tt

    go : Far k A n → Far (pos 1) (pos 690000000) c → Far (pos 200 *ℤ k) (pos 138 *ℤ A -ℤ pos 100 *ℤ k) r
    go (inl a) (inl b) = inl (above (cert! (k ∷ A ∷ n ∷ c ∷ []) 0 (gap a ⊛ gap b ⊞ hA ⊛ gap b ⊞ 690000000 · gap a) (search polys depth 60 fits 100000) tt))
    go (inr a) (inr b) = inl (above (cert! (k ∷ A ∷ n ∷ c ∷ []) 0 (gap a ⊛ gap b ⊞ hA ⊛ gap b ⊞ 690000000 · gap a) (search polys depth 60 fits 100000) tt))
    go (inl a) (inr b) = inr (below (cert! (k ∷ A ∷ n ∷ c ∷ []) 0 (gap a ⊛ gap b ⊞ hA ⊛ gap b ⊞ 690000000 · gap a) (search polys depth 60 fits 100000) tt))
    go (inr a) (inl b) = inr (below (cert! (k ∷ A ∷ n ∷ c ∷ []) 0 (gap a ⊛ gap b ⊞ hA ⊛ gap b ⊞ 690000000 · gap a) (search polys depth 60 fits 100000) tt))

-- One of the cosine and the sine is at least 0.69 in size.
abbrev pub OneFar : ℤ → ℤ → Type 0
OneFar c s = Far (pos 1) (pos 690000000) c ⊎ Far (pos 1) (pos 690000000) s

far_le : (k A n l : ℤ) → pos 0 ≼ k → Far k A n → Bd l n → A ≼ k *ℤ l
far_le k A n l hk (inl h) b = cert! (k ∷ A ∷ n ∷ l ∷ []) 0 (gap h ⊞ hk ⊛ gap b.high) (search polys depth 60 fits 100000) tt
far_le k A n l hk (inr h) b = cert! (k ∷ A ∷ n ∷ l ∷ []) 0 (gap h ⊞ hk ⊛ gap b.low) (search polys depth 60 fits 100000) tt

-- l is at least each component of the place.
pub long : (l : ℤ) (w : Figures) → pos least_radius ≼ w.R → OneFar w.cosB w.sinB → OneFar w.cosL w.sinL → Bd³ l (placed w)
    → pos 47 *ℤ w.R ≼ pos 100 *ℤ l
unfolding placed
long l w hR fB fL b = goB fB
  where
    R : ℤ
    R = w.R

    R₀ : pos 0 ≼ R
    R₀ = cert! (R ∷ []) 0 (gap hR) (search polys depth 60 fits 100000) tt

    start : Far (pos 1) R R
    start = inl (cert! (R ∷ []) 0 (nonneg 0) (search polys depth 60 fits 100000) tt)

    goB : OneFar w.cosB w.sinB → pos 47 *ℤ R ≼ pos 100 *ℤ l
    goB (inr h) =
        let a = far_le (pos 200 *ℤ pos 1) (pos 138 *ℤ R -ℤ pos 100 *ℤ pos 1) (rounded (R *ℤ w.sinB) U) l (nonneg 200)
        (far_rounded (pos 1) R R w.sinB (nonneg 1) R₀ start h) b.z in
        cert! (R ∷ l ∷ []) 1 (gap a ⊞ 44 · gap hR) (search polys depth 60 fits 100000) tt
    goB (inl h) = goL fL
      where
        f : ℤ
        f = rounded (R *ℤ w.cosB) U

        flat : Far (pos 200 *ℤ pos 1) (pos 138 *ℤ R -ℤ pos 100 *ℤ pos 1) f
        flat = far_rounded (pos 1) R R w.cosB (nonneg 1) R₀ start h

        A₀ : pos 0 ≼ pos 138 *ℤ R -ℤ pos 100 *ℤ pos 1
        A₀ = cert! (R ∷ []) 0 (138 · gap hR) (search polys depth 60 fits 100000) tt

        end : (c : ℤ) → Bd l (rounded (f *ℤ c) U) → Far (pos 1) (pos 690000000) c → pos 47 *ℤ R ≼ pos 100 *ℤ l
        end c bd g =
            let a = far_le (pos 200 *ℤ (pos 200 *ℤ pos 1)) (pos 138 *ℤ (pos 138 *ℤ R -ℤ pos 100 *ℤ pos 1) -ℤ pos 100 *ℤ (pos 200 *ℤ pos 1))
            (rounded (f *ℤ c) U) l (nonneg 40000)
            (far_rounded (pos 200 *ℤ pos 1) (pos 138 *ℤ R -ℤ pos 100 *ℤ pos 1) f c (nonneg 200) A₀ flat g) bd in
            cert! (R ∷ l ∷ []) 399 (gap a ⊞ 244 · gap hR) (search polys depth 60 fits 100000) tt

        goL : OneFar w.cosL w.sinL → pos 47 *ℤ R ≼ pos 100 *ℤ l
        goL (inl g) = end w.cosL b.x g
        goL (inr g) = end w.sinL b.y g
