-- The sine and the cosine of the nested series change by no more than their angle does. Assumes nothing.
use mathlib.Core.Logic.{◌⊎◌, inl, inr}
use mathlib.Core.List.{List, [], ◌∷◌}
use Prim.Native.Nat.{ℕ, zero, suc, ◌*◌}
use native.Mathlib.Omega.{arith}
use lib.IntN.{ℤ, pos, ◌+ℤ◌, ◌-ℤ◌, ◌*ℤ◌}
use Rattle.integers.specs.Order.{◌≼◌, ◌≺◌}
use Rattle.integers.proofs.Pairs.{nonneg}
use Rattle.integers.proofs.Auto.{ring!, cert!, polys, gap, ◌⊞◌, ◌⊛◌, ◌·◌}
use Rattle.integers.proofs.Order.{≺-≼, ≼-or-≺, cert*!, product_pos}
use Rattle.integers.proofs.Near.{Near, near_sym, near_neg, near_coarse, near_as}
use Rattle.reference_cosine.proofs.Divisors.{all_evens, all_odds, more_odds, low_by_quarter}
use Rattle.reference_cosine.proofs.NestedSeries.{low, up, lam, lip, Good, range', Small}
use Rattle.cosine.specs.Cosine.{cosine_by}
use Rattle.reference_cosine.proofs.Lipschitz.{Angle, angle_small, good_evens, good_odds, lam_odds, near_h, turn_about}
use Rattle.reference_cosine.proofs.Lipschitz.{C_up, C_low, S_up, S_low, f_up, f_low}

-- Z/D at most Z'/D' gives Z·h at most Z'·h', with P = Z'D, R = ZD', a = u'l, b = ul', E = DD', M = ll' and k the Lipschitz bound of h
fall_core : (P R a b E M k : ℤ) → pos 0 ≼ R → pos 0 ≺ E → pos 0 ≼ M → pos 0 ≼ k → R ≼ P → pos 1000 *ℤ R ≼ pos 617 *ℤ E
    → pos 1000000 *ℤ E *ℤ (b -ℤ a) ≼ k *ℤ (P -ℤ R) *ℤ M → pos 617 *ℤ k *ℤ M ≼ pos 1000000000 *ℤ a → R *ℤ b ≼ P *ℤ a
fall_core P R a b E M k hR hE hM hk h small ih big =
    cert*! (P ∷ R ∷ a ∷ b ∷ E ∷ M ∷ k ∷ []) (pos 1000000000 *ℤ E) (product_pos (pos 1000000000) E (record { lt = tt }) hE)
    (gap h ⊛ ≺-≼ hE ⊛ gap big ⊞ 1000 · (hR ⊛ gap ih) ⊞ gap h ⊛ hk ⊛ hM ⊛ gap small)
    (search polys depth 60 fits 100000) tt

fall_step : (d D D' Z Z' l l' u u' : ℤ) → pos 0 ≼ d → Z *ℤ D' *ℤ (u *ℤ l') ≼ Z' *ℤ D *ℤ (u' *ℤ l)
    → (d *ℤ D' *ℤ l' -ℤ Z' *ℤ u') *ℤ (d *ℤ D *ℤ l) ≼ (d *ℤ D *ℤ l -ℤ Z *ℤ u) *ℤ (d *ℤ D' *ℤ l')
fall_step d D D' Z Z' l l' u u' hd h =
    cert! (d ∷ D ∷ D' ∷ Z ∷ Z' ∷ l ∷ l' ∷ u ∷ u' ∷ []) 0 (hd ⊛ gap h) (search polys depth 60 fits 100000) tt

-- h is at least 1 - 0.617/d
above_most : (d D Z l u : ℤ) → pos 20 ≼ d → pos 0 ≼ D → pos 0 ≼ l → pos 0 ≼ u → u ≼ l → pos 1000 *ℤ Z ≼ pos 617 *ℤ D
    → pos 19383 *ℤ (d *ℤ D *ℤ l) ≼ pos 20000 *ℤ (d *ℤ D *ℤ l -ℤ Z *ℤ u)
above_most d D Z l u hd hD hl hu hul h =
    cert! (d ∷ D ∷ Z ∷ l ∷ u ∷ []) 0 (617 · (gap hd ⊛ hD ⊛ hl) ⊞ 12340 · (hD ⊛ gap hul) ⊞ 20 · (hu ⊛ gap h)) (search polys depth 60 fits 100000) tt

-- the divisors of the odd series after the first
abbrev rest : List ℕ
rest = 4 * 5 ∷ 6 * 7 ∷ 8 * 9 ∷ 10 * 11 ∷ 12 * 13 ∷ more_odds

good_rest : Good rest
good_rest = omega arith

lam_rest : pos 617 *ℤ pos (lam rest) ≼ pos 969150000
unfolding lam
lam_rest = record { le = tt }

rest_large : {D Z : ℤ} → Small D Z → pos 19383 *ℤ low D rest ≼ pos 20000 *ℤ up D Z rest
unfolding low up
rest_large {D} {Z} s =
    let r = range' (6 * 7 ∷ 8 * 9 ∷ 10 * 11 ∷ 12 * 13 ∷ more_odds) (omega arith) s in
    above_most (pos 20) D Z (low D (6 * 7 ∷ 8 * 9 ∷ 10 * 11 ∷ 12 * 13 ∷ more_odds)) (up D Z (6 * 7 ∷ 8 * 9 ∷ 10 * 11 ∷ 12 * 13 ∷ more_odds))
    (record { le = tt }) (≺-≼ s.positive) (≺-≼ r.above) r.least r.most s.small

-- the product that `fall_core` asks for
large_product : (k l l' u' : ℤ) → pos 0 ≼ l → pos 0 ≼ l' → pos 617 *ℤ k ≼ pos 969150000 → pos 19383 *ℤ l' ≼ pos 20000 *ℤ u'
    → pos 617 *ℤ k *ℤ (l *ℤ l') ≼ pos 1000000000 *ℤ (u' *ℤ l)
large_product k l l' u' hl hl' hk h = cert! (k ∷ l ∷ l' ∷ u' ∷ []) 0 (50000 · (hl ⊛ gap h) ⊞ gap hk ⊛ (hl ⊛ hl')) (search polys depth 60 fits 100000) tt

-- the odd series falls as the squared angle grows
fall : (D D' Z Z' : ℤ) → Small D Z → Small D' Z' → Z *ℤ D' ≼ Z' *ℤ D → up D' Z' all_odds *ℤ low D all_odds ≼ up D Z all_odds *ℤ low D' all_odds
unfolding low up
fall D D' Z Z' s s' h =
    let l = low D rest in
    let l' = low D' rest in
    let u = up D Z rest in
    let u' = up D' Z' rest in
    let r = range' rest good_rest s in
    let r' = range' rest good_rest s' in
    let hD = ≺-≼ s.positive in
    let hD' = ≺-≼ s'.positive in
    let ρ = D ∷ D' ∷ Z ∷ Z' ∷ [] in
    fall_step (pos 6) D D' Z Z' l l' u u' (nonneg 6)
    (fall_core (Z' *ℤ D) (Z *ℤ D') (u' *ℤ l) (u *ℤ l') (D *ℤ D') (l *ℤ l') (pos (lam rest)) (s.not_neg ⊛ hD')
    (product_pos D D' s.positive s'.positive) (≺-≼ r.above ⊛ ≺-≼ r'.above) (nonneg (lam rest)) h
    (cert! ρ 0 (hD' ⊛ gap s.small) (search polys depth 60 fits 100000) tt)
    (lip rest good_rest D D' Z Z' (Z' *ℤ D -ℤ Z *ℤ D') (D *ℤ D') s s' (gap h)
    (cert! ρ 0 (nonneg 0) (search polys depth 60 fits 100000) tt)
    (cert! ρ 0 (2 · (gap h ⊛ (hD ⊛ hD'))) (search polys depth 60 fits 100000) tt))
    (large_product (pos (lam rest)) l l' u' (≺-≼ r.above) (≺-≼ r'.above) lam_rest (rest_large s')))

-- ---- the two cases of the order of the angles n/N and m/K; a/A and b/B are their odd series

-- n/N at least m/K
rising : (n N m K a A b B f g : ℤ) → pos 0 ≼ N → pos 0 ≼ K → pos 0 ≼ A → pos 0 ≼ B → pos 0 ≼ g → a ≼ A → b ≼ B → m *ℤ N ≼ n *ℤ K
    → (n *ℤ K +ℤ m *ℤ N) *ℤ (a *ℤ B -ℤ b *ℤ A) ≼ pos 0 → g *ℤ (n *ℤ K -ℤ m *ℤ N) ≼ f *ℤ (N *ℤ K)
    → g *ℤ (n *ℤ a *ℤ (K *ℤ B) -ℤ m *ℤ b *ℤ (N *ℤ A)) ≼ f *ℤ (N *ℤ A *ℤ (K *ℤ B))
rising n N m K a A b B f g hN hK hA hB hg ha hb h s e =
    cert! (n ∷ N ∷ m ∷ K ∷ a ∷ A ∷ b ∷ B ∷ f ∷ g ∷ []) 1 (hg ⊛ gap s ⊞ hg ⊛ gap h ⊛ (gap ha ⊛ hB ⊞ gap hb ⊛ hA) ⊞ 2 · (gap e ⊛ (hA ⊛ hB)))
    (search polys depth 60 fits 100000) tt

-- n/N at most m/K
falling : (n N m K a A b B f g : ℤ) → Angle m K → pos 0 ≼ N → pos 0 ≼ A → pos 0 ≼ B → pos 0 ≼ f → pos 0 ≼ g → pos 0 ≼ a → n *ℤ K ≼ m *ℤ N
    → pos 10000 *ℤ g *ℤ (a *ℤ B -ℤ b *ℤ A) ≼ pos 2702 *ℤ f *ℤ (A *ℤ B) → pos 10000 *ℤ g *ℤ (b *ℤ A -ℤ a *ℤ B) ≼ pos 2702 *ℤ f *ℤ (A *ℤ B)
    → g *ℤ (n *ℤ a *ℤ (K *ℤ B) -ℤ m *ℤ b *ℤ (N *ℤ A)) ≼ f *ℤ (N *ℤ A *ℤ (K *ℤ B))
falling n N m K a A b B f g y hN hA hB hf hg ha h p q =
    let hK = ≺-≼ y.positive in
    cert! (n ∷ N ∷ m ∷ K ∷ a ∷ A ∷ b ∷ B ∷ f ∷ g ∷ []) 99999999
    (100000000 · (hg ⊛ ha ⊛ hB ⊛ gap h) ⊞ gap p ⊛ hN ⊛ gap y.least ⊞ gap q ⊛ hN ⊛ gap y.most ⊞ 78778492 · (hf ⊛ hN ⊛ hA ⊛ hK ⊛ hB))
    (search polys depth 60 fits 100000) tt

-- ---- the sine

-- (x + y)(h - h') is not positive where x is at least y
signs : (n N m K a A b B : ℤ) → (m *ℤ m *ℤ (N *ℤ N) ≼ n *ℤ n *ℤ (K *ℤ K) → a *ℤ B ≼ b *ℤ A) → (n *ℤ n *ℤ (K *ℤ K) ≼ m *ℤ m *ℤ (N *ℤ N) → b *ℤ A ≼ a *ℤ B)
    → m *ℤ N ≼ n *ℤ K
    → (n *ℤ K +ℤ m *ℤ N) *ℤ (a *ℤ B -ℤ b *ℤ A) ≼ pos 0
signs n N m K a A b B up down h = go (≼-or-≺ (pos 0) (n *ℤ K +ℤ m *ℤ N))
  where
    go : (pos 0 ≼ n *ℤ K +ℤ m *ℤ N) ⊎ (n *ℤ K +ℤ m *ℤ N ≺ pos 0) → (n *ℤ K +ℤ m *ℤ N) *ℤ (a *ℤ B -ℤ b *ℤ A) ≼ pos 0
    go (inl p) =
        let s = up (cert! (n ∷ N ∷ m ∷ K ∷ []) 0 (gap h ⊛ p) (search polys depth 60 fits 100000) tt) in
        cert! (n ∷ N ∷ m ∷ K ∷ a ∷ A ∷ b ∷ B ∷ []) 0 (p ⊛ gap s) (search polys depth 60 fits 100000) tt
    go (inr p) =
        let q = gap (≺-≼ p) in
        let s = down (cert! (n ∷ N ∷ m ∷ K ∷ []) 0 (gap h ⊛ q) (search polys depth 60 fits 100000) tt) in
        cert! (n ∷ N ∷ m ∷ K ∷ a ∷ A ∷ b ∷ B ∷ []) 0 (q ⊛ gap s) (search polys depth 60 fits 100000) tt

half_S : (n N m K f g : ℤ) → Angle n N → Angle m K → pos 0 ≼ f → pos 0 ≼ g → Near g f n N m K
    → g *ℤ (S_up n N *ℤ S_low K -ℤ S_up m K *ℤ S_low N) ≼ f *ℤ (S_low N *ℤ S_low K)
unfolding S_up S_low
half_S n N m K f g x y hf hg e = go (≼-or-≺ (m *ℤ N) (n *ℤ K))
  where
    go : (m *ℤ N ≼ n *ℤ K) ⊎ (n *ℤ K ≺ m *ℤ N)
        → g *ℤ (n *ℤ up (N *ℤ N) (n *ℤ n) all_odds *ℤ (K *ℤ low (K *ℤ K) all_odds) -ℤ m *ℤ up (K *ℤ K) (m *ℤ m) all_odds *ℤ (N *ℤ low (N *ℤ N) all_odds))
        ≼ f *ℤ (N *ℤ low (N *ℤ N) all_odds *ℤ (K *ℤ low (K *ℤ K) all_odds))
    go w =
        let a = up (N *ℤ N) (n *ℤ n) all_odds in
        let A = low (N *ℤ N) all_odds in
        let b = up (K *ℤ K) (m *ℤ m) all_odds in
        let B = low (K *ℤ K) all_odds in
        let r = range' all_odds good_odds (angle_small x) in
        let r' = range' all_odds good_odds (angle_small y) in
        let c = near_coarse (pos 3927 *ℤ pos (lam all_odds)) (pos 2702) (pos 2500000000) (pos 10000) g f (record { lt = tt }) (record { le = tt }) hf
        r.above r'.above lam_odds (near_h all_odds good_odds n N m K f g x y hf e) in
        cases w (λ h. rising n N m K a A b B f g (≺-≼ x.positive) (≺-≼ y.positive) (≺-≼ r.above) (≺-≼ r'.above) hg r.most r'.most h
        (signs n N m K a A b B (λ s. fall (K *ℤ K) (N *ℤ N) (m *ℤ m) (n *ℤ n) (angle_small y) (angle_small x) s)
        (λ s. fall (N *ℤ N) (K *ℤ K) (n *ℤ n) (m *ℤ m) (angle_small x) (angle_small y) s) h) e.hi)
        (λ h. falling n N m K a A b B f g y (≺-≼ x.positive) (≺-≼ r.above) (≺-≼ r'.above) hf hg r.least (≺-≼ h) c.hi c.lo)
      where
        cases : {A B C : Type 0} → A ⊎ B → (A → C) → (B → C) → C
        cases (inl a) f g = f a
        cases (inr b) f g = g b

near_S : (n N m K f g : ℤ) → Angle n N → Angle m K → pos 0 ≼ f → pos 0 ≼ g → Near g f n N m K → Near g f (S_up n N) (S_low N) (S_up m K) (S_low K)
near_S n N m K f g x y hf hg h = record {
  hi = half_S n N m K f g x y hf hg h;
  lo = turn_about g f (S_up n N) (S_low N) (S_up m K) (S_low K) (half_S m K n N f g y x hf hg (near_sym h));
}

-- ---- the cosine, and both at any quarter

lam_evens : pos 3927 *ℤ pos (lam all_evens) *ℤ pos 1 ≼ pos 1 *ℤ pos 2500000000
unfolding lam
lam_evens = record { le = tt }

near_C : (n N m K f g : ℤ) → Angle n N → Angle m K → pos 0 ≼ f → Near g f n N m K → Near g f (C_up n N) (C_low N) (C_up m K) (C_low K)
unfolding C_up C_low
near_C n N m K f g x y hf h =
    let r = range' all_evens good_evens (angle_small x) in
    let r' = range' all_evens good_evens (angle_small y) in
    near_as g f r.above r'.above (ring! (g ∷ []) (search polys depth 60 fits 100000) tt)
    (cert! (f ∷ []) 0 (nonneg 0) (search polys depth 60 fits 100000) tt)
    (near_coarse (pos 3927 *ℤ pos (lam all_evens)) (pos 1) (pos 2500000000) (pos 1) g f (record { lt = tt }) (record { le = tt }) hf r.above r'.above
    lam_evens (near_h all_evens good_evens n N m K f g x y hf h))

pub near_one : (k : ℕ) (n N m K f g : ℤ) → Angle n N → Angle m K → pos 0 ≼ f → pos 0 ≼ g → Near g f n N m K
    → Near g f (f_up k n N) (f_low k N) (f_up k m K) (f_low k K)
unfolding f_up f_low cosine_by low_by_quarter
near_one zero n N m K f g x y hf hg h = near_C n N m K f g x y hf h
near_one (suc zero) n N m K f g x y hf hg h = near_neg (near_S n N m K f g x y hf hg h)
near_one (suc (suc zero)) n N m K f g x y hf hg h = near_neg (near_C n N m K f g x y hf h)
near_one (suc (suc (suc k))) n N m K f g x y hf hg h = near_S n N m K f g x y hf hg h
