-- C(x) and S(x) for a fraction x = n/N, and by the quarter. Their Lipschitz bound, 61/50. Assumes nothing.
use mathlib.Core.List.{List, [], ◌∷◌}
use Prim.Native.Nat.{ℕ, zero, suc}
use native.Mathlib.Omega.{arith}
use lib.IntN.{ℤ, pos, ◌-ℤ◌, ◌*ℤ◌, neg_ℤ}
use Rattle.integers.specs.Order.{◌≼◌, ◌≺◌}
use Rattle.integers.proofs.Pairs.{nonneg}
use Rattle.integers.proofs.Auto.{cert!, cert<!, polys, gap, gap<, ◌⊞◌, ◌⊛◌, ◌·◌, sqr}
use Rattle.integers.proofs.Order.{≺-≼, product_pos}
use Rattle.reference_cosine.proofs.NestedSeries.{low, up, lam, lip, Good, range', Small}
use Rattle.cosine.specs.Cosine.{cosine_by}
use Rattle.reference_cosine.proofs.Divisors.{all_evens, all_odds, low_by_quarter}
use Rattle.integers.proofs.Near.{Near, near_sym, near_neg, near_coarse}

-- |n/N| is at most 0.7854
pub record Angle (n N : ℤ) : Type 0 where
  pub positive : pos 0 ≺ N
  pub most : pos 5000 *ℤ n ≼ pos 3927 *ℤ N
  pub least : neg_ℤ (pos 3927 *ℤ N) ≼ pos 5000 *ℤ n

square_pos : (N : ℤ) → pos 0 ≺ N → pos 0 ≺ N *ℤ N
square_pos N h = cert<! (N ∷ []) 0 (gap< h ⊛ gap< h ⊞ 2 · gap< h) (search polys depth 60 fits 100000) tt

pub angle_small : {n N : ℤ} → Angle n N → Small (N *ℤ N) (n *ℤ n)
angle_small {n} {N} a = record {
  positive = square_pos N a.positive;
  not_neg = sqr n;
  small = cert! (n ∷ N ∷ []) 24999 (gap a.most ⊛ gap a.least ⊞ 3671 · sqr N) (search polys depth 60 fits 100000) tt;
}

-- |x² − y²| is at most 2·0.7854·|x − y|
half_square : (n N m K f g : ℤ) → Angle n N → Angle m K → g *ℤ (n *ℤ K -ℤ m *ℤ N) ≼ f *ℤ (N *ℤ K) → g *ℤ (m *ℤ N -ℤ n *ℤ K) ≼ f *ℤ (N *ℤ K)
    → pos 2500 *ℤ g *ℤ (m *ℤ m *ℤ (N *ℤ N) -ℤ n *ℤ n *ℤ (K *ℤ K)) ≼ pos 3927 *ℤ f *ℤ (N *ℤ N *ℤ (K *ℤ K))
half_square n N m K f g a b h k =
    cert! (n ∷ N ∷ m ∷ K ∷ f ∷ g ∷ []) 3
    (gap k ⊛ (≺-≼ a.positive ⊛ gap b.least ⊞ ≺-≼ b.positive ⊛ gap a.least)
    ⊞ gap h ⊛ (≺-≼ a.positive ⊛ gap b.most ⊞ ≺-≼ b.positive ⊛ gap a.most))
    (search polys depth 60 fits 100000) tt

fix : (k g f a A b B : ℤ) → pos 1000000 *ℤ (pos 2500 *ℤ g) *ℤ (a *ℤ B -ℤ b *ℤ A) ≼ k *ℤ (pos 3927 *ℤ f) *ℤ (A *ℤ B)
    → pos 2500000000 *ℤ g *ℤ (a *ℤ B -ℤ b *ℤ A) ≼ pos 3927 *ℤ k *ℤ f *ℤ (A *ℤ B)
fix k g f a A b B h = cert! (k ∷ g ∷ f ∷ a ∷ A ∷ b ∷ B ∷ []) 0 (gap h) (search polys depth 60 fits 100000) tt

swap : (k g f a A b B : ℤ) → pos 2500000000 *ℤ g *ℤ (b *ℤ A -ℤ a *ℤ B) ≼ pos 3927 *ℤ k *ℤ f *ℤ (B *ℤ A)
    → pos 2500000000 *ℤ g *ℤ (b *ℤ A -ℤ a *ℤ B) ≼ pos 3927 *ℤ k *ℤ f *ℤ (A *ℤ B)
swap k g f a A b B h = cert! (k ∷ g ∷ f ∷ a ∷ A ∷ b ∷ B ∷ []) 0 (gap h) (search polys depth 60 fits 100000) tt

half_h : (ds : List ℕ) → Good ds → (n N m K f g : ℤ) → Angle n N → Angle m K → pos 0 ≼ f → Near g f n N m K
    → pos 2500000000 *ℤ g *ℤ (up (N *ℤ N) (n *ℤ n) ds *ℤ low (K *ℤ K) ds -ℤ up (K *ℤ K) (m *ℤ m) ds *ℤ low (N *ℤ N) ds)
    ≼ pos 3927 *ℤ pos (lam ds) *ℤ f *ℤ (low (N *ℤ N) ds *ℤ low (K *ℤ K) ds)
half_h ds good n N m K f g a b hf h =
    fix (pos (lam ds)) g f (up (N *ℤ N) (n *ℤ n) ds) (low (N *ℤ N) ds) (up (K *ℤ K) (m *ℤ m) ds) (low (K *ℤ K) ds)
    (lip ds good (N *ℤ N) (K *ℤ K) (n *ℤ n) (m *ℤ m) (pos 3927 *ℤ f) (pos 2500 *ℤ g) (angle_small a) (angle_small b) (nonneg 3927 ⊛ hf)
    (half_square n N m K f g a b h.hi h.lo)
    (let s = near_sym h in half_square m K n N f g b a s.hi s.lo))

pub near_h : (ds : List ℕ) → Good ds → (n N m K f g : ℤ) → Angle n N → Angle m K → pos 0 ≼ f → Near g f n N m K
    → Near (pos 2500000000 *ℤ g) (pos 3927 *ℤ pos (lam ds) *ℤ f) (up (N *ℤ N) (n *ℤ n) ds) (low (N *ℤ N) ds) (up (K *ℤ K) (m *ℤ m) ds) (low (K *ℤ K) ds)
near_h ds good n N m K f g a b hf h = record {
  hi = half_h ds good n N m K f g a b hf h;
  lo = swap (pos (lam ds)) g f (up (N *ℤ N) (n *ℤ n) ds) (low (N *ℤ N) ds) (up (K *ℤ K) (m *ℤ m) ds) (low (K *ℤ K) ds)
      (half_h ds good m K n N f g b a hf (near_sym h));
}

pub good_evens : Good all_evens
good_evens = omega arith

pub good_odds : Good all_odds
good_odds = omega arith

lam_evens : pos 3927 *ℤ pos (lam all_evens) *ℤ pos 50 ≼ pos 61 *ℤ pos 2500000000
unfolding lam
lam_evens = record { le = tt }

pub lam_odds : pos 3927 *ℤ pos (lam all_odds) *ℤ pos 10000 ≼ pos 2702 *ℤ pos 2500000000
unfolding lam
lam_odds = record { le = tt }

-- ---- C(n/N), S(n/N), and f(k, n/N) for the quarter k

unfoldable pub C_up : ℤ → ℤ → ℤ
C_up n N = up (N *ℤ N) (n *ℤ n) all_evens

unfoldable pub C_low : ℤ → ℤ
C_low N = low (N *ℤ N) all_evens

unfoldable pub S_up : ℤ → ℤ → ℤ
S_up n N = n *ℤ up (N *ℤ N) (n *ℤ n) all_odds

unfoldable pub S_low : ℤ → ℤ
S_low N = N *ℤ low (N *ℤ N) all_odds

unfoldable pub f_up : ℕ → ℤ → ℤ → ℤ
f_up k n N = cosine_by neg_ℤ k (C_up n N) (S_up n N)

unfoldable pub f_low : ℕ → ℤ → ℤ
f_low k N = low_by_quarter k (C_low N) (S_low N)

-- every lower number is positive
zero_small : (D : ℤ) → pos 0 ≺ D → Small D (pos 0)
zero_small D h = record { positive = h; not_neg = record { le = tt }; small = cert! (D ∷ []) 0 (617 · ≺-≼ h) (search polys depth 60 fits 100000) tt }

C_low_pos : (N : ℤ) → pos 0 ≺ N → pos 0 ≺ C_low N
unfolding C_low
C_low_pos N h = (range' all_evens good_evens (zero_small (N *ℤ N) (square_pos N h))).above

S_low_pos : (N : ℤ) → pos 0 ≺ N → pos 0 ≺ S_low N
unfolding S_low
S_low_pos N h = product_pos N (low (N *ℤ N) all_odds) h (range' all_odds good_odds (zero_small (N *ℤ N) (square_pos N h))).above

pub f_low_pos : (k : ℕ) (N : ℤ) → pos 0 ≺ N → pos 0 ≺ f_low k N
unfolding f_low low_by_quarter
f_low_pos zero N h = C_low_pos N h
f_low_pos (suc zero) N h = S_low_pos N h
f_low_pos (suc (suc zero)) N h = C_low_pos N h
f_low_pos (suc (suc (suc k))) N h = S_low_pos N h

half_sin : (n N m K a A b B f g : ℤ) → Angle n N → Angle m K → pos 0 ≼ a → a ≼ A → pos 0 ≼ B → pos 0 ≼ f
    → g *ℤ (n *ℤ K -ℤ m *ℤ N) ≼ f *ℤ (N *ℤ K)
    → pos 10000 *ℤ g *ℤ (a *ℤ B -ℤ b *ℤ A) ≼ pos 2702 *ℤ f *ℤ (A *ℤ B) → pos 10000 *ℤ g *ℤ (b *ℤ A -ℤ a *ℤ B) ≼ pos 2702 *ℤ f *ℤ (A *ℤ B)
    → pos 50 *ℤ g *ℤ (n *ℤ a *ℤ (K *ℤ B) -ℤ m *ℤ b *ℤ (N *ℤ A)) ≼ pos 61 *ℤ f *ℤ (N *ℤ A *ℤ (K *ℤ B))
half_sin n N m K a A b B f g x y ha hA hB hf h p q =
    let hN = ≺-≼ x.positive in
    let hK = ≺-≼ y.positive in
    let e : pos 0 ≼ A = cert! (a ∷ A ∷ []) 0 (ha ⊞ gap hA) (search polys depth 60 fits 100000) tt in
    cert! (n ∷ N ∷ m ∷ K ∷ a ∷ A ∷ b ∷ B ∷ f ∷ g ∷ []) 1999999
    (100000000 · (ha ⊛ hB ⊛ gap h) ⊞ 100000000 · (hf ⊛ hN ⊛ hK ⊛ hB ⊛ gap hA) ⊞ 778492 · (hf ⊛ hN ⊛ e ⊛ hK ⊛ hB) ⊞ gap p ⊛ hN ⊛ gap y.least
    ⊞ gap q ⊛ hN ⊛ gap y.most)
    (search polys depth 60 fits 100000) tt

half_S : (n N m K f g : ℤ) → Angle n N → Angle m K → pos 0 ≼ f → Near g f n N m K
    → pos 50 *ℤ g *ℤ (S_up n N *ℤ S_low K -ℤ S_up m K *ℤ S_low N) ≼ pos 61 *ℤ f *ℤ (S_low N *ℤ S_low K)
unfolding S_up S_low
half_S n N m K f g x y hf h =
    let r = range' all_odds good_odds (angle_small x) in
    let r' = range' all_odds good_odds (angle_small y) in
    let c = near_coarse (pos 3927 *ℤ pos (lam all_odds)) (pos 2702) (pos 2500000000) (pos 10000) g f (record { lt = tt }) (record { le = tt }) hf r.above
    r'.above lam_odds (near_h all_odds good_odds n N m K f g x y hf h) in
    half_sin n N m K (up (N *ℤ N) (n *ℤ n) all_odds) (low (N *ℤ N) all_odds) (up (K *ℤ K) (m *ℤ m) all_odds) (low (K *ℤ K) all_odds) f g x y r.least
    r.most (≺-≼ r'.above) hf h.hi c.hi c.lo

pub turn_about : (g f a A b B : ℤ) → g *ℤ (b *ℤ A -ℤ a *ℤ B) ≼ f *ℤ (B *ℤ A) → g *ℤ (b *ℤ A -ℤ a *ℤ B) ≼ f *ℤ (A *ℤ B)
turn_about g f a A b B h = cert! (g ∷ f ∷ a ∷ A ∷ b ∷ B ∷ []) 0 (gap h) (search polys depth 60 fits 100000) tt

pub near_S : (n N m K f g : ℤ) → Angle n N → Angle m K → pos 0 ≼ f → Near g f n N m K
    → Near (pos 50 *ℤ g) (pos 61 *ℤ f) (S_up n N) (S_low N) (S_up m K) (S_low K)
near_S n N m K f g x y hf h = record {
  hi = half_S n N m K f g x y hf h;
  lo = turn_about (pos 50 *ℤ g) (pos 61 *ℤ f) (S_up n N) (S_low N) (S_up m K) (S_low K) (half_S m K n N f g y x hf (near_sym h));
}

pub near_C : (n N m K f g : ℤ) → Angle n N → Angle m K → pos 0 ≼ f → Near g f n N m K
    → Near (pos 50 *ℤ g) (pos 61 *ℤ f) (C_up n N) (C_low N) (C_up m K) (C_low K)
unfolding C_up C_low
near_C n N m K f g x y hf h =
    near_coarse (pos 3927 *ℤ pos (lam all_evens)) (pos 61) (pos 2500000000) (pos 50) g f (record { lt = tt }) (record { le = tt }) hf
    (range' all_evens good_evens (angle_small x)).above (range' all_evens good_evens (angle_small y)).above lam_evens
    (near_h all_evens good_evens n N m K f g x y hf h)

-- the Lipschitz bound, at any quarter
pub near_f : (k : ℕ) (n N m K f g : ℤ) → Angle n N → Angle m K → pos 0 ≼ f → Near g f n N m K
    → Near (pos 50 *ℤ g) (pos 61 *ℤ f) (f_up k n N) (f_low k N) (f_up k m K) (f_low k K)
unfolding f_up f_low cosine_by low_by_quarter
near_f zero n N m K f g x y hf h = near_C n N m K f g x y hf h
near_f (suc zero) n N m K f g x y hf h = near_neg (near_S n N m K f g x y hf h)
near_f (suc (suc zero)) n N m K f g x y hf h = near_neg (near_C n N m K f g x y hf h)
near_f (suc (suc (suc k))) n N m K f g x y hf h = near_S n N m K f g x y hf h
