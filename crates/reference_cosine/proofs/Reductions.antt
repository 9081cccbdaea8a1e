-- Two reductions of nearly the same angle, to the same quarter or to two that lie side by side. Assumes nothing.
use mathlib.Core.Path.{◌≡◌, sym, ap, ◌∙◌, subst}
use mathlib.Core.Logic.{◌⊎◌, inl, inr}
use mathlib.Core.List.{[], ◌∷◌}
use Prim.Native.Nat.{ℕ, zero, suc, ◌+◌, ◌%◌, ◌^◌, ◌<◌}
use native.Mathlib.Omega.{arith}
use lib.IntN.{ℤ, pos, ◌+ℤ◌, ◌-ℤ◌, ◌*ℤ◌, neg_ℤ}
use Rattle.integers.specs.Order.{◌≼◌, ◌≺◌}
use Rattle.integers.proofs.Pairs.{nonneg}
use Rattle.integers.proofs.Auto.{ring!, cert!, polys, gap, gap<, ◌⊞◌, ◌⊛◌, ◌·◌}
use Rattle.integers.proofs.Order.{≺-≼, ≼-or-≺, ≼-antisym}
use Rattle.integers.specs.Division.{modulo}
use Rattle.integers.proofs.Division.{modulo_lt, modulo_add}
use Rattle.units.specs.Units.{two_pi as A, four_radians as F}
use Rattle.cosine.specs.Cosine.{cosine_by}
use Rattle.reference_cosine.proofs.Divisors.{low_by_quarter}
use Rattle.reference_cosine.proofs.NestedSeries.{low, up}
use Rattle.integers.proofs.Near.{Near, near_sym, near_trans, near_weaken, near_times, near_as}
use Rattle.integers.proofs.Order.{product_pos}
use Rattle.reference_cosine.proofs.Lipschitz.{Angle, C_up, C_low, S_up, S_low, f_up, f_low, f_low_pos, near_f}

-- the boundary between two quarters is A / Y
abbrev pub Y : ℕ
Y = 8000000000000000000000000000000

-- ---- at the boundary the two quarters differ by at most 10^-23
boundary : (k : ℕ) → k < 4 → Near (pos (10 ^ 23)) (pos 1) (f_up k (pos A) (pos Y)) (f_low k (pos Y)) (f_up ((k + 1) % 4) (neg_ℤ (pos A)) (pos Y))
    (f_low ((k + 1) % 4) (pos Y))
unfolding f_up f_low cosine_by low_by_quarter C_up C_low S_up S_low low up
boundary zero h = record { hi = record { le = tt }; lo = record { le = tt } }
boundary (suc zero) h = record { hi = record { le = tt }; lo = record { le = tt } }
boundary (suc (suc zero)) h = record { hi = record { le = tt }; lo = record { le = tt } }
boundary (suc (suc (suc zero))) h = record { hi = record { le = tt }; lo = record { le = tt } }
boundary (suc (suc (suc (suc k)))) h = absurd (omega arith)

boundary_angle : Angle (pos A) (pos Y)
boundary_angle = record { positive = record { lt = tt }; most = record { le = tt }; least = record { le = tt } }

boundary_angle⁻ : Angle (neg_ℤ (pos A)) (pos Y)
boundary_angle⁻ = record { positive = record { lt = tt }; most = record { le = tt }; least = record { le = tt } }

-- ---- the distance of each angle from the boundary, over g = Y·s·N
here_near : (s N R R' f : ℤ) → pos 0 ≼ s → pos 0 ≼ N → R *ℤ (pos Y *ℤ N) -ℤ pos 2 *ℤ s *ℤ R' ≼ f → pos 2 *ℤ s *ℤ R' -ℤ R *ℤ (pos Y *ℤ N) ≼ f
    → Near (pos Y *ℤ s *ℤ N) f R s R' (pos F *ℤ N)
here_near s N R R' f hs hN h k =
    let ρ = s ∷ N ∷ R ∷ R' ∷ f ∷ [] in
    record {
      hi = cert! ρ 0 (4000000000000000000000000000000 · (hs ⊛ hN ⊛ gap h)) (search polys depth 60 fits 100000) tt;
      lo = cert! ρ 0 (4000000000000000000000000000000 · (hs ⊛ hN ⊛ gap k)) (search polys depth 60 fits 100000) tt;
    }

-- r = R/s lies at most gap/2 above the boundary H = A/Y
up_near : (s N R Q G : ℤ) → pos 0 ≼ s → pos 0 ≼ N → pos 0 ≼ G → pos 2 *ℤ R ≼ Q → Q *ℤ pos Y ≼ pos 2 *ℤ pos A *ℤ s +ℤ G
    → Near (pos Y *ℤ s *ℤ N) (N *ℤ (pos A *ℤ s -ℤ pos Y *ℤ R) +ℤ G *ℤ N) R s (pos A) (pos Y)
up_near s N R Q G hs hN hG h k =
    let ρ = s ∷ N ∷ R ∷ Q ∷ G ∷ [] in
    record {
      hi = cert! ρ 0 (8000000000000000000000000000000 · (hs ⊛ hN ⊛ (gap k ⊞ 8000000000000000000000000000000 · gap h))) (search polys depth 60 fits 100000) tt;
      lo = cert! ρ 0 (8000000000000000000000000000000 · (hs ⊛ hN ⊛ hG)) (search polys depth 60 fits 100000) tt;
    }

up_bound : (s N R Q G : ℤ) → pos 0 ≼ N → pos 0 ≼ G → pos 2 *ℤ R ≼ Q → Q *ℤ pos Y ≼ pos 2 *ℤ pos A *ℤ s +ℤ G → pos 0 ≼ N *ℤ (pos A *ℤ s -ℤ pos Y *ℤ R) +ℤ G *ℤ N
up_bound s N R Q G hN hG h k =
    cert! (s ∷ N ∷ R ∷ Q ∷ G ∷ []) 1 (hN ⊛ (gap k ⊞ 8000000000000000000000000000000 · gap h) ⊞ hG ⊛ hN) (search polys depth 60 fits 100000) tt

up_far : (s N R' : ℤ) → pos 0 ≼ s → pos 0 ≼ N → neg_ℤ (pos A *ℤ N) ≼ pos 2 *ℤ R'
    → Near (pos Y *ℤ s *ℤ N) (s *ℤ (pos 2 *ℤ R' +ℤ pos A *ℤ N)) (neg_ℤ (pos A)) (pos Y) R' (pos F *ℤ N)
up_far s N R' hs hN h =
    let ρ = s ∷ N ∷ R' ∷ [] in
    record {
      hi = cert! ρ 0 (64000000000000000000000000000000000000000000000000000000000000 · (hs ⊛ hN ⊛ gap h)) (search polys depth 60 fits 100000) tt;
      lo = cert! ρ 0 (nonneg 0) (search polys depth 60 fits 100000) tt;
    }

down_near : (s N R Q G : ℤ) → pos 0 ≼ s → pos 0 ≼ N → pos 0 ≼ G → neg_ℤ Q ≼ pos 2 *ℤ R → Q *ℤ pos Y ≼ pos 2 *ℤ pos A *ℤ s +ℤ G
    → Near (pos Y *ℤ s *ℤ N) (N *ℤ (pos A *ℤ s +ℤ pos Y *ℤ R) +ℤ G *ℤ N) R s (neg_ℤ (pos A)) (pos Y)
down_near s N R Q G hs hN hG h k =
    let ρ = s ∷ N ∷ R ∷ Q ∷ G ∷ [] in
    record {
      hi = cert! ρ 0 (8000000000000000000000000000000 · (hs ⊛ hN ⊛ hG)) (search polys depth 60 fits 100000) tt;
      lo = cert! ρ 0 (8000000000000000000000000000000 · (hs ⊛ hN ⊛ (gap k ⊞ 8000000000000000000000000000000 · gap h))) (search polys depth 60 fits 100000) tt;
    }

down_bound : (s N R Q G : ℤ) → pos 0 ≼ N → pos 0 ≼ G → neg_ℤ Q ≼ pos 2 *ℤ R → Q *ℤ pos Y ≼ pos 2 *ℤ pos A *ℤ s +ℤ G
    → pos 0 ≼ N *ℤ (pos A *ℤ s +ℤ pos Y *ℤ R) +ℤ G *ℤ N
down_bound s N R Q G hN hG h k =
    cert! (s ∷ N ∷ R ∷ Q ∷ G ∷ []) 1 (hN ⊛ (gap k ⊞ 8000000000000000000000000000000 · gap h) ⊞ hG ⊛ hN) (search polys depth 60 fits 100000) tt

down_far : (s N R' : ℤ) → pos 0 ≼ s → pos 0 ≼ N → pos 2 *ℤ R' ≼ pos A *ℤ N
    → Near (pos Y *ℤ s *ℤ N) (s *ℤ (pos A *ℤ N -ℤ pos 2 *ℤ R')) (pos A) (pos Y) R' (pos F *ℤ N)
down_far s N R' hs hN h =
    let ρ = s ∷ N ∷ R' ∷ [] in
    record {
      hi = cert! ρ 0 (nonneg 0) (search polys depth 60 fits 100000) tt;
      lo = cert! ρ 0 (64000000000000000000000000000000000000000000000000000000000000 · (hs ⊛ hN ⊛ gap h)) (search polys depth 60 fits 100000) tt;
    }

-- ---- the three cases: the same quarter, the next, the one before
abbrev pub B : ℕ
B = 100000000000000000000000

-- the bound, over 50·g·B with g = Y·s·N
abbrev pub bound : ℤ → ℤ → ℤ → ℤ → ℤ
bound s N G f = pos 61 *ℤ pos B *ℤ (f +ℤ G *ℤ N) +ℤ pos 50 *ℤ (pos Y *ℤ s *ℤ N)

abbrev pub over : ℤ → ℤ → ℤ
over s N = pos 50 *ℤ (pos Y *ℤ s *ℤ N) *ℤ pos B

same_quarter : (k : ℕ) (s N R R' G f : ℤ) → pos 0 ≺ s → pos 0 ≺ N → pos 0 ≼ G → pos 0 ≼ f → Angle R s → Angle R' (pos F *ℤ N)
    → R *ℤ (pos Y *ℤ N) -ℤ pos 2 *ℤ s *ℤ R' ≼ f → pos 2 *ℤ s *ℤ R' -ℤ R *ℤ (pos Y *ℤ N) ≼ f
    → Near (over s N) (bound s N G f) (f_up k R s) (f_low k s) (f_up k R' (pos F *ℤ N)) (f_low k (pos F *ℤ N))
same_quarter k s N R R' G f hs hN hG hf a a' h h' =
    near_as (over s N) (bound s N G f) (f_low_pos k s hs) (f_low_pos k (pos F *ℤ N) a'.positive)
    (ring! (s ∷ N ∷ []) (search polys depth 60 fits 100000) tt)
    (cert! (s ∷ N ∷ G ∷ f ∷ []) 0 (6100000000000000000000000 · (hG ⊛ ≺-≼ hN) ⊞ 400000000000000000000000000000000 · (≺-≼ hs ⊛ ≺-≼ hN))
    (search polys depth 60 fits 100000) tt)
    (near_times (pos B) (nonneg B) (near_f k R s R' (pos F *ℤ N) f (pos Y *ℤ s *ℤ N) a a' hf (here_near s N R R' f (≺-≼ hs) (≺-≼ hN) h h')))

-- through the boundary x/Y, from the quarter k to the quarter k'
across : (k k' : ℕ) (s N R R' x x' f f₁ f₂ G : ℤ) → pos 0 ≺ s → pos 0 ≺ N → pos 0 ≼ f₁ → pos 0 ≼ f₂ → Angle R s → Angle R' (pos F *ℤ N) → Angle x (pos Y)
    → Angle x' (pos Y)
    → Near (pos Y *ℤ s *ℤ N) f₁ R s x (pos Y) → Near (pos B) (pos 1) (f_up k x (pos Y)) (f_low k (pos Y)) (f_up k' x' (pos Y)) (f_low k' (pos Y))
    → Near (pos Y *ℤ s *ℤ N) f₂ x' (pos Y) R' (pos F *ℤ N)
    → f₁ +ℤ f₂ ≼ f +ℤ G *ℤ N
    → Near (over s N) (bound s N G f) (f_up k R s) (f_low k s) (f_up k' R' (pos F *ℤ N)) (f_low k' (pos F *ℤ N))
across k k' s N R R' x x' f f₁ f₂ G hs hN h₁ h₂ a a' b b' n₁ m n₂ l =
    let g = pos Y *ℤ s *ℤ N in
    let hY : pos 0 ≺ pos Y = record { lt = tt } in
    let p = f_low_pos k s hs in
    let p₁ = f_low_pos k (pos Y) hY in
    let p₂ = f_low_pos k' (pos Y) hY in
    let p' = f_low_pos k' (pos F *ℤ N) a'.positive in
    let one : Near (pos B *ℤ (pos 50 *ℤ g)) (pos B *ℤ (pos 61 *ℤ f₁)) (f_up k R s) (f_low k s) (f_up k x (pos Y)) (f_low k (pos Y)) =
    near_times (pos B) (nonneg B) (near_f k R s x (pos Y) f₁ g a b h₁ n₁) in
    let two : Near (pos 50 *ℤ g *ℤ pos B) (pos 50 *ℤ g *ℤ pos 1) (f_up k x (pos Y)) (f_low k (pos Y)) (f_up k' x' (pos Y)) (f_low k' (pos Y)) =
    near_times (pos 50 *ℤ g) (nonneg 50 ⊛ (nonneg Y ⊛ ≺-≼ hs ⊛ ≺-≼ hN)) m in
    let three : Near (pos B *ℤ (pos 50 *ℤ g)) (pos B *ℤ (pos 61 *ℤ f₂)) (f_up k' x' (pos Y)) (f_low k' (pos Y)) (f_up k' R' (pos F *ℤ N))
    (f_low k' (pos F *ℤ N)) = near_times (pos B) (nonneg B) (near_f k' x' (pos Y) R' (pos F *ℤ N) f₂ g b' a' h₂ n₂) in
    near_weaken (bound s N G f) p p'
    (cert! (s ∷ N ∷ f ∷ f₁ ∷ f₂ ∷ G ∷ []) 0 (6100000000000000000000000 · gap l) (search polys depth 60 fits 100000) tt)
    (near_trans p p₂ p' (near_trans p p₁ p₂
    (subst (λ t. Near t (pos B *ℤ (pos 61 *ℤ f₁)) (f_up k R s) (f_low k s) (f_up k x (pos Y)) (f_low k (pos Y))) (same_over s N) one) two)
    (subst (λ t. Near t (pos B *ℤ (pos 61 *ℤ f₂)) (f_up k' x' (pos Y)) (f_low k' (pos Y)) (f_up k' R' (pos F *ℤ N)) (f_low k' (pos F *ℤ N))) (same_over s N)
    three))
  where
    same_over : (s N : ℤ) → pos B *ℤ (pos 50 *ℤ (pos Y *ℤ s *ℤ N)) ≡ over s N
    same_over s N = ring! (s ∷ N ∷ []) (search polys depth 60 fits 100000) tt

-- ---- all of them
pub data Beside (q q' : ℤ) : Type 0 where
  same_one : q' ≡ q → Beside q q'
  next : q' ≡ q +ℤ pos 1 → Beside q q'
  before : q ≡ q' +ℤ pos 1 → Beside q q'

beside : (q q' : ℤ) → q' ≼ q +ℤ pos 1 → q ≼ q' +ℤ pos 1 → Beside q q'
beside q q' h k = go (≼-or-≺ q' q) (≼-or-≺ q q')
  where
    go : (q' ≼ q) ⊎ (q ≺ q') → (q ≼ q') ⊎ (q' ≺ q) → Beside q q'
    go (inl a) (inl b) = same_one (≼-antisym q' q a b)
    go (inl a) (inr b) = before (≼-antisym q (q' +ℤ pos 1) k (cert! (q ∷ q' ∷ []) 0 (gap< b) (search polys depth 60 fits 100000) tt))
    go (inr a) _ = next (≼-antisym q' (q +ℤ pos 1) h (cert! (q ∷ q' ∷ []) 0 (gap< a) (search polys depth 60 fits 100000) tt))

-- the quarter after that of q is that of q + 1
order : (q j : ℤ) → q +ℤ pos 1 +ℤ j ≡ q +ℤ j +ℤ pos 1
order q j = ring! (q ∷ j ∷ []) (search polys depth 60 fits 100000) tt

next_quarter : (q j : ℤ) → modulo (q +ℤ pos 1 +ℤ j) 4 ≡ (modulo (q +ℤ j) 4 + 1) % 4
unfolding modulo
next_quarter q j = ap (λ t. modulo t 4) (order q j) ∙ modulo_add (q +ℤ j) (pos 1) 4 (omega arith)

-- What is known of two reductions: R/s of quarter q, by the quarter Q/s, and R'/(F·N) of quarter q', by the reference's, of nearly one angle; G/(Y·s)
-- bounds Q/s less the reference's quarter.
-- f/(Y·s·N) bounds the difference of the angles before the second is reduced
pub record Two (Q s N G R R' q q' f : ℤ) : Type 0 where
  pub s_pos : pos 0 ≺ s
  pub N_pos : pos 0 ≺ N
  pub G_pos : pos 0 ≼ G
  pub f_pos : pos 0 ≼ f
  pub quarter : Q *ℤ pos Y ≼ pos 2 *ℤ pos A *ℤ s +ℤ G
  pub R_most : pos 2 *ℤ R ≼ Q
  pub R_least : neg_ℤ Q ≼ pos 2 *ℤ R
  pub R_angle : Angle R s
  pub R'_most : pos 2 *ℤ R' ≼ pos A *ℤ N
  pub R'_least : neg_ℤ (pos A *ℤ N) ≼ pos 2 *ℤ R'
  pub above : R *ℤ (pos Y *ℤ N) -ℤ pos 2 *ℤ s *ℤ (R' +ℤ (q' -ℤ q) *ℤ (pos A *ℤ N)) ≼ f
  pub below : pos 2 *ℤ s *ℤ (R' +ℤ (q' -ℤ q) *ℤ (pos A *ℤ N)) -ℤ R *ℤ (pos Y *ℤ N) ≼ f
  pub near_enough : f +ℤ G *ℤ N ≺ pos 2 *ℤ s *ℤ (pos A *ℤ N)

pub R'_angle : (N R' : ℤ) → pos 0 ≺ N → pos 2 *ℤ R' ≼ pos A *ℤ N → neg_ℤ (pos A *ℤ N) ≼ pos 2 *ℤ R' → Angle R' (pos F *ℤ N)
R'_angle N R' hN h k = record {
  positive = product_pos (pos F) N (record { lt = tt }) hN;
  most = cert! (N ∷ R' ∷ []) 0 (2500 · gap h ⊞ 36732051033807686783083602500 · ≺-≼ hN) (search polys depth 60 fits 100000) tt;
  least = cert! (N ∷ R' ∷ []) 0 (2500 · gap k ⊞ 36732051033807686783083602500 · ≺-≼ hN) (search polys depth 60 fits 100000) tt;
}

not_far : (Q s N G R R' q q' f : ℤ) → Two Q s N G R R' q q' f → q' ≼ q +ℤ pos 1
not_far Q s N G R R' q q' f t = go (≼-or-≺ q' (q +ℤ pos 1))
  where
    go : (q' ≼ q +ℤ pos 1) ⊎ (q +ℤ pos 1 ≺ q') → q' ≼ q +ℤ pos 1
    go (inl h) = h
    go (inr h) =
        let hs = ≺-≼ t.s_pos in
        let hN = ≺-≼ t.N_pos in
        let bad : pos 1 ≼ pos 0 = cert! (Q ∷ s ∷ N ∷ G ∷ R ∷ R' ∷ q ∷ q' ∷ f ∷ []) 0
        (2 · gap t.below ⊞ hN ⊛ gap t.quarter ⊞ 8000000000000000000000000000000 · (hN ⊛ gap t.R_most) ⊞ 2 · (hs ⊛ gap t.R'_least)
        ⊞ 25132741228718345907701147066236 · (hs ⊛ hN ⊛ gap< h) ⊞ 2 · gap< t.near_enough ⊞ t.G_pos ⊛ hN)
        (search polys depth 60 fits 100000) tt in
        absurd bad.le

not_far⁻ : (Q s N G R R' q q' f : ℤ) → Two Q s N G R R' q q' f → q ≼ q' +ℤ pos 1
not_far⁻ Q s N G R R' q q' f t = go (≼-or-≺ q (q' +ℤ pos 1))
  where
    go : (q ≼ q' +ℤ pos 1) ⊎ (q' +ℤ pos 1 ≺ q) → q ≼ q' +ℤ pos 1
    go (inl h) = h
    go (inr h) =
        let hs = ≺-≼ t.s_pos in
        let hN = ≺-≼ t.N_pos in
        let bad : pos 1 ≼ pos 0 = cert! (Q ∷ s ∷ N ∷ G ∷ R ∷ R' ∷ q ∷ q' ∷ f ∷ []) 0
        (2 · gap t.above ⊞ hN ⊛ gap t.quarter ⊞ 8000000000000000000000000000000 · (hN ⊛ gap t.R_least) ⊞ 2 · (hs ⊛ gap t.R'_most)
        ⊞ 25132741228718345907701147066236 · (hs ⊛ hN ⊛ gap< h) ⊞ 2 · gap< t.near_enough ⊞ t.G_pos ⊛ hN)
        (search polys depth 60 fits 100000) tt in
        absurd bad.le

-- f of the two quarters
abbrev pub Agree : ℕ → ℕ → ℤ → ℤ → ℤ → ℤ → ℤ → ℤ → Type 0
Agree k k' s N G R R' f = Near (over s N) (bound s N G f) (f_up k R s) (f_low k s) (f_up k' R' (pos F *ℤ N)) (f_low k' (pos F *ℤ N))

case_same : (k : ℕ) (Q s N G R R' q f : ℤ) → Two Q s N G R R' q q f → Agree k k s N G R R' f
case_same k Q s N G R R' q f t =
    same_quarter k s N R R' G f t.s_pos t.N_pos t.G_pos t.f_pos t.R_angle (R'_angle N R' t.N_pos t.R'_most t.R'_least)
    (cert! (s ∷ N ∷ R ∷ R' ∷ q ∷ f ∷ []) 0 (gap t.above) (search polys depth 60 fits 100000) tt)
    (cert! (s ∷ N ∷ R ∷ R' ∷ q ∷ f ∷ []) 0 (gap t.below) (search polys depth 60 fits 100000) tt)

case_next : (k : ℕ) → k < 4 → (Q s N G R R' q f : ℤ) → Two Q s N G R R' q (q +ℤ pos 1) f → Agree k ((k + 1) % 4) s N G R R' f
case_next k l Q s N G R R' q f t =
    let hs = ≺-≼ t.s_pos in
    let hN = ≺-≼ t.N_pos in
    across k ((k + 1) % 4) s N R R' (pos A) (neg_ℤ (pos A)) f (N *ℤ (pos A *ℤ s -ℤ pos Y *ℤ R) +ℤ G *ℤ N) (s *ℤ (pos 2 *ℤ R' +ℤ pos A *ℤ N)) G
    t.s_pos t.N_pos (up_bound s N R Q G hN t.G_pos t.R_most t.quarter)
    (cert! (s ∷ N ∷ R' ∷ []) 0 (hs ⊛ gap t.R'_least) (search polys depth 60 fits 100000) tt)
    t.R_angle (R'_angle N R' t.N_pos t.R'_most t.R'_least) boundary_angle boundary_angle⁻
    (up_near s N R Q G hs hN t.G_pos t.R_most t.quarter) (boundary k l) (up_far s N R' hs hN t.R'_least)
    (cert! (s ∷ N ∷ R ∷ R' ∷ q ∷ f ∷ G ∷ []) 0 (gap t.below) (search polys depth 60 fits 100000) tt)

case_before : (k : ℕ) → k < 4 → (Q s N G R R' q' f : ℤ) → Two Q s N G R R' (q' +ℤ pos 1) q' f → Agree ((k + 1) % 4) k s N G R R' f
case_before k l Q s N G R R' q' f t =
    let hs = ≺-≼ t.s_pos in
    let hN = ≺-≼ t.N_pos in
    across ((k + 1) % 4) k s N R R' (neg_ℤ (pos A)) (pos A) f (N *ℤ (pos A *ℤ s +ℤ pos Y *ℤ R) +ℤ G *ℤ N) (s *ℤ (pos A *ℤ N -ℤ pos 2 *ℤ R')) G
    t.s_pos t.N_pos (down_bound s N R Q G hN t.G_pos t.R_least t.quarter)
    (cert! (s ∷ N ∷ R' ∷ []) 0 (hs ⊛ gap t.R'_most) (search polys depth 60 fits 100000) tt)
    t.R_angle (R'_angle N R' t.N_pos t.R'_most t.R'_least) boundary_angle⁻ boundary_angle
    (down_near s N R Q G hs hN t.G_pos t.R_least t.quarter) (near_sym (boundary k l)) (down_far s N R' hs hN t.R'_most)
    (cert! (s ∷ N ∷ R ∷ R' ∷ q' ∷ f ∷ G ∷ []) 0 (gap t.above) (search polys depth 60 fits 100000) tt)

pub near_two : (j Q s N G R R' q q' f : ℤ) → Two Q s N G R R' q q' f → Agree (modulo (q +ℤ j) 4) (modulo (q' +ℤ j) 4) s N G R R' f
near_two j Q s N G R R' q q' f t = go (beside q q' (not_far Q s N G R R' q q' f t) (not_far⁻ Q s N G R R' q q' f t))
  where
    go : Beside q q' → Agree (modulo (q +ℤ j) 4) (modulo (q' +ℤ j) 4) s N G R R' f
    go (same_one e) =
        subst (λ x. Agree (modulo (q +ℤ j) 4) (modulo (x +ℤ j) 4) s N G R R' f) (sym e)
        (case_same (modulo (q +ℤ j) 4) Q s N G R R' q f (subst (λ x. Two Q s N G R R' q x f) e t))
    go (next e) =
        subst (λ x. Agree (modulo (q +ℤ j) 4) (modulo (x +ℤ j) 4) s N G R R' f) (sym e)
        (subst (λ x. Agree (modulo (q +ℤ j) 4) x s N G R R' f) (sym (next_quarter q j))
        (case_next (modulo (q +ℤ j) 4) (modulo_lt (q +ℤ j) 4 (omega arith)) Q s N G R R' q f (subst (λ x. Two Q s N G R R' q x f) e t)))
    go (before e) =
        subst (λ x. Agree (modulo (x +ℤ j) 4) (modulo (q' +ℤ j) 4) s N G R R' f) (sym e)
        (subst (λ x. Agree x (modulo (q' +ℤ j) 4) s N G R R' f) (sym (next_quarter q' j))
        (case_before (modulo (q' +ℤ j) 4) (modulo_lt (q' +ℤ j) 4 (omega arith)) Q s N G R R' q' f (subst (λ x. Two Q s N G R R' x q' f) e t)))
