-- The working parts of any angle against the nested series of any fraction near it. Assumes nothing.
use mathlib.Core.List.{[], ◌∷◌}
use Prim.Native.Nat.{ℕ, ◌*◌, ◌<◌}
use native.Mathlib.Omega.{arith}
use lib.IntN.{ℤ, pos, ◌+ℤ◌, ◌-ℤ◌, ◌*ℤ◌, neg_ℤ}
use Rattle.integers.specs.Order.{◌≼◌, ◌≺◌}
use Rattle.integers.proofs.Pairs.{nonneg}
use Rattle.integers.proofs.Auto.{ring!, cert!, polys, gap, gap<, ◌⊞◌, ◌⊛◌, ◌·◌}
use Rattle.integers.proofs.Order.{≺-≼, product_pos, ≺-nat}
use Rattle.integers.specs.Division.{rounded, modulo}
use Rattle.integers.proofs.Division.{rounded_low, rounded_high}
use Rattle.units.specs.Units.{U, two_pi as A, four_radians as F}
use Rattle.cosine.specs.Cosine.{q_of, r_of, w_of}
use Rattle.reference_cosine.specs.Reference.{ref_q, ref_r}
use Rattle.integers.proofs.Near.{Near, near_trans, near_weaken, near_times, near_as}
use Rattle.reference_cosine.proofs.Lipschitz.{Angle, f_up, f_low, f_low_pos, near_f}
use Rattle.reference_cosine.proofs.WorkingSeries.{rounded_most, rounded_least, working, near_working}
use Rattle.reference_cosine.proofs.Reductions.{Y, B, bound, Two, Agree, near_two}

-- a turn of four quarters Q in 1/(step·U), with G/(Y·step·U) the most that Q/(step·U) differs from the reference's quarter
pub record Turn (Q step G : ℕ) : Type 0 where
  pub Q_pos : 0 < Q
  pub step_pos : 0 < step
  pub eighth : pos Q ≼ pos 1570800000 *ℤ pos step
  pub gap_most : pos Q *ℤ pos Y ≼ pos 2 *ℤ pos A *ℤ (pos step *ℤ pos U) +ℤ pos G
  pub gap_least : pos 2 *ℤ pos A *ℤ (pos step *ℤ pos U) ≼ pos Q *ℤ pos Y +ℤ pos G

-- ---- the remainder
r_most : (Q : ℕ) → 0 < Q → (x : ℤ) → pos 2 *ℤ r_of Q x ≼ pos Q
unfolding r_of q_of
r_most Q h x = cert! (pos Q ∷ x ∷ rounded x Q ∷ []) 0 (gap< (rounded_high x Q h) ⊞ nonneg 1) (search polys depth 60 fits 100000) tt

r_least : (Q : ℕ) → 0 < Q → (x : ℤ) → neg_ℤ (pos Q) ≼ pos 2 *ℤ r_of Q x
unfolding r_of q_of
r_least Q h x = cert! (pos Q ∷ x ∷ rounded x Q ∷ []) 0 (gap (rounded_low x Q h)) (search polys depth 60 fits 100000) tt

pub ref_most : (n : ℤ) (N : ℕ) → 0 < N → pos 2 *ℤ ref_r n N ≼ pos A *ℤ pos N
unfolding ref_r ref_q
ref_most n N h = cert! (n ∷ pos N ∷ rounded (n *ℤ pos F) (A * N) ∷ []) 0 (gap< (rounded_high (n *ℤ pos F) (A * N) (omega arith)) ⊞ nonneg 1)
    (search polys depth 60 fits 100000) tt

pub ref_least : (n : ℤ) (N : ℕ) → 0 < N → neg_ℤ (pos A *ℤ pos N) ≼ pos 2 *ℤ ref_r n N
unfolding ref_r ref_q
ref_least n N h = cert! (n ∷ pos N ∷ rounded (n *ℤ pos F) (A * N) ∷ []) 0 (gap (rounded_low (n *ℤ pos F) (A * N) (omega arith)))
    (search polys depth 60 fits 100000) tt

-- ---- the angles r/s and w/U
r_angle : {Q step G : ℕ} → Turn Q step G → (x : ℤ) → Angle (r_of Q x) (pos step *ℤ pos U)
r_angle {Q} {step} {G} t x =
    let ρ = pos Q ∷ pos step ∷ r_of Q x ∷ [] in
    record {
      positive = product_pos (pos step) (pos U) (≺-nat step t.step_pos) (record { lt = tt });
      most = cert! ρ 0 (2500 · gap (r_most Q t.Q_pos x) ⊞ 2500 · gap t.eighth) (search polys depth 60 fits 100000) tt;
      least = cert! ρ 0 (2500 · gap (r_least Q t.Q_pos x) ⊞ 2500 · gap t.eighth) (search polys depth 60 fits 100000) tt;
    }

pub w_angle : {Q step G : ℕ} → Turn Q step G → (x : ℤ) → Angle (w_of Q step x) (pos U)
unfolding w_of
w_angle {Q} {step} {G} t x =
    let ρ = pos Q ∷ pos step ∷ r_of Q x ∷ [] in
    let hi : rounded (r_of Q x) step ≼ pos 785400000 =
    rounded_most (r_of Q x) (pos 785400000) step t.step_pos
    (cert! ρ 1 (gap (r_most Q t.Q_pos x) ⊞ gap t.eighth) (search polys depth 60 fits 100000) tt) in
    let lo : neg_ℤ (pos 785400000) ≼ rounded (r_of Q x) step =
    rounded_least (r_of Q x) (neg_ℤ (pos 785400000)) step t.step_pos
    (cert! ρ 1 (gap (r_least Q t.Q_pos x) ⊞ gap t.eighth) (search polys depth 60 fits 100000) tt) in
    record {
      positive = record { lt = tt };
      most = cert! (rounded (r_of Q x) step ∷ []) 0 (5000 · gap hi) (search polys depth 60 fits 100000) tt;
      least = cert! (rounded (r_of Q x) step ∷ []) 0 (5000 · gap lo) (search polys depth 60 fits 100000) tt;
    }

w_near : (R : ℤ) (step : ℕ) → 0 < step → Near (pos 2 *ℤ pos U) (pos 1) (rounded R step) (pos U) R (pos step *ℤ pos U)
w_near R step h =
    let ρ = R ∷ pos step ∷ rounded R step ∷ [] in
    record {
      hi = cert! ρ 0 (1000000000000000000 · gap (rounded_low R step h)) (search polys depth 60 fits 100000) tt;
      lo = cert! ρ 0 (1000000000000000000 · (gap< (rounded_high R step h) ⊞ nonneg 1)) (search polys depth 60 fits 100000) tt;
    }

-- ---- the errors of all steps together
-- with g = Y·s·N and f/g a bound of the angles' difference, over 1000·U·g·B: 1.003/U + 0.61/U + 1.22·(f/g + G/(Y·s)) + 1/B
abbrev pub whole : ℤ → ℤ → ℤ
whole s N = pos 1000 *ℤ pos U *ℤ (pos Y *ℤ s *ℤ N) *ℤ pos B

abbrev pub all_errors : ℤ → ℤ → ℤ → ℤ → ℤ
all_errors s N G f = pos 1613 *ℤ (pos Y *ℤ s *ℤ N) *ℤ pos B +ℤ pos 1220 *ℤ pos U *ℤ pos B *ℤ (f +ℤ G *ℤ N) +ℤ pos 1000 *ℤ pos U *ℤ (pos Y *ℤ s *ℤ N)

three_steps : (k k' : ℕ) (w R R' s N G f : ℤ) → pos 0 ≺ s → pos 0 ≺ N → Angle w (pos U) → Angle R s → Near (pos 2 *ℤ pos U) (pos 1) w (pos U) R s
    → Agree k k' s N G R R' f
    → Near (whole s N) (all_errors s N G f) (working k w) (pos U) (f_up k' R' (pos F *ℤ N)) (f_low k' (pos F *ℤ N))
three_steps k k' w R R' s N G f hs hN a b h c =
    let g = pos Y *ℤ s *ℤ N in
    let hg : pos 0 ≼ g = nonneg Y ⊛ ≺-≼ hs ⊛ ≺-≼ hN in
    let hU : pos 0 ≺ pos U = record { lt = tt } in
    let p₁ = f_low_pos k (pos U) hU in
    let p₂ = f_low_pos k s hs in
    let p₃ = f_low_pos k' (pos F *ℤ N) (product_pos (pos F) N (record { lt = tt }) hN) in
    let one : Near (whole s N) (pos 1003 *ℤ g *ℤ pos B) (working k w) (pos U) (f_up k w (pos U)) (f_low k (pos U)) =
    near_as (whole s N) (pos 1003 *ℤ g *ℤ pos B) hU p₁ (ring! (s ∷ N ∷ []) (search polys depth 60 fits 100000) tt)
    (cert! (s ∷ N ∷ []) 0 (nonneg 0) (search polys depth 60 fits 100000) tt)
    (near_times (g *ℤ pos B) (hg ⊛ nonneg B) (near_working k w a)) in
    let two : Near (whole s N) (pos 610 *ℤ g *ℤ pos B) (f_up k w (pos U)) (f_low k (pos U)) (f_up k R s) (f_low k s) =
    near_as (whole s N) (pos 610 *ℤ g *ℤ pos B) p₁ p₂ (ring! (s ∷ N ∷ []) (search polys depth 60 fits 100000) tt)
    (cert! (s ∷ N ∷ []) 0 (nonneg 0) (search polys depth 60 fits 100000) tt)
    (near_times (pos 10 *ℤ g *ℤ pos B) (nonneg 10 ⊛ hg ⊛ nonneg B) (near_f k w (pos U) R s (pos 1) (pos 2 *ℤ pos U) a b (nonneg 1) h)) in
    let three : Near (whole s N) (pos 20 *ℤ pos U *ℤ bound s N G f) (f_up k R s) (f_low k s) (f_up k' R' (pos F *ℤ N)) (f_low k' (pos F *ℤ N)) =
    near_as (whole s N) (pos 20 *ℤ pos U *ℤ bound s N G f) p₂ p₃ (ring! (s ∷ N ∷ []) (search polys depth 60 fits 100000) tt)
    (cert! (s ∷ N ∷ G ∷ f ∷ []) 0 (nonneg 0) (search polys depth 60 fits 100000) tt)
    (near_times (pos 20 *ℤ pos U) (nonneg 20000000000) c) in
    near_weaken (all_errors s N G f) hU p₃ (cert! (s ∷ N ∷ G ∷ f ∷ []) 0 (nonneg 0) (search polys depth 60 fits 100000) tt)
    (near_trans hU p₂ p₃ (near_trans hU p₁ p₂ one two) three)

-- the difference of the angles, with that of the turns
spread : (Q s N G X n q q' m e : ℤ) → pos 0 ≼ N → pos Y *ℤ (X *ℤ N -ℤ s *ℤ n) ≼ e → q ≼ m → neg_ℤ m ≼ q → Q *ℤ pos Y ≼ pos 2 *ℤ pos A *ℤ s +ℤ G
    → pos 2 *ℤ pos A *ℤ s ≼ Q *ℤ pos Y +ℤ G
    → (X -ℤ q *ℤ Q) *ℤ (pos Y *ℤ N) -ℤ pos 2 *ℤ s *ℤ (n *ℤ pos F -ℤ q' *ℤ (pos A *ℤ N) +ℤ (q' -ℤ q) *ℤ (pos A *ℤ N)) ≼ e +ℤ m *ℤ G *ℤ N
spread Q s N G X n q q' m e hN h a b c d =
    cert! (Q ∷ s ∷ N ∷ G ∷ X ∷ n ∷ q ∷ q' ∷ m ∷ e ∷ []) 1 (2 · gap h ⊞ hN ⊛ (gap b ⊛ gap d ⊞ gap a ⊛ gap c)) (search polys depth 60 fits 100000) tt

spread⁻ : (Q s N G X n q q' m e : ℤ) → pos 0 ≼ N → neg_ℤ e ≼ pos Y *ℤ (X *ℤ N -ℤ s *ℤ n) → q ≼ m → neg_ℤ m ≼ q → Q *ℤ pos Y ≼ pos 2 *ℤ pos A *ℤ s +ℤ G
    → pos 2 *ℤ pos A *ℤ s ≼ Q *ℤ pos Y +ℤ G
    → pos 2 *ℤ s *ℤ (n *ℤ pos F -ℤ q' *ℤ (pos A *ℤ N) +ℤ (q' -ℤ q) *ℤ (pos A *ℤ N)) -ℤ (X -ℤ q *ℤ Q) *ℤ (pos Y *ℤ N) ≼ e +ℤ m *ℤ G *ℤ N
spread⁻ Q s N G X n q q' m e hN h a b c d =
    cert! (Q ∷ s ∷ N ∷ G ∷ X ∷ n ∷ q ∷ q' ∷ m ∷ e ∷ []) 1 (2 · gap h ⊞ hN ⊛ (gap a ⊛ gap d ⊞ gap b ⊛ gap c)) (search polys depth 60 fits 100000) tt

-- X/s and n/N differ by at most e/(Y·s·N), and the quarter of X is at most m
pub record CloseAngles (Q step G : ℕ) (X n : ℤ) (N : ℕ) (m e : ℤ) : Type 0 where
  pub N_pos : 0 < N
  pub m_pos : pos 0 ≼ m
  pub e_pos : pos 0 ≼ e
  pub q_most : q_of Q X ≼ m
  pub q_least : neg_ℤ m ≼ q_of Q X
  pub e_most : pos Y *ℤ (X *ℤ pos N -ℤ pos step *ℤ pos U *ℤ n) ≼ e
  pub e_least : neg_ℤ e ≼ pos Y *ℤ (X *ℤ pos N -ℤ pos step *ℤ pos U *ℤ n)
  pub near_enough : e +ℤ m *ℤ pos G *ℤ pos N +ℤ pos G *ℤ pos N ≺ pos 2 *ℤ (pos step *ℤ pos U) *ℤ (pos A *ℤ pos N)

two_of : {Q step G : ℕ} → Turn Q step G → (X n : ℤ) (N : ℕ) (m e : ℤ) → CloseAngles Q step G X n N m e
    → Two (pos Q) (pos step *ℤ pos U) (pos N) (pos G) (r_of Q X) (ref_r n N) (q_of Q X) (ref_q n N) (e +ℤ m *ℤ pos G *ℤ pos N)
two_of {Q} {step} {G} t X n N m e c = record {
  s_pos = product_pos (pos step) (pos U) (≺-nat step t.step_pos) (record { lt = tt });
  N_pos = ≺-nat N c.N_pos;
  G_pos = nonneg G;
  f_pos = c.e_pos ⊞ c.m_pos ⊛ nonneg G ⊛ nonneg N;
  quarter = t.gap_most;
  R_most = r_most Q t.Q_pos X;
  R_least = r_least Q t.Q_pos X;
  R_angle = r_angle t X;
  R'_most = ref_most n N c.N_pos;
  R'_least = ref_least n N c.N_pos;
  above = above_of;
  below = below_of;
  near_enough = c.near_enough;
}
  where
    above_of : r_of Q X *ℤ (pos Y *ℤ pos N) -ℤ pos 2 *ℤ (pos step *ℤ pos U) *ℤ (ref_r n N +ℤ (ref_q n N -ℤ q_of Q X) *ℤ (pos A *ℤ pos N))
        ≼ e +ℤ m *ℤ pos G *ℤ pos N
    above_of = unfold r_of ref_r in
        spread (pos Q) (pos step *ℤ pos U) (pos N) (pos G) X n (q_of Q X) (ref_q n N) m e (nonneg N) c.e_most c.q_most c.q_least t.gap_most
        t.gap_least

    below_of : pos 2 *ℤ (pos step *ℤ pos U) *ℤ (ref_r n N +ℤ (ref_q n N -ℤ q_of Q X) *ℤ (pos A *ℤ pos N)) -ℤ r_of Q X *ℤ (pos Y *ℤ pos N)
        ≼ e +ℤ m *ℤ pos G *ℤ pos N
    below_of = unfold r_of ref_r in
        spread⁻ (pos Q) (pos step *ℤ pos U) (pos N) (pos G) X n (q_of Q X) (ref_q n N) m e (nonneg N) c.e_least c.q_most c.q_least t.gap_most
        t.gap_least

pub near_any : {Q step G : ℕ} → Turn Q step G → (j X n : ℤ) (N : ℕ) (m e : ℤ) → CloseAngles Q step G X n N m e
    → Near (whole (pos step *ℤ pos U) (pos N)) (all_errors (pos step *ℤ pos U) (pos N) (pos G) (e +ℤ m *ℤ pos G *ℤ pos N))
    (working (modulo (q_of Q X +ℤ j) 4) (w_of Q step X)) (pos U) (f_up (modulo (ref_q n N +ℤ j) 4) (ref_r n N) (pos F *ℤ pos N))
    (f_low (modulo (ref_q n N +ℤ j) 4) (pos F *ℤ pos N))
near_any {Q} {step} {G} t j X n N m e c =
    let two = two_of t X n N m e c in
    three_steps (modulo (q_of Q X +ℤ j) 4) (modulo (ref_q n N +ℤ j) 4) (w_of Q step X) (r_of Q X) (ref_r n N) (pos step *ℤ pos U) (pos N) (pos G)
    (e +ℤ m *ℤ pos G *ℤ pos N)
    two.s_pos two.N_pos (w_angle t X) (r_angle t X) (near_w t X)
    (near_two j (pos Q) (pos step *ℤ pos U) (pos N) (pos G) (r_of Q X) (ref_r n N) (q_of Q X) (ref_q n N) (e +ℤ m *ℤ pos G *ℤ pos N) two)
  where
    near_w : {Q step G : ℕ} → Turn Q step G → (X : ℤ) → Near (pos 2 *ℤ pos U) (pos 1) (w_of Q step X) (pos U) (r_of Q X) (pos step *ℤ pos U)
    near_w {Q} {step} t X = unfold w_of in w_near (r_of Q X) step t.step_pos
