-- Vectors of whole numbers, and the form F(a, b) = 2 a·b − c(|a|² + |b|²), which is at least 0 nearly when the cosine of the angle between a and b is
-- at least c. Assumes nothing.
use mathlib.Core.Path.{◌≡◌}
use mathlib.Core.List.{[], ◌∷◌}
use mathlib.Core.Logic.{◌⊎◌, inl, inr}
use lib.IntN.{ℤ, pos, neg_ℤ, ◌+ℤ◌, ◌-ℤ◌, ◌*ℤ◌}
use Rattle.integers.specs.Order.{◌≼◌, ◌≺◌}
use Rattle.integers.proofs.Auto.{polys, ring!, cert!, gap, gap<, ◌⊞◌, ◌⊛◌, ◌·◌, sqr}
use Rattle.integers.proofs.Order.{≼-or-≺}
use Rattle.integers.proofs.Bounds.{Bd, bd_nonneg}
use Rattle.rectangular.specs.declared.Vector.{Vector}
use Rattle.rectangular.specs.Vectors.{geocentric}

unfoldable pub dot : Vector → Vector → ℤ
dot a b = a.x *ℤ b.x +ℤ a.y *ℤ b.y +ℤ a.z *ℤ b.z

unfoldable pub scl : ℤ → Vector → Vector
scl k a = record { x = k *ℤ a.x; y = k *ℤ a.y; z = k *ℤ a.z }

abbrev pub sub : Vector → Vector → Vector
sub a b = geocentric a b

-- low times F, with c = up/low.
unfoldable pub form : ℤ → ℤ → Vector → Vector → ℤ
form up low a b = pos 2 *ℤ low *ℤ dot a b -ℤ up *ℤ (dot a a +ℤ dot b b)

-- Each component is at most η in size.
pub record Bd³ (η : ℤ) (e : Vector) : Type 0 where
  pub x : Bd η e.x
  pub y : Bd η e.y
  pub z : Bd η e.z

pub bd³_nonneg : (η : ℤ) (e : Vector) → Bd³ η e → pos 0 ≼ η
bd³_nonneg η e w = bd_nonneg η e.x w.x

-- ---- Identities.

-- |a − b|² = (1 − c)(|a|² + |b|²) − F, times low.
pub apart : (up low : ℤ) (a b : Vector) → low *ℤ dot (sub a b) (sub a b) ≡ (low -ℤ up) *ℤ (dot a a +ℤ dot b b) -ℤ form up low a b
unfolding dot geocentric form
apart up low a b = ring! (up ∷ low ∷ a.x ∷ a.y ∷ a.z ∷ b.x ∷ b.y ∷ b.z ∷ []) (search polys depth 60 fits 100000) tt

-- |b − ca|² = (1 − c²)|b|² − cF, times low².
pub apart_scaled : (up low : ℤ) (a b : Vector) → dot (sub (scl low b) (scl up a)) (sub (scl low b) (scl up a))
    ≡ (low *ℤ low -ℤ up *ℤ up) *ℤ dot b b -ℤ up *ℤ form up low a b
unfolding dot geocentric scl form
apart_scaled up low a b = ring! (up ∷ low ∷ a.x ∷ a.y ∷ a.z ∷ b.x ∷ b.y ∷ b.z ∷ []) (search polys depth 60 fits 100000) tt

pub form_comm : (up low : ℤ) (a b : Vector) → form up low a b ≡ form up low b a
unfolding dot form
form_comm up low a b = ring! (up ∷ low ∷ a.x ∷ a.y ∷ a.z ∷ b.x ∷ b.y ∷ b.z ∷ []) (search polys depth 60 fits 100000) tt

-- F moves in proportion to |b − ca| and |a − cb|.
pub moved : (up low : ℤ) (a b a' b' : Vector)
    → form up low a' b' ≡ form up low a b +ℤ pos 2 *ℤ dot (sub a' a) (sub (scl low b) (scl up a)) +ℤ pos 2 *ℤ dot (sub b' b)
    (sub (scl low a) (scl up b)) +ℤ form up low (sub a' a) (sub b' b)
unfolding dot geocentric scl form
moved up low a b a' b' =
    ring! (up ∷ low ∷ a.x ∷ a.y ∷ a.z ∷ b.x ∷ b.y ∷ b.z ∷ a'.x ∷ a'.y ∷ a'.z ∷ b'.x ∷ b'.y ∷ b'.z ∷ []) (search polys depth 60 fits 100000) tt

-- F is of degree two.
pub form_scl : (up low w : ℤ) (a b : Vector) → form up low (scl w a) (scl w b) ≡ w *ℤ w *ℤ form up low a b
unfolding dot scl form
form_scl up low w a b = ring! (up ∷ low ∷ w ∷ a.x ∷ a.y ∷ a.z ∷ b.x ∷ b.y ∷ b.z ∷ []) (search polys depth 60 fits 100000) tt

pub dot_scl : (v w : ℤ) (a b : Vector) → dot (scl v a) (scl w b) ≡ v *ℤ w *ℤ dot a b
unfolding dot scl
dot_scl v w a b = ring! (v ∷ w ∷ a.x ∷ a.y ∷ a.z ∷ b.x ∷ b.y ∷ b.z ∷ []) (search polys depth 60 fits 100000) tt

-- ---- A scalar product of a small vector e and a vector d no longer than H.

-- |a| is at most b where a² is below (b + 1)².
root_high : (a b : ℤ) → pos 0 ≼ b → a *ℤ a ≼ b *ℤ b +ℤ pos 2 *ℤ b → a ≼ b
root_high a b h k = go (≼-or-≺ a b)
  where
    go : (a ≼ b) ⊎ (b ≺ a) → a ≼ b
    go (inl l) = l
    go (inr g) =
        let bad : pos 1 ≼ pos 0 = cert! (a ∷ b ∷ []) 0 (gap k ⊞ gap< g ⊛ gap< g ⊞ 2 · (gap< g ⊛ h) ⊞ 2 · gap< g) (search polys depth 60 fits 100000) tt in
        absurd bad.le

pub root_bd : (a b : ℤ) → pos 0 ≼ b → a *ℤ a ≼ b *ℤ b +ℤ pos 2 *ℤ b → Bd b a
root_bd a b h k = record {
  low =
      let l = root_high (neg_ℤ a) b h (cert! (a ∷ b ∷ []) 0 (gap k) (search polys depth 60 fits 100000) tt) in
      cert! (a ∷ b ∷ []) 0 (gap l) (search polys depth 60 fits 100000) tt;
  high = root_high a b h k;
}

-- The sum of the |dᵢ| is at most 7/4 of H, as 3 is at most 49/16; in squares, 16(e·d)² ≼ 49η²H².
in_squares : (η H : ℤ) (e d : Vector) → Bd³ η e → dot d d ≼ H *ℤ H → pos 4 *ℤ dot e d *ℤ (pos 4 *ℤ dot e d) ≼ pos 7 *ℤ η *ℤ H *ℤ (pos 7 *ℤ η *ℤ H)
unfolding dot
in_squares η H e d w h =
    cert! (η ∷ H ∷ e.x ∷ e.y ∷ e.z ∷ d.x ∷ d.y ∷ d.z ∷ []) 0
    (sqr (η *ℤ H) ⊞ 48 · (sqr η ⊛ gap h)
    ⊞ 16 · ((gap w.x.low ⊛ gap w.x.high ⊞ gap w.y.low ⊛ gap w.y.high ⊞ gap w.z.low ⊛ gap w.z.high)
    ⊛ (sqr d.x ⊞ sqr d.y ⊞ sqr d.z))
    ⊞ 16 · (sqr (e.x *ℤ d.y -ℤ e.y *ℤ d.x) ⊞ sqr (e.y *ℤ d.z -ℤ e.z *ℤ d.y) ⊞ sqr (e.z *ℤ d.x -ℤ e.x *ℤ d.z)))
    (search polys depth 60 fits 100000) tt

pub product_bd : (η H : ℤ) (e d : Vector) → Bd³ η e → pos 0 ≼ H → dot d d ≼ H *ℤ H → Bd (pos 7 *ℤ η *ℤ H) (pos 4 *ℤ dot e d)
product_bd η H e d w k h =
    let b₀ : pos 0 ≼ pos 7 *ℤ η *ℤ H = 7 · bd³_nonneg η e w ⊛ k in
    root_bd (pos 4 *ℤ dot e d) (pos 7 *ℤ η *ℤ H) b₀
    (cert! (dot e d ∷ η ∷ H ∷ []) 0 (gap (in_squares η H e d w h) ⊞ 2 · b₀) (search polys depth 60 fits 100000) tt)
