-- How far F moves with its two vectors; the exact test and the sign of F; and the squared length of a vector near another. Assumes nothing.
use mathlib.Core.Path.{◌≡◌, sym, subst}
use mathlib.Core.List.{[], ◌∷◌}
use mathlib.Core.Logic.{◌⊎◌, inl, inr}
use lib.IntN.{ℤ, pos, neg_ℤ, ◌+ℤ◌, ◌-ℤ◌, ◌*ℤ◌}
use Rattle.integers.specs.Order.{◌≼◌, ◌≺◌}
use Rattle.integers.proofs.Auto.{polys, cert!, cert<!, gap, gap<, gap≡, ◌⊞◌, ◌⊛◌, ◌·◌, sqr}
use Rattle.integers.proofs.Order.{≼-or-≺, ≺-≼, cert*! }
use Rattle.integers.proofs.Bounds.{Bd}
use Rattle.rectangular.specs.declared.Vector.{Vector}
use Rattle.rectangular.specs.Vectors.{geocentric}
use Rattle.separation.proofs.Form.{dot, scl, sub, form, Bd³, apart_scaled, form_comm, moved, product_bd}

-- ---- F of nearby vectors.

small_part : (up low η ζ e f : ℤ) → pos 0 ≼ up → up ≼ low → Bd η e → Bd ζ f
    → pos 0 ≼ low *ℤ ((η +ℤ ζ) *ℤ (η +ℤ ζ)) +ℤ pos 2 *ℤ low *ℤ (e *ℤ f) -ℤ up *ℤ (e *ℤ e +ℤ f *ℤ f)
small_part up low η ζ e f hu hl he hf =
    cert! (up ∷ low ∷ η ∷ ζ ∷ e ∷ f ∷ []) 0
    ((hu ⊞ gap hl) ⊛ (gap he.low ⊛ gap hf.low ⊞ gap he.high ⊛ gap hf.high) ⊞ gap hl ⊛ (sqr η ⊞ sqr ζ)
    ⊞ hu ⊛ (gap he.low ⊛ gap he.high ⊞ gap hf.low ⊛ gap hf.high))
    (search polys depth 60 fits 100000) tt

form_small : (up low η ζ : ℤ) (e f : Vector) → pos 0 ≼ up → up ≼ low → Bd³ η e → Bd³ ζ f → neg_ℤ (pos 3 *ℤ low *ℤ ((η +ℤ ζ) *ℤ (η +ℤ ζ))) ≼ form up low e f
unfolding dot form
form_small up low η ζ e f hu hl we wf =
    cert! (up ∷ low ∷ η ∷ ζ ∷ e.x ∷ e.y ∷ e.z ∷ f.x ∷ f.y ∷ f.z ∷ []) 0
    (small_part up low η ζ e.x f.x hu hl we.x wf.x
    ⊞ small_part up low η ζ e.y f.y hu hl we.y wf.y
    ⊞ small_part up low η ζ e.z f.z hu hl we.z wf.z)
    (search polys depth 60 fits 100000) tt

-- From (a, b) to (a', b'), η and ζ away: H² bounds |low·b − up·a|² and |low·a − up·b|².
pub transfer : (up low H η ζ : ℤ) (a b a' b' : Vector) → pos 0 ≼ up → up ≼ low → Bd³ η (sub a' a) → Bd³ ζ (sub b' b) → pos 0 ≼ H
    → (low *ℤ low -ℤ up *ℤ up) *ℤ dot a a -ℤ up *ℤ form up low a b ≼ H *ℤ H
    → (low *ℤ low -ℤ up *ℤ up) *ℤ dot b b -ℤ up *ℤ form up low a b ≼ H *ℤ H
    → pos 2 *ℤ form up low a b ≼ pos 2 *ℤ form up low a' b' +ℤ pos 7 *ℤ (η +ℤ ζ) *ℤ H +ℤ pos 6 *ℤ low *ℤ ((η +ℤ ζ) *ℤ (η +ℤ ζ))
transfer up low H η ζ a b a' b' hu hl we wf hH ha hb =
    let d₁ = sub (scl low b) (scl up a) in
    let d₂ = sub (scl low a) (scl up b) in
    let h₁ : dot d₁ d₁ ≼ H *ℤ H = subst (λ (t : ℤ). t ≼ H *ℤ H) (sym (apart_scaled up low a b)) hb in
    let h₂ : dot d₂ d₂ ≼ H *ℤ H =
    subst (λ (t : ℤ). t ≼ H *ℤ H) (sym (apart_scaled up low b a))
    (subst (λ (t : ℤ). (low *ℤ low -ℤ up *ℤ up) *ℤ dot a a -ℤ up *ℤ t ≼ H *ℤ H) (form_comm up low a b) ha) in
    final (form up low a b) (form up low a' b') (dot (sub a' a) d₁) (dot (sub b' b) d₂) (form up low (sub a' a) (sub b' b))
    (moved up low a b a' b') (product_bd η H (sub a' a) d₁ we hH h₁).low (product_bd ζ H (sub b' b) d₂ wf hH h₂).low
    (form_small up low η ζ (sub a' a) (sub b' b) hu hl we wf)
  where
    final : (F F' p q r : ℤ) → F' ≡ F +ℤ pos 2 *ℤ p +ℤ pos 2 *ℤ q +ℤ r → neg_ℤ (pos 7 *ℤ η *ℤ H) ≼ pos 4 *ℤ p → neg_ℤ (pos 7 *ℤ ζ *ℤ H) ≼ pos 4 *ℤ q
        → neg_ℤ (pos 3 *ℤ low *ℤ ((η +ℤ ζ) *ℤ (η +ℤ ζ))) ≼ r
        → pos 2 *ℤ F ≼ pos 2 *ℤ F' +ℤ pos 7 *ℤ (η +ℤ ζ) *ℤ H +ℤ pos 6 *ℤ low *ℤ ((η +ℤ ζ) *ℤ (η +ℤ ζ))
    final F F' p q r e hp hq hr =
        cert! (F ∷ F' ∷ p ∷ q ∷ r ∷ η ∷ ζ ∷ H ∷ low ∷ []) 0 (2 · gap≡ (sym e) ⊞ gap hp ⊞ gap hq ⊞ 2 · gap hr)
        (search polys depth 60 fits 100000) tt

-- ---- The exact test of p = a·b, X = |a|², Y = |b|².

-- p is above 0 and p² is at least c²XY, with c = up/low.
pub record Passes (up low p X Y : ℤ) : Type 0 where
  pub ahead : pos 0 ≺ p
  pub close : up *ℤ up *ℤ (X *ℤ Y) ≼ low *ℤ low *ℤ (p *ℤ p)

-- It holds where F is not negative.
pub passes : (up low p X Y : ℤ) → pos 0 ≺ up → pos 0 ≼ low → pos 0 ≺ X +ℤ Y → up *ℤ (X +ℤ Y) ≼ pos 2 *ℤ low *ℤ p → Passes up low p X Y
passes up low p X Y hu hl hs h = record { ahead = p_pos; close = squares }
  where
    go : (p ≼ pos 0) ⊎ (pos 0 ≺ p) → pos 0 ≺ p
    go (inr l) = l
    go (inl g) =
        let bad : pos 1 ≼ pos 0 =
        cert! (up ∷ low ∷ p ∷ X ∷ Y ∷ []) 0 (gap h ⊞ 2 · (hl ⊛ gap g) ⊞ gap< hu ⊛ gap< hs ⊞ gap< hu ⊞ gap< hs) (search polys depth 60 fits 100000) tt in
        absurd bad.le

    p_pos : pos 0 ≺ p
    p_pos = go (≼-or-≺ p (pos 0))

    squares : up *ℤ up *ℤ (X *ℤ Y) ≼ low *ℤ low *ℤ (p *ℤ p)
    squares =
        cert! (up ∷ low ∷ p ∷ X ∷ Y ∷ []) 3 (gap h ⊛ (2 · (hl ⊛ gap (≺-≼ p_pos)) ⊞ gap (≺-≼ hu) ⊛ gap (≺-≼ hs)) ⊞ sqr (up *ℤ (X -ℤ Y)))
        (search polys depth 60 fits 100000) tt

-- Where it holds, and the lengths are nearly equal, F is hardly below 0.
pub form_low : (up low p X Y t : ℤ) → pos 0 ≺ up → up ≼ low → pos 0 ≺ X +ℤ Y → pos 0 ≼ t → (X -ℤ Y) *ℤ (X -ℤ Y) ≼ t *ℤ (X +ℤ Y) → Passes up low p X Y
    → up *ℤ (X +ℤ Y) ≼ pos 2 *ℤ low *ℤ p +ℤ t *ℤ low
form_low up low p X Y t hu hl hs ht hd h = go (≼-or-≺ (up *ℤ (X +ℤ Y)) (pos 2 *ℤ low *ℤ p))
  where
    up' : pos 0 ≼ up -ℤ pos 0
    up' = gap (≺-≼ hu)

    s' : pos 0 ≼ X +ℤ Y -ℤ pos 0
    s' = gap (≺-≼ hs)

    p' : pos 0 ≼ p -ℤ pos 0
    p' = gap (≺-≼ h.ahead)

    us : pos 0 ≺ up *ℤ (X +ℤ Y)
    us = cert<! (up ∷ X ∷ Y ∷ []) 0 (gap< hu ⊛ gap< hs ⊞ gap< hu ⊞ gap< hs) (search polys depth 60 fits 100000) tt

    go : (up *ℤ (X +ℤ Y) ≼ pos 2 *ℤ low *ℤ p) ⊎ (pos 2 *ℤ low *ℤ p ≺ up *ℤ (X +ℤ Y)) → up *ℤ (X +ℤ Y) ≼ pos 2 *ℤ low *ℤ p +ℤ t *ℤ low
    go (inl l) = cert! (up ∷ low ∷ p ∷ X ∷ Y ∷ t ∷ []) 0 (gap l ⊞ ht ⊛ (up' ⊞ gap hl)) (search polys depth 60 fits 100000) tt
    go (inr g) =
        cert*! (up ∷ low ∷ p ∷ X ∷ Y ∷ t ∷ []) (up *ℤ (X +ℤ Y)) us
        (up' ⊛ s' ⊛ ht ⊛ gap hl ⊞ sqr up ⊛ gap hd ⊞ 4 · gap h.close ⊞ 2 · (gap (≺-≼ g) ⊛ ((up' ⊞ gap hl) ⊛ p')))
        (search polys depth 60 fits 100000) tt

-- ---- The squared length of a', η away from a.

pub length_low : (η H : ℤ) (a a' : Vector) → Bd³ η (sub a' a) → pos 0 ≼ H → dot a a ≼ H *ℤ H → pos 2 *ℤ dot a a ≼ pos 2 *ℤ dot a' a' +ℤ pos 7 *ℤ η *ℤ H
unfolding dot geocentric
length_low η H a a' w hH h =
    cert! (η ∷ H ∷ a.x ∷ a.y ∷ a.z ∷ a'.x ∷ a'.y ∷ a'.z ∷ []) 0
    (gap (product_bd η H (sub a' a) a w hH h).low ⊞ 2 · (sqr (a'.x -ℤ a.x) ⊞ sqr (a'.y -ℤ a.y) ⊞ sqr (a'.z -ℤ a.z)))
    (search polys depth 60 fits 100000) tt

pub length_high : (η H : ℤ) (a a' : Vector) → Bd³ η (sub a' a) → pos 0 ≼ H → dot a a ≼ H *ℤ H
    → pos 2 *ℤ dot a' a' ≼ pos 2 *ℤ dot a a +ℤ pos 7 *ℤ η *ℤ H +ℤ pos 6 *ℤ (η *ℤ η)
unfolding dot geocentric
length_high η H a a' w hH h =
    cert! (η ∷ H ∷ a.x ∷ a.y ∷ a.z ∷ a'.x ∷ a'.y ∷ a'.z ∷ []) 0
    (gap (product_bd η H (sub a' a) a w hH h).high
    ⊞ 2 · (gap w.x.low ⊛ gap w.x.high ⊞ gap w.y.low ⊛ gap w.y.high ⊞ gap w.z.low ⊛ gap w.z.high))
    (search polys depth 60 fits 100000) tt
