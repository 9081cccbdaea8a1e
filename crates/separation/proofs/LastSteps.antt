-- The last step of each half of the core, over plain numbers. Assumes nothing.
use mathlib.Core.Path.{◌≡◌, sym}
use mathlib.Core.List.{[], ◌∷◌}
use Prim.Native.Nat.{◌+◌, ◌*◌, ◌-◌}
use lib.IntN.{ℤ, pos, neg_ℤ, ◌+ℤ◌, ◌-ℤ◌, ◌*ℤ◌}
use Rattle.integers.specs.Order.{◌≼◌, ◌≺◌}
use Rattle.integers.proofs.Auto.{polys, cert!, cert<!, gap, gap<, gap≡, ◌⊞◌, ◌⊛◌, ◌·◌, sqr}
use Rattle.integers.proofs.Order.{≺-≼, cert*! }
use Rattle.units.specs.Units.{U}
use Rattle.separation.proofs.Row.{eps}

-- σ = η + ζ. F₀ is F of the exact vectors (s, g), F₁ that of the working ones (u, v), both times low; d = |u − v|²; T is the threshold.

-- The bound H² that `transfer` asks for, from the bound on the sine in the row: at the exact vectors,
pub turn_exact : (up low G W X F : ℤ) → pos 0 ≺ up → up ≼ low → pos 1000 *ℤ X ≼ pos (1001 * (U * U)) *ℤ (W *ℤ W)
    → pos 1001 *ℤ pos (U * U) *ℤ (low *ℤ low -ℤ up *ℤ up) +ℤ pos 7000 *ℤ eps *ℤ eps *ℤ low *ℤ low ≼ pos 1000 *ℤ G *ℤ G *ℤ low *ℤ low
    → neg_ℤ (pos 7 *ℤ eps *ℤ eps *ℤ (W *ℤ W) *ℤ low) ≼ F
    → (low *ℤ low -ℤ up *ℤ up) *ℤ X -ℤ up *ℤ F ≼ low *ℤ G *ℤ W *ℤ (low *ℤ G *ℤ W)
turn_exact up low G W X F hu hl hX hg hF =
    cert! (up ∷ low ∷ G ∷ W ∷ X ∷ F ∷ []) 999
    (sqr W ⊛ gap hg ⊞ gap hl ⊛ (gap hl ⊞ 2 · gap (≺-≼ hu)) ⊛ gap hX ⊞ 1000 · (gap (≺-≼ hu) ⊛ gap hF)
    ⊞ 118300000000000 · (sqr W ⊛ ((gap hl ⊞ gap (≺-≼ hu)) ⊛ gap hl)))
    (search polys depth 60 fits 100000) tt

-- and at the working ones.
pub turn_working : (up low G W q F : ℤ) → pos 0 ≺ up → up ≼ low → q ≼ pos (U * U + 4 * U)
    → pos 1001 *ℤ pos (U * U) *ℤ (low *ℤ low -ℤ up *ℤ up) +ℤ pos 7000 *ℤ eps *ℤ eps *ℤ low *ℤ low ≼ pos 1000 *ℤ G *ℤ G *ℤ low *ℤ low
    → pos 0 ≼ F
    → (low *ℤ low -ℤ up *ℤ up) *ℤ (W *ℤ W *ℤ q) -ℤ up *ℤ (W *ℤ W *ℤ F) ≼ low *ℤ G *ℤ W *ℤ (low *ℤ G *ℤ W)
turn_working up low G W q F hu hl hq hg hF =
    cert! (up ∷ low ∷ G ∷ W ∷ q ∷ F ∷ []) 999
    (sqr W ⊛ gap hg ⊞ 1000 · (gap hl ⊛ (gap hl ⊞ 2 · gap (≺-≼ hu)) ⊛ (sqr W ⊛ gap hq)) ⊞ 999996000000000000 · (gap hl ⊛ (gap hl ⊞ 2 · gap (≺-≼ hu)) ⊛ sqr W)
    ⊞ 1000 · (gap (≺-≼ hu) ⊛ (sqr W ⊛ hF)) ⊞ 118300000000000 · (sqr W ⊛ sqr low))
    (search polys depth 60 fits 100000) tt

pub listed_end : (up low G W σ F₀ F₁ q r d T : ℤ) → pos 0 ≺ up → up ≼ low → pos 0 ≼ G → pos 0 ≺ W → pos 0 ≼ σ → σ ≼ eps *ℤ W → q ≼ pos (U * U + 4 * U)
    → r ≼ pos (U * U + 4 * U)
    → pos 2 *ℤ (low -ℤ up) *ℤ pos (2 * U * U + 8 * U) +ℤ (pos 7 *ℤ eps *ℤ G +ℤ pos 20 *ℤ eps *ℤ eps) *ℤ low ≼ pos 2 *ℤ T *ℤ low
    → neg_ℤ (pos 7 *ℤ eps *ℤ eps *ℤ (W *ℤ W) *ℤ low) ≼ F₀
    → pos 2 *ℤ F₀ ≼ pos 2 *ℤ (W *ℤ W *ℤ F₁) +ℤ pos 7 *ℤ σ *ℤ (low *ℤ G *ℤ W) +ℤ pos 6 *ℤ low *ℤ (σ *ℤ σ)
    → low *ℤ d ≡ (low -ℤ up) *ℤ (q +ℤ r) -ℤ F₁
    → d ≼ T
listed_end up low G W σ F₀ F₁ q r d T hu hl hG hW hσ hs hq hr ha hF ht e =
    cert*! (up ∷ low ∷ G ∷ W ∷ σ ∷ F₀ ∷ F₁ ∷ q ∷ r ∷ d ∷ T ∷ []) (pos 2 *ℤ low *ℤ (W *ℤ W)) (positive low W low_pos hW)
    (sqr W ⊛ gap ha ⊞ 2 · (sqr W ⊛ gap hl ⊛ (gap hq ⊞ gap hr)) ⊞ gap ht ⊞ 2 · gap hF ⊞ 7 · (low₀ ⊛ hG ⊛ (≺-≼ hW ⊛ gap hs))
    ⊞ 6 · (low₀ ⊛ gap hs ⊛ (gap hs ⊞ 2 · hσ)) ⊞ 2 · (sqr W ⊛ gap≡ e))
    (search polys depth 60 fits 100000) tt
  where
    low₀ : pos 0 ≼ low -ℤ up +ℤ (up -ℤ pos 0)
    low₀ = gap hl ⊞ gap (≺-≼ hu)

    low_pos : pos 0 ≺ low
    low_pos = cert<! (up ∷ low ∷ []) 0 (gap< hu ⊞ gap hl) (search polys depth 60 fits 100000) tt

    positive : (low W : ℤ) → pos 0 ≺ low → pos 0 ≺ W → pos 0 ≺ pos 2 *ℤ low *ℤ (W *ℤ W)
    positive low W h k =
        cert<! (low ∷ W ∷ []) 0 (2 · (gap< h ⊛ (gap< k ⊛ gap< k ⊞ 2 · gap< k)) ⊞ 2 · (gap< k ⊛ gap< k ⊞ 2 · gap< k) ⊞ 2 · gap< h)
        (search polys depth 60 fits 100000) tt

-- What is listed has F at least (7 eps G + 20 eps²)/2.
pub clear_end : (up low G F₁ q r d T : ℤ) → pos 0 ≺ up → up ≼ low → pos (U * U) ≼ q +ℤ pos (4 * U) → pos (U * U) ≼ r +ℤ pos (4 * U)
    → (pos 2 *ℤ T +ℤ pos 7 *ℤ eps *ℤ G +ℤ pos 20 *ℤ eps *ℤ eps) *ℤ low ≼ pos 2 *ℤ (low -ℤ up) *ℤ pos (2 * U * U - 8 * U)
    → low *ℤ d ≡ (low -ℤ up) *ℤ (q +ℤ r) -ℤ F₁
    → d ≼ T
    → (pos 7 *ℤ eps *ℤ G +ℤ pos 20 *ℤ eps *ℤ eps) *ℤ low ≼ pos 2 *ℤ F₁
clear_end up low G F₁ q r d T hu hl hq hr hb e h =
    cert! (up ∷ low ∷ G ∷ F₁ ∷ q ∷ r ∷ d ∷ T ∷ []) 0
    (gap hb ⊞ 2 · (gap hl ⊛ (gap hq ⊞ gap hr)) ⊞ 2 · gap≡ (sym e) ⊞ 2 · ((gap hl ⊞ gap (≺-≼ hu)) ⊛ gap h))
    (search polys depth 60 fits 100000) tt

pub exact_end : (up low G W σ F₀ F₁ : ℤ) → pos 0 ≺ up → up ≼ low → pos 0 ≼ G → pos 0 ≺ W → pos 0 ≼ σ → σ ≼ eps *ℤ W
    → (pos 7 *ℤ eps *ℤ G +ℤ pos 20 *ℤ eps *ℤ eps) *ℤ low ≼ pos 2 *ℤ F₁
    → pos 2 *ℤ (W *ℤ W *ℤ F₁) ≼ pos 2 *ℤ F₀ +ℤ pos 7 *ℤ σ *ℤ (low *ℤ G *ℤ W) +ℤ pos 6 *ℤ low *ℤ (σ *ℤ σ)
    → pos 0 ≼ F₀
exact_end up low G W σ F₀ F₁ hu hl hG hW hσ hs hF ht =
    cert! (up ∷ low ∷ G ∷ W ∷ σ ∷ F₀ ∷ F₁ ∷ []) 1
    (sqr W ⊛ gap hF ⊞ gap ht ⊞ 7 · (low₀ ⊛ hG ⊛ (≺-≼ hW ⊛ gap hs)) ⊞ 6 · (low₀ ⊛ gap hs ⊛ (gap hs ⊞ 2 · hσ)) ⊞ 236600000000 · (sqr W ⊛ low₀))
    (search polys depth 60 fits 100000) tt
  where
    low₀ : pos 0 ≼ low -ℤ up +ℤ (up -ℤ pos 0)
    low₀ = gap hl ⊞ gap (≺-≼ hu)

-- So F of what is listed is not negative.
pub form_nonneg : (low G F₁ : ℤ) → pos 0 ≼ G → pos 0 ≼ low → (pos 7 *ℤ eps *ℤ G +ℤ pos 20 *ℤ eps *ℤ eps) *ℤ low ≼ pos 2 *ℤ F₁ → pos 0 ≼ F₁
form_nonneg low G F₁ hG hl h = cert! (low ∷ G ∷ F₁ ∷ []) 1 (gap h ⊞ 910000 · (hG ⊛ hl) ⊞ 338000000000 · hl) (search polys depth 60 fits 100000) tt
