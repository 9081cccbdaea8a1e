-- The squared lengths of exact vectors that are near to working unit vectors are nearly equal, and near U². Assumes nothing.
use mathlib.Core.Path.{sym, subst}
use mathlib.Core.List.{[], ◌∷◌}
use Prim.Native.Nat.{◌+◌, ◌*◌}
use lib.IntN.{ℤ, pos, ◌+ℤ◌, ◌-ℤ◌, ◌*ℤ◌}
use Rattle.integers.specs.Order.{◌≼◌, ◌≺◌}
use Rattle.integers.proofs.Pairs.{nonneg}
use Rattle.integers.proofs.Auto.{polys, cert!, cert<!, gap, gap<, ◌⊞◌, ◌⊛◌, ◌·◌, sqr}
use Rattle.integers.proofs.Order.{≺-≼}
use Rattle.units.specs.Units.{U}
use Rattle.rectangular.specs.declared.Vector.{Vector}
use Rattle.separation.proofs.Row.{eps}
use Rattle.separation.proofs.Form.{dot, scl, sub, Bd³, dot_scl, bd³_nonneg}
use Rattle.separation.proofs.Transfer.{length_low, length_high}

-- The squared length is within 4U of U².
pub record Unit³ (u : Vector) : Type 0 where
  pub least : pos (U * U) ≼ dot u u +ℤ pos (4 * U)
  pub most : dot u u ≼ pos (U * U + 4 * U)

-- ---- Over plain numbers: X = |s|², Y = |g|² of the exact vectors, q = |u|², r = |v|² of the working ones.

size : (W η q X : ℤ) → pos 0 ≼ W → pos 0 ≼ η → η ≼ eps *ℤ W → q ≼ pos (U * U + 4 * U)
    → pos 2 *ℤ X ≼ pos 2 *ℤ (W *ℤ W *ℤ q) +ℤ pos 7 *ℤ η *ℤ (W *ℤ pos (U + 2)) +ℤ pos 6 *ℤ (η *ℤ η)
    → pos 1000 *ℤ X ≼ pos (1001 * (U * U)) *ℤ (W *ℤ W)
size W η q X hW hη hs hq h =
    cert! (W ∷ η ∷ q ∷ X ∷ []) 0 (500 · gap h ⊞ 1000 · (sqr W ⊛ gap hq) ⊞ 3500000007000 · (hW ⊛ gap hs) ⊞ 3000 · (hη ⊛ gap hs) ⊞ 390000000 · (hW ⊛ gap hs)
    ⊞ 544945299090000000 · sqr W)
    (search polys depth 60 fits 100000) tt

sum_low : (W σ q r X Y : ℤ) → pos 0 ≼ W → σ ≼ eps *ℤ W → pos (U * U) ≼ q +ℤ pos (4 * U) → pos (U * U) ≼ r +ℤ pos (4 * U)
    → pos 2 *ℤ (W *ℤ W *ℤ q) +ℤ pos 2 *ℤ (W *ℤ W *ℤ r) ≼ pos 2 *ℤ X +ℤ pos 2 *ℤ Y +ℤ pos 7 *ℤ σ *ℤ (W *ℤ pos (U + 2))
    → pos 3999089983998180000 *ℤ (W *ℤ W) ≼ pos 2 *ℤ (X +ℤ Y)
sum_low W σ q r X Y hW hs hq hr h =
    cert! (W ∷ σ ∷ q ∷ r ∷ X ∷ Y ∷ []) 0 (gap h ⊞ 2 · (sqr W ⊛ (gap hq ⊞ gap hr)) ⊞ 7000000014 · (hW ⊛ gap hs))
    (search polys depth 60 fits 100000) tt

-- X − Y from above; from below it is the same with the two exchanged.
difference : (W η ζ q r X Y : ℤ) → pos 0 ≼ W → pos 0 ≼ η → pos 0 ≼ ζ → η +ℤ ζ ≼ eps *ℤ W → q ≼ pos (U * U + 4 * U) → pos (U * U) ≼ r +ℤ pos (4 * U)
    → pos 2 *ℤ X ≼ pos 2 *ℤ (W *ℤ W *ℤ q) +ℤ pos 7 *ℤ η *ℤ (W *ℤ pos (U + 2)) +ℤ pos 6 *ℤ (η *ℤ η)
    → pos 2 *ℤ (W *ℤ W *ℤ r) ≼ pos 2 *ℤ Y +ℤ pos 7 *ℤ ζ *ℤ (W *ℤ pos (U + 2))
    → pos 2 *ℤ (X -ℤ Y) ≼ pos 910117401820000 *ℤ (W *ℤ W)
difference W η ζ q r X Y hW hη hζ hs hq hr hx hy =
    cert! (W ∷ η ∷ ζ ∷ q ∷ r ∷ X ∷ Y ∷ []) 0
    (gap hx ⊞ gap hy ⊞ 2 · (sqr W ⊛ (gap hq ⊞ gap hr)) ⊞ 7000000014 · (hW ⊛ gap hs) ⊞ 6 · (hη ⊛ gap hs) ⊞ 6 · (hη ⊛ hζ) ⊞ 780000 · (hW ⊛ gap hs)
    ⊞ 780000 · (hW ⊛ hζ))
    (search polys depth 60 fits 100000) tt

-- (X − Y)² is at most 7 eps² W² (X + Y).
even_lengths : (W X Y : ℤ) → pos 3999089983998180000 *ℤ (W *ℤ W) ≼ pos 2 *ℤ (X +ℤ Y) → pos 2 *ℤ (X -ℤ Y) ≼ pos 910117401820000 *ℤ (W *ℤ W)
    → pos 2 *ℤ (Y -ℤ X) ≼ pos 910117401820000 *ℤ (W *ℤ W)
    → (X -ℤ Y) *ℤ (X -ℤ Y) ≼ pos 7 *ℤ eps *ℤ eps *ℤ (W *ℤ W) *ℤ (X +ℤ Y)
even_lengths W X Y hs hd he =
    cert! (W ∷ X ∷ Y ∷ []) 3 (gap hd ⊛ gap he ⊞ 236600000000 · (sqr W ⊛ gap hs) ⊞ 117871005118382048687600000000 · (sqr W ⊛ sqr W))
    (search polys depth 60 fits 100000) tt

pub record Lengths (W X Y : ℤ) : Type 0 where
  pub X_high : pos 1000 *ℤ X ≼ pos (1001 * (U * U)) *ℤ (W *ℤ W)
  pub Y_high : pos 1000 *ℤ Y ≼ pos (1001 * (U * U)) *ℤ (W *ℤ W)
  pub sum_pos : pos 0 ≺ X +ℤ Y
  pub even : (X -ℤ Y) *ℤ (X -ℤ Y) ≼ pos 7 *ℤ eps *ℤ eps *ℤ (W *ℤ W) *ℤ (X +ℤ Y)

unit_length : (W q : ℤ) → q ≼ pos (U * U + 4 * U) → W *ℤ W *ℤ q ≼ W *ℤ pos (U + 2) *ℤ (W *ℤ pos (U + 2))
unit_length W q h = cert! (W ∷ q ∷ []) 0 (sqr W ⊛ gap h ⊞ 4 · sqr W) (search polys depth 60 fits 100000) tt

module _ (W η ζ : ℤ) (u v s g : Vector) (hW : pos 0 ≺ W) (hu : Unit³ u) (hv : Unit³ v) (ws : Bd³ η (sub s (scl W u))) (wg : Bd³ ζ (sub g (scl W v)))
    (small : η +ℤ ζ ≼ eps *ℤ W) where
  W₀ : pos 0 ≼ W
  W₀ = ≺-≼ hW

  lower : (t : ℤ) (a a' : Vector) → Unit³ a → Bd³ t (sub a' (scl W a)) → pos 2 *ℤ (W *ℤ W *ℤ dot a a) ≼ pos 2 *ℤ dot a' a' +ℤ pos 7 *ℤ t *ℤ (W *ℤ pos (U + 2))
  lower t a a' ha w =
      subst (λ (d : ℤ). pos 2 *ℤ d ≼ pos 2 *ℤ dot a' a' +ℤ pos 7 *ℤ t *ℤ (W *ℤ pos (U + 2))) (dot_scl W W a a)
      (length_low t (W *ℤ pos (U + 2)) (scl W a) a' w (W₀ ⊛ nonneg (U + 2))
      (subst (λ (d : ℤ). d ≼ W *ℤ pos (U + 2) *ℤ (W *ℤ pos (U + 2))) (sym (dot_scl W W a a)) (unit_length W (dot a a) ha.most)))

  upper : (t : ℤ) (a a' : Vector) → Unit³ a → Bd³ t (sub a' (scl W a))
      → pos 2 *ℤ dot a' a' ≼ pos 2 *ℤ (W *ℤ W *ℤ dot a a) +ℤ pos 7 *ℤ t *ℤ (W *ℤ pos (U + 2)) +ℤ pos 6 *ℤ (t *ℤ t)
  upper t a a' ha w =
      subst (λ (d : ℤ). pos 2 *ℤ dot a' a' ≼ pos 2 *ℤ d +ℤ pos 7 *ℤ t *ℤ (W *ℤ pos (U + 2)) +ℤ pos 6 *ℤ (t *ℤ t)) (dot_scl W W a a)
      (length_high t (W *ℤ pos (U + 2)) (scl W a) a' w (W₀ ⊛ nonneg (U + 2))
      (subst (λ (d : ℤ). d ≼ W *ℤ pos (U + 2) *ℤ (W *ℤ pos (U + 2))) (sym (dot_scl W W a a)) (unit_length W (dot a a) ha.most)))

  η₀ : pos 0 ≼ η
  η₀ = bd³_nonneg η (sub s (scl W u)) ws

  ζ₀ : pos 0 ≼ ζ
  ζ₀ = bd³_nonneg ζ (sub g (scl W v)) wg

  small_η : η ≼ eps *ℤ W
  small_η = cert! (W ∷ η ∷ ζ ∷ []) 0 (gap small ⊞ ζ₀) (search polys depth 60 fits 100000) tt

  small_ζ : ζ ≼ eps *ℤ W
  small_ζ = cert! (W ∷ η ∷ ζ ∷ []) 0 (gap small ⊞ η₀) (search polys depth 60 fits 100000) tt

  small_r : ζ +ℤ η ≼ eps *ℤ W
  small_r = cert! (W ∷ η ∷ ζ ∷ []) 0 (gap small) (search polys depth 60 fits 100000) tt

  lows : pos 2 *ℤ (W *ℤ W *ℤ dot u u) +ℤ pos 2 *ℤ (W *ℤ W *ℤ dot v v) ≼ pos 2 *ℤ dot s s +ℤ pos 2 *ℤ dot g g +ℤ pos 7 *ℤ (η +ℤ ζ) *ℤ (W *ℤ pos (U + 2))
  lows =
      cert! (W ∷ η ∷ ζ ∷ dot u u ∷ dot v v ∷ dot s s ∷ dot g g ∷ []) 0 (gap (lower η u s hu ws) ⊞ gap (lower ζ v g hv wg))
      (search polys depth 60 fits 100000) tt

  two_sum : pos 3999089983998180000 *ℤ (W *ℤ W) ≼ pos 2 *ℤ (dot s s +ℤ dot g g)
  two_sum = sum_low W (η +ℤ ζ) (dot u u) (dot v v) (dot s s) (dot g g) W₀ small hu.least hv.least lows

  pub lengths : Lengths W (dot s s) (dot g g)
  lengths = record {
    X_high = size W η (dot u u) (dot s s) W₀ η₀ small_η hu.most (upper η u s hu ws);
    Y_high = size W ζ (dot v v) (dot g g) W₀ ζ₀ small_ζ hv.most (upper ζ v g hv wg);
    sum_pos =
        cert<! (W ∷ dot s s ∷ dot g g ∷ []) 1 (gap two_sum ⊞ 3999089983998180000 · (gap< hW ⊛ gap< hW ⊞ 2 · gap< hW)) (search polys depth 60 fits 100000) tt;
    even = even_lengths W (dot s s) (dot g g) two_sum
        (difference W η ζ (dot u u) (dot v v) (dot s s) (dot g g) W₀ η₀ ζ₀ small hu.most hv.least (upper η u s hu ws) (lower ζ v g hv wg))
        (difference W ζ η (dot v v) (dot u u) (dot g g) (dot s s) W₀ ζ₀ η₀ small_r hv.most hu.least (upper ζ v g hv wg) (lower η u s hu ws));
  }
