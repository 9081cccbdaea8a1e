-- The order of rounded quotients, and a factor of both numbers. Assumes nothing.
use mathlib.Core.Path.{◌≡◌}
use mathlib.Core.List.{[], ◌∷◌}
use mathlib.Core.Logic.{◌⊎◌, inl, inr}
use Prim.Native.Nat.{ℕ, ◌*◌, ◌<◌}
use native.Mathlib.Omega.{arith}
use native.Mathlib.Nat.{mul-pos}
use lib.IntN.{ℤ, pos, ◌+ℤ◌, ◌*ℤ◌}
use Rattle.integers.specs.Order.{◌≼◌, ◌≺◌}
use Rattle.integers.specs.Division.{rounded}
use Rattle.integers.proofs.Pairs.{nonneg}
use Rattle.integers.proofs.Auto.{cert!, cert<!, polys, gap, gap<, ◌⊞◌, ◌⊛◌, ◌·◌}
use Rattle.integers.proofs.Order.{≼-or-≺, ≼-nat}
use Rattle.integers.proofs.Division.{floor_is, rounded_low, rounded_high}

-- ---- rounding keeps the order, also past a multiple of the divisor
pub rounded_le : (m n k : ℤ) (d : ℕ) → 0 < d → m ≼ pos d *ℤ k +ℤ n → rounded m d ≼ k +ℤ rounded n d
rounded_le m n k d h l = go (≼-or-≺ (rounded m d) (k +ℤ rounded n d))
  where
    go : (rounded m d ≼ k +ℤ rounded n d) ⊎ (k +ℤ rounded n d ≺ rounded m d) → rounded m d ≼ k +ℤ rounded n d
    go (inl l) = l
    go (inr g) =
        let bad : pos 1 ≼ pos 0 =
        cert! (m ∷ n ∷ k ∷ pos d ∷ rounded m d ∷ rounded n d ∷ []) 0
        (gap (rounded_low m d h) ⊞ gap< (rounded_high n d h) ⊞ 2 · gap l ⊞ 2 · (nonneg d ⊛ gap< g)) (search polys depth 60 fits 100000) tt in
        absurd bad.le

pub rounded_mono : (m n : ℤ) (d : ℕ) → 0 < d → m ≼ n → rounded m d ≼ rounded n d
rounded_mono m n d h l =
    cert! (rounded m d ∷ rounded n d ∷ []) 0
    (gap (rounded_le m n (pos 0) d h (cert! (m ∷ n ∷ pos d ∷ []) 0 (gap l) (search polys depth 60 fits 100000) tt))) (search polys depth 60 fits 100000)
    tt

pub rounded_zero : (d : ℕ) → 0 < d → rounded (pos 0) d ≡ pos 0
unfolding rounded
rounded_zero d h =
    floor_is (pos 2 *ℤ pos 0 +ℤ pos d) (pos 0) (2 * d) (omega arith)
    (cert! (pos d ∷ []) 0 (nonneg d) (search polys depth 60 fits 100000) tt)
    (cert<! (pos d ∷ []) 0 (gap (≼-nat 1 d h)) (search polys depth 60 fits 100000) tt)

-- ---- a factor of both numbers does not count
pub rounded_scale : (k : ℕ) (n : ℤ) (d : ℕ) → 0 < k → 0 < d → rounded (pos k *ℤ n) (k * d) ≡ rounded n d
rounded_scale k n d hk h = unfold rounded in
    floor_is (pos 2 *ℤ (pos k *ℤ n) +ℤ pos (k * d)) (rounded n d) (2 * (k * d)) (omega (arith, mul-pos hk h))
    (cert! (pos k ∷ n ∷ pos d ∷ rounded n d ∷ []) 0 (nonneg k ⊛ gap (rounded_low n d h)) (search polys depth 60 fits 100000) tt)
    (cert<! (pos k ∷ n ∷ pos d ∷ rounded n d ∷ []) 0 ((gap (≼-nat 1 k hk) ⊞ nonneg 1) ⊛ gap< (rounded_high n d h) ⊞ gap (≼-nat 1 k hk))
    (search polys depth 60 fits 100000) tt)
