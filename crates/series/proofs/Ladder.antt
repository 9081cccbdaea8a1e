-- 1 + m + m^2 + .., n powers of m: how far sums of six powers can grow where |tau| is at most m. Assumes nothing.
use mathlib.Core.Path.{◌≡◌, refl}
use mathlib.Core.List.{[], ◌∷◌}
use Prim.Native.Nat.{ℕ, zero, suc, ◌+◌, ◌*◌, ◌^◌, ◌≤◌}
use native.Mathlib.Omega.{arith, pow_step}
use native.Mathlib.Nat.{mul-le-mul_left}
use lib.IntN.{pos}
use Rattle.integers.proofs.Auto.{polys, nat-ring! }

unfoldable pub ladder : ℕ → ℕ → ℕ
ladder m zero = 0
ladder m (suc n) = 1 + m * ladder m n

pub ladder_next : (m n : ℕ) → ladder m (suc n) ≡ 1 + m * ladder m n
unfolding ladder
ladder_next m n = refl

-- More powers give no less.
pub ladder_most : (m n k : ℕ) → n ≤ k → ladder m n ≤ ladder m k
ladder_most m zero k h = unfold ladder in omega arith
ladder_most m (suc n) zero h = absurd (omega arith)
ladder_most m (suc n) (suc k) h =
    let e = ladder_next m n in
    let f = ladder_next m k in
    let g = mul-le-mul_left m (ladder_most m n k (omega arith)) in
    omega arith

-- From power i on: one power, and those above it.
pub ladder_raised : (m i n : ℕ) → m ^ i * ladder m (suc n) ≡ m ^ i + m ^ suc i * ladder m n
ladder_raised m i n =
    rw (ladder_next m n, pow_step m i) (nat-ring! (pos m ∷ pos (m ^ i) ∷ pos (ladder m n) ∷ []) (search polys depth 60 fits 100000) tt)
