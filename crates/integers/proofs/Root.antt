-- The floor root by its two bounds. Assumes nothing.
use mathlib.Core.Path.{◌≡◌}
use Prim.Native.Nat.{ℕ, zero, suc, ◌+◌, ◌*◌, ◌≤◌, ◌<◌}
use native.Mathlib.Omega.{arith, by_contra, both_ways}
use native.Mathlib.Nat.{mul-le-mul_left, mul-le-mul_right, le_trans}
use native.Mathlib.Decide.{dec_le}
use Rattle.integers.specs.Root.{root}

pub record IsRoot (n r : ℕ) : Type 0 where
  pub low : r * r ≤ n
  pub high : n < (r + 1) * (r + 1)

pub root_spec : (n : ℕ) → IsRoot n (root n)
unfolding root
root_spec zero = record { low = omega arith; high = omega arith }
root_spec (suc n) = go (root n) (root_spec n) (dec_le ((root n + 1) * (root n + 1)) (suc n))
  where
    go : (r : ℕ) → IsRoot n r → (d : Dec ((r + 1) * (r + 1) ≤ suc n)) → IsRoot (suc n) (elim d [ yes h ↦ r + 1 | no f ↦ r ])
    go r i (yes h) = record { low = h; high = let k = i.high in omega arith }
    go r i (no f) = record { low = let k = i.low in omega arith; high = omega arith }

below : (n a b : ℕ) → a * a ≤ n → n < (b + 1) * (b + 1) → a ≤ b
below n a b h k = by_contra a b (λ (l : b < a). let g : b + 1 ≤ a = omega arith in
    let m : (b + 1) * (b + 1) ≤ a * a = le_trans (mul-le-mul_left (b + 1) g) (mul-le-mul_right a g) in omega arith)

pub root_is : (n r : ℕ) → IsRoot n r → r ≡ root n
root_is n r i =
    let s = root_spec n in
    both_ways r (root n) (below n r (root n) i.low s.high) (below n (root n) r s.low i.high)
