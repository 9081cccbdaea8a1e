-- Roots of numbers of two words, and the sum of three squares. Assumes nothing.
use mathlib.Core.Path.{◌≡◌, ap, ap₂}
use Prim.Native.Nat.{ℕ, ◌+◌, ◌-◌, ◌*◌, ◌≤◌, ◌<◌}
use native.Mathlib.Omega.{arith, by_contra}
use native.Mathlib.Nat.{mul-le-mul}
use lib.IntN.{ℤ, nat_abs, ◌+ℤ◌, ◌*ℤ◌}
use Rattle.integers.proofs.Order.{square_nat_abs}
use Rattle.roots.specs.Machine.Word.{word}

-- a number of two words has a root of one
pub small_root : (g : ℕ) {n : ℕ} → g * g ≤ n → n < word * word → g < word
small_root g {n} h k = let l : g ≤ word - 1 = by_contra g (word - 1) (λ (l : word - 1 < g). omega (arith, mul-le-mul l l)) in omega arith

-- the sum of three squares of whole numbers
pub squares_value : (x y z : ℤ) → nat_abs (x *ℤ x +ℤ y *ℤ y +ℤ z *ℤ z) ≡ nat_abs x * nat_abs x + nat_abs y * nat_abs y + nat_abs z * nat_abs z
squares_value x y z = ap nat_abs (ap₂ ◌+ℤ◌ (ap₂ ◌+ℤ◌ (square_nat_abs x) (square_nat_abs y)) (square_nat_abs z))
