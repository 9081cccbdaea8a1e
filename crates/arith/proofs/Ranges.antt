-- How large a rounded quotient is. Assumes nothing.
use mathlib.Core.Path.{◌≡◌, sym, ap, ◌∙◌, subst}
use mathlib.Core.Bool.{Bool, true, false}
use Prim.Native.Nat.{ℕ, ◌+◌, ◌-◌, ◌*◌, ◌≤◌, ◌<◌}
use native.Mathlib.Omega.{arith}
use native.Mathlib.Nat.{mul-le-mul, div-add-mod}
use lib.IntN.{ℤ, nat_abs, ◌*ℤ◌}
use Rattle.integers.specs.Division.{rounded}
use Rattle.integers.specs.Signs.{negative, near}
use Rattle.integers.proofs.Division.{rounded_by, near_most}
use Rattle.integers.proofs.Order.{nat_abs-*, nat_abs_sgn}

nat_abs_rounded : (n : ℤ) (d : ℕ) → 0 < d → nat_abs (rounded n d) ≡ near (negative n) (nat_abs n) d
nat_abs_rounded n d h = ap nat_abs (rounded_by n d h) ∙ nat_abs_sgn (negative n) (near (negative n) (nat_abs n) d)

-- |n| ≤ k·d gives |rounded n d| ≤ k
pub rounded_within : (n : ℤ) (d k : ℕ) → 0 < d → nat_abs n ≤ k * d → nat_abs (rounded n d) ≤ k
rounded_within n d k h l = subst (λ (t : ℕ). t ≤ k) (sym (nat_abs_rounded n d h)) (near_most (negative n) k (nat_abs n) d h l)

-- it is at most half a unit larger than the quotient
pub rounded_half : (n : ℤ) (d : ℕ) → 0 < d → 2 * d * nat_abs (rounded n d) ≤ 2 * nat_abs n + d
unfolding near
rounded_half n d h = subst (λ (t : ℕ). 2 * d * t ≤ 2 * nat_abs n + d) (sym (nat_abs_rounded n d h)) (twice (negative n) (nat_abs n))
  where
    twice : (s : Bool) (m : ℕ) → 2 * d * near s m d ≤ 2 * m + d
    twice false m = omega (arith, div-add-mod (2 * m + d) (2 * d))
    twice true m = omega (arith, div-add-mod (2 * m + (d - 1)) (2 * d))

-- a product by no more than the divisor
pub scaled_within : (a c : ℤ) (d k : ℕ) → 0 < d → nat_abs a ≤ k → nat_abs c ≤ d → nat_abs (rounded (a *ℤ c) d) ≤ k
scaled_within a c d k h l m = rounded_within (a *ℤ c) d k h (subst (λ (t : ℕ). t ≤ k * d) (sym (nat_abs-* a c)) (mul-le-mul l m))
