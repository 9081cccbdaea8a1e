-- The order of ℤ beyond what a certificate proves: cases, antisymmetry, cancelling a positive factor, magnitudes, and the range of an i64. Assumes nothing.
use mathlib.Core.Path.{◌≡◌, refl, subst}
use mathlib.Core.Bool.{Bool, true, false}
use mathlib.Core.List.{List, [], ◌∷◌}
use mathlib.Core.Logic.{◌⊎◌, inl, inr}
use Prim.Native.Nat.{ℕ, zero, suc, ◌+◌, ◌*◌, ◌^◌, ◌≤◌, ◌<◌}
use native.Mathlib.Omega.{arith}
use native.Mathlib.Decide.{dec_le}
use lib.Dec.{T, le→leb}
use lib.IntN.{ℤ, pos, negsuc, neg_ℤ, nat_abs, ◌+ℤ◌, ◌-ℤ◌, ◌*ℤ◌}
use mir.Syntax.{w64}
use mir.Val.{SFits}
use Rattle.integers.specs.Order.{◌≼◌, ◌≺◌}
use Rattle.integers.specs.Signs.{sgn}
use Rattle.integers.proofs.Pairs.{up, dn, int, nat, negᵢ, ◌+ᵢ◌, ◌-ᵢ◌, same, less, less⁻¹, suc-<ℤ}
use Rattle.integers.proofs.Ring.{#, ◌⊕◌, ◌⊖◌, ◌⊗◌, norm, nonn}
use Rattle.integers.proofs.Auto.{Multiplied, summed, p_mul, polys, cert!, cert<!, gap, gap<, ◌⊞◌, ◌⊛◌}

pub ≼-or-≺ : (x y : ℤ) → (x ≼ y) ⊎ (y ≺ x)
≼-or-≺ x y = go (dec_le (up x + dn y) (up y + dn x))
  where
    go : Dec (up x + dn y ≤ up y + dn x) → (x ≼ y) ⊎ (y ≺ x)
    go (yes h) = inl (less (int x) (int y) h)
    go (no f) = inr (suc-<ℤ y x (less (int y +ᵢ nat 1) (int x) (omega arith)))

pub ≼-antisym : (x y : ℤ) → x ≼ y → y ≼ x → x ≡ y
≼-antisym x y h k =
    let a = less⁻¹ (int x) (int y) h in
    let b = less⁻¹ (int y) (int x) k in
    same (int x) (int y) (omega arith)

pub ≺-≼ : {x y : ℤ} → x ≺ y → x ≼ y
≺-≼ {x} {y} h = cert! (x ∷ y ∷ []) 0 (gap< h) (search polys depth 30) tt

-- a factor above 0 is cancelled
cancel : (k x y : ℤ) → pos 0 ≺ k → k *ℤ x ≼ k *ℤ y → x ≼ y
cancel k x y hk h = go (≼-or-≺ x y)
  where
    go : (x ≼ y) ⊎ (y ≺ x) → x ≼ y
    go (inl l) = l
    go (inr g) =
        let bad : pos 1 ≼ pos 0 = cert! (k ∷ x ∷ y ∷ []) 0 (gap h ⊞ gap< g ⊛ gap< hk ⊞ gap< hk ⊞ gap< g) (search polys depth 30) tt in
        absurd bad.le

-- a certificate for the goal times an expression above 0
pub cert*! : (ρ : List ℤ) (m : ℤ) → pos 0 ≺ m → {x y w : ℤ} → pos 0 ≼ w → (s : Multiplied ρ x y w m)
    → T (nonn (norm (# 1 ⊗ (s.factor.e ⊗ s.sides.right.e ⊖ s.factor.e ⊗ s.sides.left.e) ⊕ # 0 ⊖ s.sides.sum.e))) → x ≼ y
cert*! ρ m hm {x} {y} h s t =
    cancel m x y hm
    (cert! ρ 0 h
    (summed (p_mul m x s.factor s.sides.left) (p_mul m y s.factor s.sides.right) s.sides.sum) t)

-- ---- signs of products

pub product_pos : (a b : ℤ) → pos 0 ≺ a → pos 0 ≺ b → pos 0 ≺ a *ℤ b
product_pos a b h k = cert<! (a ∷ b ∷ []) 0 (gap< h ⊛ gap< k ⊞ gap< h ⊞ gap< k) (search polys depth 60 fits 100000) tt

-- what has a positive multiple above 0 is above 0
pub factor_pos : (m p : ℤ) → pos 0 ≼ m → pos 0 ≺ m *ℤ p → pos 0 ≺ p
factor_pos m p hm h = go (≼-or-≺ p (pos 0))
  where
    go : (p ≼ pos 0) ⊎ (pos 0 ≺ p) → pos 0 ≺ p
    go (inr l) = l
    go (inl g) =
        let bad : pos 1 ≼ pos 0 = cert! (m ∷ p ∷ []) 0 (gap< h ⊞ hm ⊛ gap g) (search polys depth 60 fits 100000) tt in
        absurd bad.le

-- ---- magnitudes

pub ≼-nat : (m n : ℕ) → m ≤ n → pos m ≼ pos n
≼-nat m n h = record { le = le→leb m n h }

pub ≺-nat : (n : ℕ) → 0 < n → pos 0 ≺ pos n
≺-nat n h = record { lt = le→leb 1 n h }

pub nat_abs_neg : (x : ℤ) → nat_abs (neg_ℤ x) ≡ nat_abs x
nat_abs_neg (pos zero) = refl
nat_abs_neg (pos (suc n)) = refl
nat_abs_neg (negsuc n) = refl

pub nat_abs-* : (x y : ℤ) → nat_abs (x *ℤ y) ≡ nat_abs x * nat_abs y
nat_abs-* (pos a) (pos b) = refl
nat_abs-* (pos a) (negsuc b) = nat_abs_neg (pos (a * suc b))
nat_abs-* (negsuc a) (pos b) = nat_abs_neg (pos (suc a * b))
nat_abs-* (negsuc a) (negsuc b) = refl

pub square_nat_abs : (x : ℤ) → x *ℤ x ≡ pos (nat_abs x * nat_abs x)
square_nat_abs (pos n) = refl
square_nat_abs (negsuc n) = refl

pub nat_abs_sgn : (s : Bool) (m : ℕ) → nat_abs (sgn s m) ≡ m
unfolding sgn
nat_abs_sgn false m = refl
nat_abs_sgn true zero = refl
nat_abs_sgn true (suc m) = refl

-- |x| ≤ b is −b ≼ x ≼ b
pub nat_abs_low : (x : ℤ) (b : ℕ) → nat_abs x ≤ b → neg_ℤ (pos b) ≼ x
nat_abs_low (pos n) b h = less (negᵢ (nat b)) (nat n) (omega arith)
nat_abs_low (negsuc n) b h = less (negᵢ (nat b)) (int (negsuc n)) (omega arith)

pub nat_abs_high : (x : ℤ) (b : ℕ) → nat_abs x ≤ b → x ≼ pos b
nat_abs_high (pos n) b h = less (nat n) (nat b) (omega arith)
nat_abs_high (negsuc n) b h = less (int (negsuc n)) (nat b) (omega arith)

pub nat_abs_le : (x : ℤ) (b : ℕ) → neg_ℤ (pos b) ≼ x → x ≼ pos b → nat_abs x ≤ b
nat_abs_le (pos n) b h k = let l = less⁻¹ (nat n) (nat b) k in omega arith
nat_abs_le (negsuc n) b h k = let l = less⁻¹ (negᵢ (nat b)) (int (negsuc n)) h in omega arith

pub nat_abs-+ : (x y : ℤ) → nat_abs (x +ℤ y) ≤ nat_abs x + nat_abs y
nat_abs-+ x y =
    nat_abs_le (x +ℤ y) (nat_abs x + nat_abs y)
    (let a = nat_abs_low x (nat_abs x) (omega arith) in let b = nat_abs_low y (nat_abs y) (omega arith) in
    cert! (x ∷ y ∷ pos (nat_abs x) ∷ pos (nat_abs y) ∷ []) 0 (gap a ⊞ gap b) (search polys depth 30) tt)
    (let a = nat_abs_high x (nat_abs x) (omega arith) in let b = nat_abs_high y (nat_abs y) (omega arith) in
    cert! (x ∷ y ∷ pos (nat_abs x) ∷ pos (nat_abs y) ∷ []) 0 (gap a ⊞ gap b) (search polys depth 30) tt)

pub nat_abs_sub : (x y : ℤ) → nat_abs (x -ℤ y) ≤ nat_abs x + nat_abs y
nat_abs_sub x y = subst (λ (n : ℕ). nat_abs (x -ℤ y) ≤ nat_abs x + n) (nat_abs_neg y) (nat_abs-+ x (neg_ℤ y))

-- ---- the range of an i64

pub fits : (x : ℤ) → nat_abs x < 2 ^ 63 → SFits w64 x
fits (pos n) h = record { sfits = h }
fits (negsuc n) h = record { sfits = let k : suc n < 2 ^ 63 = h in omega arith }

pub nat_difference_fits : (a b : ℕ) → a < 2 ^ 63 → b < 2 ^ 63 → SFits w64 (pos a -ℤ pos b)
nat_difference_fits a b h k =
    let l = nat_abs_le (pos a -ℤ pos b) 9223372036854775807 (less (negᵢ (nat 9223372036854775807)) (nat a -ᵢ nat b) (omega arith))
    (less (nat a -ᵢ nat b) (nat 9223372036854775807) (omega arith)) in
    fits (pos a -ℤ pos b) (omega arith)
