-- Floor division of an integer by a natural, and the nearest integer to a fraction, a tie going up. Assumes nothing.
use mathlib.Core.Path.{◌≡◌, refl, sym, ap, ap₂, ◌∙◌, subst}
use mathlib.Core.List.{List, [], ◌∷◌}
use mathlib.Core.Bool.{Bool, true, false}
use Prim.Native.Nat.{ℕ, zero, suc, ◌+◌, ◌*◌, ◌-◌, ◌/◌, ◌%◌, ◌≤◌, ◌<◌}
use native.Mathlib.Omega.{arith, by_contra, both_ways}
use native.Mathlib.Nat.{div-add-mod, mod-lt, mul-le-mul_left}
use lib.IntN.{ℤ, pos, negsuc, neg_ℤ, nat_abs, ◌+ℤ◌, ◌*ℤ◌}
use Rattle.integers.proofs.Pairs.{nonneg, up, dn, int, nat, ◌+ᵢ◌, ◌*ᵢ◌, negᵢ, same, same⁻¹, less, less⁻¹, <ℤ-suc, suc-<ℤ}
use Rattle.integers.specs.Order.{◌≼◌, ◌≺◌}
use Rattle.integers.specs.Division.{floor, rounded, modulo}
use Rattle.integers.specs.Signs.{negative, sgn, near, differ}
use Rattle.integers.proofs.Ring.{v, #, ◌⊕◌, ◌⊗◌, hyp, hyp<, cert, cert<}
use Rattle.integers.proofs.Order.{≼-antisym}
use Rattle.integers.proofs.Auto.{polys, ring!, cert!, cert<!, gap<, gap≡, ◌⊞◌}

-- ---- floor division by its two bounds

floor_low : (n : ℤ) (d : ℕ) → 0 < d → pos d *ℤ floor n d ≼ n
unfolding floor
floor_low (pos a) d h = less (nat d *ᵢ nat (a / d)) (nat a) (omega (arith, div-add-mod a d))
floor_low (negsuc a) d h = less (nat d *ᵢ int (negsuc (a / d))) (int (negsuc a)) (omega (arith, div-add-mod a d, mod-lt a h))

floor_high : (n : ℤ) (d : ℕ) → 0 < d → n ≺ pos d *ℤ (floor n d +ℤ pos 1)
unfolding floor
floor_high (pos a) d h = suc-<ℤ _ _ (less (nat a +ᵢ nat 1) (nat d *ᵢ (nat (a / d) +ᵢ nat 1)) (omega (arith, div-add-mod a d, mod-lt a h)))
floor_high (negsuc a) d h = suc-<ℤ _ _ (less (int (negsuc a) +ᵢ nat 1) (nat d *ᵢ (int (negsuc (a / d)) +ᵢ nat 1)) (omega (arith, div-add-mod a d, mod-lt a h)))

-- if d·q and n are both in the block of p, then q is at most p
block : (d : ℕ) (n p q : ℤ) → pos d *ℤ q ≼ n → n ≺ pos d *ℤ (p +ℤ pos 1) → q ≼ p
block d n p q h k =
    let a = less⁻¹ (nat d *ᵢ int q) (int n) h in
    let b = less⁻¹ (int n +ᵢ nat 1) (nat d *ᵢ (int p +ᵢ nat 1)) (<ℤ-suc n (pos d *ℤ (p +ℤ pos 1)) k) in
    less (int q) (int p) (by_contra (up q + dn p) (up p + dn q) (λ (g : up p + dn q < up q + dn p). omega (arith, mul-le-mul_left d g)))

pub floor_is : (n q : ℤ) (d : ℕ) → 0 < d → pos d *ℤ q ≼ n → n ≺ pos d *ℤ (q +ℤ pos 1) → floor n d ≡ q
floor_is n q d h l u =
    ≼-antisym (floor n d) q (block d n q (floor n d) (floor_low n d h) u) (block d n (floor n d) q l (floor_high n d h))

-- ---- a multiple of the divisor comes out of the rounding
pub rounded_add : (k x : ℤ) (d : ℕ) → 0 < d → rounded (pos d *ℤ k +ℤ x) d ≡ k +ℤ rounded x d
unfolding rounded
rounded_add k x d h =
    let q = floor (pos 2 *ℤ x +ℤ pos d) (2 * d) in
    let ρ : List ℤ = pos d ∷ k ∷ x ∷ q ∷ [] in
    let D = v 0 in
    let K = v 1 in
    let X = v 2 in
    let Q = v 3 in
    floor_is (pos 2 *ℤ (pos d *ℤ k +ℤ x) +ℤ pos d) (k +ℤ q) (2 * d) (omega arith)
    (cert ρ (# 2 ⊗ D ⊗ (K ⊕ Q)) (# 2 ⊗ (D ⊗ K ⊕ X) ⊕ D) 0 (hyp (# 2 ⊗ D ⊗ Q) (# 2 ⊗ X ⊕ D) (floor_low (pos 2 *ℤ x +ℤ pos d) (2 * d) (omega arith))) tt)
    (cert< ρ (# 2 ⊗ (D ⊗ K ⊕ X) ⊕ D) (# 2 ⊗ D ⊗ (K ⊕ Q ⊕ # 1)) 0
    (hyp< (# 2 ⊗ X ⊕ D) (# 2 ⊗ D ⊗ (Q ⊕ # 1)) (floor_high (pos 2 *ℤ x +ℤ pos d) (2 * d) (omega arith))) tt)

-- ---- a sign and a magnitude

pub rounded_near : (s : Bool) (m d : ℕ) → 0 < d → rounded (sgn s m) d ≡ sgn s (near s m d)
unfolding rounded sgn near floor
rounded_near false m d h = refl
rounded_near true m d h =
    let N = (2 * m + (d - 1)) / (2 * d) in
    let e = div-add-mod (2 * m + (d - 1)) (2 * d) in
    let l : (2 * m + (d - 1)) % (2 * d) < 2 * d = mod-lt (2 * m + (d - 1)) (omega arith) in
    floor_is (pos 2 *ℤ neg_ℤ (pos m) +ℤ pos d) (neg_ℤ (pos N)) (2 * d) (omega arith)
    (less (nat (2 * d) *ᵢ negᵢ (nat N)) (nat 2 *ᵢ negᵢ (nat m) +ᵢ nat d) (omega arith))
    (suc-<ℤ _ _ (less (nat 2 *ᵢ negᵢ (nat m) +ᵢ nat d +ᵢ nat 1) (nat (2 * d) *ᵢ (negᵢ (nat N) +ᵢ nat 1)) (omega arith)))

-- a quotient of naturals by its two bounds
pub div_is : (n d q : ℕ) → d * q ≤ n → n < d * (q + 1) → n / d ≡ q
div_is n d q l u =
    let e = div-add-mod n d in
    let m = mod-lt n pos_d in
    both_ways (n / d) q
    (by_contra (n / d) q (λ (g : q < n / d). omega (arith, mul-le-mul_left d g)))
    (by_contra q (n / d) (λ (g : n / d < q). omega (arith, mul-le-mul_left d g)))
  where
    pos_d : 0 < d
    pos_d = positive d u
      where
        positive : (d : ℕ) → n < d * (q + 1) → 0 < d
        positive zero u = omega arith
        positive (suc d) u = omega arith

-- from a quotient and a remainder: which way it goes is a test on the remainder
pub near_up : (q r d : ℕ) → r < d → d ≤ 2 * r → near false (q * d + r) d ≡ q + 1
unfolding near
near_up q r d h k = div_is (2 * (q * d + r) + d) (2 * d) (q + 1) (omega arith) (omega arith)

pub near_stay : (q r d : ℕ) → 2 * r < d → near false (q * d + r) d ≡ q
unfolding near
near_stay q r d k = div_is (2 * (q * d + r) + d) (2 * d) q (omega arith) (omega arith)

pub near_up⁻ : (q r d : ℕ) → r < d → d < 2 * r → near true (q * d + r) d ≡ q + 1
unfolding near
near_up⁻ q r d h k = div_is (2 * (q * d + r) + (d - 1)) (2 * d) (q + 1) (omega arith) (omega arith)

pub near_stay⁻ : (q r d : ℕ) → 0 < d → 2 * r ≤ d → near true (q * d + r) d ≡ q
unfolding near
near_stay⁻ q r d h k = div_is (2 * (q * d + r) + (d - 1)) (2 * d) q (omega arith) (omega arith)

-- ---- the sign and the magnitude of an integer

pub sgn_nat_abs : (z : ℤ) → sgn (negative z) (nat_abs z) ≡ z
unfolding sgn negative
sgn_nat_abs (pos n) = refl
sgn_nat_abs (negsuc n) = refl

pub rounded_by : (z : ℤ) (d : ℕ) → 0 < d → rounded z d ≡ sgn (negative z) (near (negative z) (nat_abs z) d)
rounded_by z d h = ap (λ t. rounded t d) (sym (sgn_nat_abs z)) ∙ rounded_near (negative z) (nat_abs z) d h

div_below : (n d k : ℕ) → n < d * (k + 1) → n / d ≤ k
div_below n d k u =
    let e = div-add-mod n d in
    by_contra (n / d) k (λ (g : k < n / d). omega (arith, mul-le-mul_left d g))

pub near_le : (s : Bool) (m d : ℕ) → 0 < d → near s m d ≤ m
unfolding near
near_le false m d h = div_below (2 * m + d) (2 * d) m (omega (arith, mul-le-mul_left m h))
near_le true m d h = div_below (2 * m + (d - 1)) (2 * d) m (omega (arith, mul-le-mul_left m h))

-- a magnitude of at most k divisors rounds to at most k
pub near_most : (s : Bool) (k m d : ℕ) → 0 < d → m ≤ k * d → near s m d ≤ k
unfolding near
near_most false k m d h l = div_below (2 * m + d) (2 * d) k (omega arith)
near_most true k m d h l = div_below (2 * m + (d - 1)) (2 * d) k (omega arith)

-- at most one more than the quotient
pub near_next : (s : Bool) (q r d : ℕ) → r < d → near s (q * d + r) d ≤ q + 1
unfolding near
near_next false q r d h = div_below (2 * (q * d + r) + d) (2 * d) (q + 1) (omega arith)
near_next true q r d h = div_below (2 * (q * d + r) + (d - 1)) (2 * d) (q + 1) (omega arith)

-- ---- products, by the signs and the magnitudes

sgn_mul : (a b : ℤ) → a *ℤ b ≡ sgn (differ (negative a) (negative b)) (nat_abs a * nat_abs b)
unfolding sgn differ negative
sgn_mul (pos a) (pos b) = refl
sgn_mul (pos a) (negsuc b) = refl
sgn_mul (negsuc a) (pos b) = refl
sgn_mul (negsuc a) (negsuc b) = refl

pub rounded_mul : (a b : ℤ) (d q r z : ℕ) (s : Bool) → 0 < d → s ≡ differ (negative a) (negative b) → q * d + r ≡ nat_abs a * nat_abs b
    → z ≡ near s (q * d + r) d → sgn s z ≡ rounded (a *ℤ b) d
rounded_mul a b d q r z s h e m p =
    ap (λ t. sgn s t) (p ∙ ap (λ t. near s t d) m) ∙ sym (rounded_near s (nat_abs a * nat_abs b) d h)
    ∙ ap (λ t. rounded t d) (ap (λ t. sgn t (nat_abs a * nat_abs b)) e ∙ sym (sgn_mul a b))

-- ---- rounding by its two bounds
pub rounded_low : (n : ℤ) (d : ℕ) → 0 < d → pos (2 * d) *ℤ rounded n d ≼ pos 2 *ℤ n +ℤ pos d
unfolding rounded
rounded_low n d h = floor_low (pos 2 *ℤ n +ℤ pos d) (2 * d) (omega arith)

pub rounded_high : (n : ℤ) (d : ℕ) → 0 < d → pos 2 *ℤ n +ℤ pos d ≺ pos (2 * d) *ℤ (rounded n d +ℤ pos 1)
unfolding rounded
rounded_high n d h = floor_high (pos 2 *ℤ n +ℤ pos d) (2 * d) (omega arith)

-- ---- the remainder that is not negative

pub modulo_lt : (z : ℤ) (d : ℕ) → 0 < d → modulo z d < d
unfolding modulo
modulo_lt (pos a) d h = mod-lt a h
modulo_lt (negsuc a) d h = omega arith

pub floor_modulo : (z : ℤ) (d : ℕ) → 0 < d → pos d *ℤ floor z d +ℤ pos (modulo z d) ≡ z
unfolding modulo floor
floor_modulo (pos a) d h = same (nat d *ᵢ nat (a / d) +ᵢ nat (a % d)) (nat a) (omega (arith, div-add-mod a d))
floor_modulo (negsuc a) d h = same (nat d *ᵢ int (negsuc (a / d)) +ᵢ nat (d - suc (a % d))) (int (negsuc a)) (omega (arith, div-add-mod a d, mod-lt a h))

pub modulo_is : (z k : ℤ) (d r : ℕ) → r < d → z ≡ pos d *ℤ k +ℤ pos r → modulo z d ≡ r
modulo_is z k d r l e =
    let h : 0 < d = omega arith in
    let f : floor z d ≡ k =
    floor_is z k d h
    (cert! (z ∷ k ∷ pos d ∷ pos r ∷ []) 0 (gap≡ (sym e) ⊞ nonneg r) (search polys depth 40) tt)
    (cert<! (z ∷ k ∷ pos d ∷ pos r ∷ []) 0 (gap≡ e ⊞ gap< (below r d l)) (search polys depth 40) tt) in
    let g : pos d *ℤ k +ℤ pos (modulo z d) ≡ z = subst (λ t. pos d *ℤ t +ℤ pos (modulo z d) ≡ z) f (floor_modulo z d h) in
    let u = same⁻¹ (nat d *ᵢ int k +ᵢ nat (modulo z d)) (nat d *ᵢ int k +ᵢ nat r) (g ∙ e) in
    omega arith
  where
    below : (r d : ℕ) → r < d → pos r ≺ pos d
    below r d l = suc-<ℤ (pos r) (pos d) (less (nat r +ᵢ nat 1) (nat d) (omega arith))

pub modulo_add : (x y : ℤ) (d : ℕ) → 0 < d → modulo (x +ℤ y) d ≡ (modulo x d + modulo y d) % d
modulo_add x y d h =
    let s = modulo x d + modulo y d in
    modulo_is (x +ℤ y) (floor x d +ℤ floor y d +ℤ pos (s / d)) d (s % d) (mod-lt s h)
    (sym (ap₂ ◌+ℤ◌ (floor_modulo x d h) (floor_modulo y d h))
    ∙ ring! (pos d ∷ floor x d ∷ floor y d ∷ pos (modulo x d) ∷ pos (modulo y d) ∷ []) {y = pos d *ℤ (floor x d +ℤ floor y d) +ℤ pos s}
    (search polys depth 40) tt
    ∙ ap (λ (n : ℕ). pos d *ℤ (floor x d +ℤ floor y d) +ℤ pos n) (sym (div-add-mod s d))
    ∙ ring! (pos d ∷ floor x d ∷ floor y d ∷ pos (s / d) ∷ pos (s % d) ∷ []) (search polys depth 40) tt)

-- a multiple of the modulus does not count
pub modulo_shift : (k z : ℤ) (d : ℕ) → 0 < d → modulo (pos d *ℤ k +ℤ z) d ≡ modulo z d
modulo_shift k z d h =
    modulo_is (pos d *ℤ k +ℤ z) (k +ℤ floor z d) d (modulo z d) (modulo_lt z d h)
    (ap (λ t. pos d *ℤ k +ℤ t) (sym (floor_modulo z d h))
    ∙ ring! (pos d ∷ k ∷ floor z d ∷ pos (modulo z d) ∷ []) (search polys depth 40) tt)

-- ---- a multiple of the divisor comes out of the rounding of a magnitude
pub near_shift : (s : Bool) (k x d : ℕ) → 0 < d → near s (k * d + x) d ≡ k + near s x d
unfolding near
near_shift false k x d h =
    let e = div-add-mod (2 * x + d) (2 * d) in
    let l : (2 * x + d) % (2 * d) < 2 * d = mod-lt (2 * x + d) (omega arith) in
    div_is (2 * (k * d + x) + d) (2 * d) (k + (2 * x + d) / (2 * d)) (omega arith) (omega arith)
near_shift true k x d h =
    let e = div-add-mod (2 * x + (d - 1)) (2 * d) in
    let l : (2 * x + (d - 1)) % (2 * d) < 2 * d = mod-lt (2 * x + (d - 1)) (omega arith) in
    div_is (2 * (k * d + x) + (d - 1)) (2 * d) (k + (2 * x + (d - 1)) / (2 * d)) (omega arith) (omega arith)

-- ---- the remainder of ±m, from that of m
