-- One or two examples of each tool, to copy from. Assumes nothing.
use mathlib.Core.Path.{◌≡◌, refl}
use mathlib.Core.List.{[], ◌∷◌}
use Prim.Native.Nat.{ℕ, ◌+◌, ◌*◌, ◌^◌, ◌≤◌, ◌<◌}
use native.Mathlib.Omega.{arith}
use lib.IntN.{ℤ, pos, negsuc, ◌+ℤ◌, ◌-ℤ◌, ◌*ℤ◌}
use Rattle.integers.specs.Order.{◌≼◌, ◌≺◌}
use Rattle.integers.specs.Division.{floor, rounded, modulo}
use Rattle.integers.proofs.Pairs.{ints, nonneg, add_parts, sub_parts, int, ◌*ᵢ◌, ◌+ᵢ◌, same}
use Rattle.integers.proofs.Auto.{polys, ring!, cert!, gap, gap<, ◌⊞◌, ◌⊛◌, ◌·◌, sqr, nat-ring!, nat-cert!, nat_gap}
use Rattle.integers.proofs.Order.{cert*! }
use Rattle.integers.proofs.Division.{rounded_low}

-- ---- figures: a definition that is wrong dies here. (-1 is `negsuc 0`.)

rounded_figures : (rounded (pos 1) 2 ≡ pos 1) × (rounded (negsuc 0) 2 ≡ pos 0) × (rounded (negsuc 2) 2 ≡ negsuc 0) × (rounded (negsuc 4) 3 ≡ negsuc 1)
unfolding rounded floor
rounded_figures = (refl, refl, refl, refl)

floor_figures : (floor (negsuc 0) 3 ≡ negsuc 0) × (floor (negsuc 2) 3 ≡ negsuc 0) × (floor (negsuc 3) 3 ≡ negsuc 1) × (floor (pos 8) 3 ≡ pos 2)
unfolding floor
floor_figures = (refl, refl, refl, refl)

modulo_figures : (modulo (negsuc 0) 7 ≡ 6) × (modulo (negsuc 6) 7 ≡ 0) × (modulo (pos 15) 7 ≡ 1)
unfolding modulo
modulo_figures = (refl, refl, refl)

-- ---- `omega`: linear facts. Over ℤ the order and the equations are read by `ints`; each sum or difference is listed once.

between : (x y z : ℤ) → x ≼ y → y ≺ z → x ≺ z
between x y z h k = omega (arith, ints)

shifted : (x y z : ℤ) → x ≼ y → y +ℤ z ≼ pos 5 → x +ℤ z ≼ pos 5
shifted x y z h k = omega (arith, ints, add_parts x z, add_parts y z)

left_over : (x : ℤ) → pos 0 ≼ x → x ≼ pos 9 → pos 0 ≼ pos 9 -ℤ x
left_over x h k = omega (arith, ints, sub_parts (pos 9) x)

-- the same by hand, of an identity: each side as a difference of naturals, and then `omega` over these
distributes : (x y z : ℤ) → x *ℤ (y +ℤ z) ≡ x *ℤ y +ℤ x *ℤ z
distributes x y z = same (int x *ᵢ (int y +ᵢ int z)) (int x *ᵢ int y +ᵢ int x *ᵢ int z) (omega arith)

-- ---- `ring!`: an identity of any degree. The list has every variable; a natural d stands in it as `pos d`.

factors : (a b c d e : ℤ) → (a -ℤ b +ℤ e) *ℤ (c +ℤ d) *ℤ (a -ℤ c) *ℤ (b -ℤ pos 7) ≡ (b -ℤ pos 7) *ℤ ((c +ℤ d) *ℤ (a -ℤ c)) *ℤ (e -ℤ (b -ℤ a))
factors a b c d e = ring! (a ∷ b ∷ c ∷ d ∷ e ∷ []) (search polys depth 30) tt

with_natural : (a : ℤ) (d : ℕ) → pos (2 * d) *ℤ (a +ℤ pos 1) ≡ pos 2 *ℤ pos d *ℤ a +ℤ pos (d + d)
with_natural a d = ring! (a ∷ pos d ∷ []) (search polys depth 30) tt

-- ---- `cert!`: an inequality, from a sum of products of what is known not to be negative. `gap h` is `y - x` of `h : x ≼ y`, `gap< h` is
-- `y - (x + 1)` of `h : x ≺ y`, `⊞` adds, `⊛` multiplies, `n · h` takes n times, `sqr` squares. What is left over has to be a constant, not negative.

product_le : (x y a b z : ℤ) → pos 0 ≼ y → pos 0 ≼ a → x ≼ a → y ≼ b → a *ℤ b ≼ z → x *ℤ y ≼ z
product_le x y a b z hy ha hx hb hz =
    cert! (x ∷ y ∷ a ∷ b ∷ z ∷ []) 0 (gap hz ⊞ gap hx ⊛ hy ⊞ ha ⊛ gap hb) (search polys depth 30) tt

cauchy : (a b x y : ℤ) → (a *ℤ x +ℤ b *ℤ y) *ℤ (a *ℤ x +ℤ b *ℤ y) ≼ (a *ℤ a +ℤ b *ℤ b) *ℤ (x *ℤ x +ℤ y *ℤ y)
cauchy a b x y = cert! (a ∷ b ∷ x ∷ y ∷ []) 0 (sqr (a *ℤ y -ℤ b *ℤ x)) (search polys depth 30) tt

-- the number before the certificate, here 2, is one less than what both sides are multiplied by; it also rounds
third : (x y : ℤ) → pos 3 *ℤ x ≼ pos 3 *ℤ y +ℤ pos 2 → x ≼ y
third x y h = cert! (x ∷ y ∷ []) 2 (gap h) (search polys depth 30) tt

-- numbers of any width
fourth : (x : ℤ) → pos 0 ≼ x → x ≼ pos 62831853071795864 → x *ℤ x *ℤ x *ℤ x ≼ pos (62831853071795864 ^ 4)
fourth x h k =
    cert! (x ∷ []) 0 (62831853071795864 ^ 3 · gap k ⊞ 62831853071795864 ^ 2 · (h ⊛ gap k) ⊞ 62831853071795864 · (h ⊛ h ⊛ gap k) ⊞ h ⊛ h ⊛ h ⊛ gap k)
    (search polys depth 40) tt

-- ---- a rounding in a certificate: `rounded n d` itself stands in the list, and `rounded_low`, `rounded_high` bound it

half_above : (a c : ℤ) (d : ℕ) → 0 < d → pos 2 *ℤ pos d *ℤ rounded (a *ℤ c) d ≼ pos 2 *ℤ a *ℤ c +ℤ pos d
half_above a c d h =
    cert! (a ∷ c ∷ pos d ∷ rounded (a *ℤ c) d ∷ []) 0 (gap (rounded_low (a *ℤ c) d h)) (search polys depth 40) tt

-- ---- `cert*!`: the goal times something positive, here b, which is then cancelled. Fractions by cross products: p/q ≤ a/b ≤ c/d.

frac_trans : (p q a b c d : ℤ) → pos 0 ≺ q → pos 0 ≺ b → pos 0 ≺ d → p *ℤ b ≼ a *ℤ q → a *ℤ d ≼ c *ℤ b → p *ℤ d ≼ c *ℤ q
frac_trans p q a b c d hq hb hd h k =
    cert*! (p ∷ q ∷ a ∷ b ∷ c ∷ d ∷ []) b hb (gap h ⊛ gap< hd ⊞ gap h ⊞ gap k ⊛ gap< hq ⊞ gap k) (search polys depth 40) tt

-- ---- the same tools over naturals, where `omega` has too many monomials or too little to go by

regrouped : (a b c d e f : ℕ) → (a + b) * (c + d) * (a + c) * (b + e) * (d + e) * (e + f) ≡ (e + f) * (b + e) * (d + e) * (a + c) * (c + d) * (b + a)
regrouped a b c d e f = nat-ring! (pos a ∷ pos b ∷ pos c ∷ pos d ∷ pos e ∷ pos f ∷ []) (search polys depth 40 fits 5000) tt

product : (x y a b : ℕ) → x ≤ a → y ≤ b → x * y ≤ a * b
product x y a b h k =
    nat-cert! (pos x ∷ pos y ∷ pos a ∷ pos b ∷ []) 0 (nat_gap x a h ⊛ nonneg y ⊞ nonneg a ⊛ nat_gap y b k) (search polys depth 40) tt
