-- An integer as a difference of two naturals, `sub_ℕ a b`. The sum, the product, the negation, equality and the order of two such differences,
-- each said of the naturals, where `omega` works. The ring laws that `lib.IntN` lacks follow. Assumes nothing.
use mathlib.Core.Path.{◌≡◌, refl, sym, ap, ap₂, ◌∙◌, subst, subst₂}
use mathlib.Core.Bool.{Bool, true, false, not, cond}
use Prim.Native.Nat.{ℕ, zero, suc, ◌+◌, ◌*◌, ◌-◌, ◌≤◌, ◌<◌}
use native.Mathlib.Omega.{arith, by_contra}
use native.Mathlib.Nat.{mul-le-mul_left}
use native.Mathlib.Decide.{dec_le}
use lib.Dec.{T, ltb, ltb→lt, lt→ltb, le→leb, leb→le}
use lib.IntN.{ℤ, pos, negsuc, neg_ℤ, sub_ℕ, ◌+ℤ◌, ◌-ℤ◌, ◌*ℤ◌, +ℤ_assoc, +ℤ_comm}
use lib.Signed.{◌≤ℤ◌, ◌<ℤ◌}

-- ---- which of the two a difference is

cond_true : (c : Bool) (x y : ℤ) → T c → cond c x y ≡ x
cond_true true x y t = refl
cond_true false x y t = absurd t

cond_false : (c : Bool) (x y : ℤ) → T (not c) → cond c x y ≡ y
cond_false true x y t = absurd t
cond_false false x y t = refl

not_lt : (c : Bool) → (T c → ⊥) → T (not c)
not_lt true f = f tt
not_lt false f = tt

pub sub_pos : (x y n : ℕ) → x ≡ y + n → sub_ℕ x y ≡ pos n
sub_pos x y n e = cond_false (ltb x y) _ _ (not_lt (ltb x y) (λ t. let h : x < y = ltb→lt x y t in omega arith)) ∙ ap pos (omega arith)

pub sub_neg : (x y n : ℕ) → y ≡ x + suc n → sub_ℕ x y ≡ negsuc n
sub_neg x y n e = cond_true (ltb x y) _ _ (lt→ltb x y (omega arith)) ∙ ap negsuc (omega arith)

-- at a difference that is zero or below, by its size
pub sub_negpos : (x y k : ℕ) → y ≡ x + k → sub_ℕ x y ≡ neg_ℤ (pos k)
sub_negpos x y zero e = sub_pos x y zero (omega arith)
sub_negpos x y (suc k) e = sub_neg x y k e

pub data View (x y : ℕ) (z : ℤ) : Type 0 where
  above : (n : ℕ) → x ≡ y + n → z ≡ pos n → View x y z
  below : (n : ℕ) → y ≡ x + suc n → z ≡ negsuc n → View x y z

pub view : (x y : ℕ) → View x y (sub_ℕ x y)
view x y = go (dec_le y x)
  where
    go : Dec (y ≤ x) → View x y (sub_ℕ x y)
    go (yes h) = above (x - y) (omega arith) (sub_pos x y (x - y) (omega arith))
    go (no f) = below (y - suc x) (omega arith) (sub_neg x y (y - suc x) (omega arith))

-- ---- the two parts of an integer: one of them is 0

abbrev pub up : ℤ → ℕ
up (pos n) = n
up (negsuc n) = zero

abbrev pub dn : ℤ → ℕ
dn (pos n) = zero
dn (negsuc n) = suc n

pub parts : (z : ℤ) → sub_ℕ (up z) (dn z) ≡ z
parts (pos n) = sub_pos n 0 n (omega arith)
parts (negsuc n) = sub_neg 0 (suc n) n (omega arith)

-- ---- equality and the order

pub sub_cong : (a b c d : ℕ) → a + d ≡ c + b → sub_ℕ a b ≡ sub_ℕ c d
sub_cong a b c d e = go (view c d)
  where
    go : View c d (sub_ℕ c d) → sub_ℕ a b ≡ sub_ℕ c d
    go (above n p q) = sub_pos a b n (omega arith) ∙ sym q
    go (below n p q) = sub_neg a b n (omega arith) ∙ sym q

pub sub_inj : (a b c d : ℕ) → sub_ℕ a b ≡ sub_ℕ c d → a + d ≡ c + b
sub_inj a b c d e = go (view a b) (view c d)
  where
    go : View a b (sub_ℕ a b) → View c d (sub_ℕ c d) → a + d ≡ c + b
    go (above n p q) (above m p' q') = let h : n ≡ m = ap up (sym q ∙ e ∙ q') in omega arith
    go (above n p q) (below m p' q') = let h : 0 ≡ suc m = ap dn (sym q ∙ e ∙ q') in omega arith
    go (below n p q) (above m p' q') = let h : suc n ≡ 0 = ap dn (sym q ∙ e ∙ q') in omega arith
    go (below n p q) (below m p' q') = let h : suc n ≡ suc m = ap dn (sym q ∙ e ∙ q') in omega arith

pub sub_le : (a b c d : ℕ) → a + d ≤ c + b → sub_ℕ a b ≤ℤ sub_ℕ c d
sub_le a b c d h = go (view a b) (view c d)
  where
    go : View a b (sub_ℕ a b) → View c d (sub_ℕ c d) → sub_ℕ a b ≤ℤ sub_ℕ c d
    go (above n p q) (above m p' q') = subst₂ (λ x y. x ≤ℤ y) (sym q) (sym q') (record { le = le→leb n m (omega arith) })
    go (above n p q) (below m p' q') = absurd (omega arith)
    go (below n p q) (above m p' q') = subst₂ (λ x y. x ≤ℤ y) (sym q) (sym q') (record { le = tt })
    go (below n p q) (below m p' q') = subst₂ (λ x y. x ≤ℤ y) (sym q) (sym q') (record { le = le→leb m n (omega arith) })

pub sub_le_inv : (a b c d : ℕ) → sub_ℕ a b ≤ℤ sub_ℕ c d → a + d ≤ c + b
sub_le_inv a b c d h = go (view a b) (view c d)
  where
    go : View a b (sub_ℕ a b) → View c d (sub_ℕ c d) → a + d ≤ c + b
    go (above n p q) (above m p' q') = let k : n ≤ m = leb→le n m (subst₂ (λ x y. x ≤ℤ y) q q' h).le in omega arith
    go (above n p q) (below m p' q') = absurd (subst₂ (λ x y. x ≤ℤ y) q q' h).le
    go (below n p q) (above m p' q') = omega arith
    go (below n p q) (below m p' q') = let k : m ≤ n = leb→le m n (subst₂ (λ x y. x ≤ℤ y) q q' h).le in omega arith

-- ---- the operations

pub sub-+ : (a b c d : ℕ) → sub_ℕ a b +ℤ sub_ℕ c d ≡ sub_ℕ (a + c) (b + d)
sub-+ a b c d = go (view a b) (view c d)
  where
    go : View a b (sub_ℕ a b) → View c d (sub_ℕ c d) → sub_ℕ a b +ℤ sub_ℕ c d ≡ sub_ℕ (a + c) (b + d)
    go (above n p q) (above m p' q') = ap₂ ◌+ℤ◌ q q' ∙ sym (sub_pos (a + c) (b + d) (n + m) (omega arith))
    go (above n p q) (below m p' q') = ap₂ ◌+ℤ◌ q q' ∙ sub_cong n (suc m) (a + c) (b + d) (omega arith)
    go (below n p q) (above m p' q') = ap₂ ◌+ℤ◌ q q' ∙ sub_cong m (suc n) (a + c) (b + d) (omega arith)
    go (below n p q) (below m p' q') = ap₂ ◌+ℤ◌ q q' ∙ sym (sub_neg (a + c) (b + d) (suc (n + m)) (omega arith))

pub sub_neg_swap : (a b : ℕ) → neg_ℤ (sub_ℕ a b) ≡ sub_ℕ b a
sub_neg_swap a b = go (view a b)
  where
    go : View a b (sub_ℕ a b) → neg_ℤ (sub_ℕ a b) ≡ sub_ℕ b a
    go (above n p q) = ap neg_ℤ q ∙ sym (sub_negpos b a n p)
    go (below n p q) = ap neg_ℤ q ∙ sym (sub_pos b a (suc n) p)

pub sub-* : (a b c d : ℕ) → sub_ℕ a b *ℤ sub_ℕ c d ≡ sub_ℕ (a * c + b * d) (a * d + b * c)
sub-* a b c d = go (view a b) (view c d)
  where
    go : View a b (sub_ℕ a b) → View c d (sub_ℕ c d) → sub_ℕ a b *ℤ sub_ℕ c d ≡ sub_ℕ (a * c + b * d) (a * d + b * c)
    go (above n p q) (above m p' q') = ap₂ ◌*ℤ◌ q q' ∙ sym (sub_pos _ _ (n * m) (eq₁ a b c d n m p p'))
      where
        eq₁ : (a b c d n m : ℕ) → a ≡ b + n → c ≡ d + m → a * c + b * d ≡ a * d + b * c + n * m
        eq₁ a b c d n m p p' = rw (p, p') (omega arith)
    go (above n p q) (below m p' q') = ap₂ ◌*ℤ◌ q q' ∙ sym (sub_negpos _ _ (n * suc m) (eq₂ a b c d n m p p'))
      where
        eq₂ : (a b c d n m : ℕ) → a ≡ b + n → d ≡ c + suc m → a * d + b * c ≡ a * c + b * d + n * suc m
        eq₂ a b c d n m p p' = rw (p, p') (omega arith)
    go (below n p q) (above m p' q') = ap₂ ◌*ℤ◌ q q' ∙ sym (sub_negpos _ _ (suc n * m) (eq₃ a b c d n m p p'))
      where
        eq₃ : (a b c d n m : ℕ) → b ≡ a + suc n → c ≡ d + m → a * d + b * c ≡ a * c + b * d + suc n * m
        eq₃ a b c d n m p p' = rw (p, p') (omega arith)
    go (below n p q) (below m p' q') = ap₂ ◌*ℤ◌ q q' ∙ sym (sub_pos _ _ (suc n * suc m) (eq₄ a b c d n m p p'))
      where
        eq₄ : (a b c d n m : ℕ) → b ≡ a + suc n → d ≡ c + suc m → a * c + b * d ≡ a * d + b * c + suc n * suc m
        eq₄ a b c d n m p p' = rw (p, p') (omega arith)

-- ---- an integer that is a difference, with the two naturals in the type, so that they are found: `same` and `less` leave a fact for `omega`

pub record Is (z : ℤ) (a b : ℕ) : Type 0 where
  pub is : z ≡ sub_ℕ a b

pub int : (z : ℤ) → Is z (up z) (dn z)
int z = record { is = sym (parts z) }

pub nat : (n : ℕ) → Is (pos n) n 0
nat n = record { is = sym (sub_pos n 0 n (omega arith)) }

infixl 6 ◌+ᵢ◌ ◌-ᵢ◌
infixl 7 ◌*ᵢ◌
pub ◌+ᵢ◌ : {x y : ℤ} {a b c d : ℕ} → Is x a b → Is y c d → Is (x +ℤ y) (a + c) (b + d)
◌+ᵢ◌ {a = a} {b = b} {c = c} {d = d} h k = record { is = ap₂ ◌+ℤ◌ h.is k.is ∙ sub-+ a b c d }

pub negᵢ : {x : ℤ} {a b : ℕ} → Is x a b → Is (neg_ℤ x) b a
negᵢ {a = a} {b = b} h = record { is = ap neg_ℤ h.is ∙ sub_neg_swap a b }

pub ◌-ᵢ◌ : {x y : ℤ} {a b c d : ℕ} → Is x a b → Is y c d → Is (x -ℤ y) (a + d) (b + c)
h -ᵢ k = h +ᵢ negᵢ k

pub ◌*ᵢ◌ : {x y : ℤ} {a b c d : ℕ} → Is x a b → Is y c d → Is (x *ℤ y) (a * c + b * d) (a * d + b * c)
◌*ᵢ◌ {a = a} {b = b} {c = c} {d = d} h k = record { is = ap₂ ◌*ℤ◌ h.is k.is ∙ sub-* a b c d }

pub same : {x y : ℤ} {a b c d : ℕ} → Is x a b → Is y c d → a + d ≡ c + b → x ≡ y
same {a = a} {b = b} {c = c} {d = d} h k e = h.is ∙ sub_cong a b c d e ∙ sym k.is

pub same⁻¹ : {x y : ℤ} {a b c d : ℕ} → Is x a b → Is y c d → x ≡ y → a + d ≡ c + b
same⁻¹ {a = a} {b = b} {c = c} {d = d} h k e = sub_inj a b c d (sym h.is ∙ e ∙ k.is)

pub less : {x y : ℤ} {a b c d : ℕ} → Is x a b → Is y c d → a + d ≤ c + b → x ≤ℤ y
less {a = a} {b = b} {c = c} {d = d} h k l = subst₂ (λ s t. s ≤ℤ t) (sym h.is) (sym k.is) (sub_le a b c d l)

pub less⁻¹ : {x y : ℤ} {a b c d : ℕ} → Is x a b → Is y c d → x ≤ℤ y → a + d ≤ c + b
less⁻¹ {a = a} {b = b} {c = c} {d = d} h k l = sub_le_inv a b c d (subst₂ (λ s t. s ≤ℤ t) h.is k.is l)

-- the strict order of `lib.Signed`, as `≤ℤ` of one more
pub <ℤ-suc : (x y : ℤ) → x <ℤ y → (x +ℤ pos 1) ≤ℤ y
<ℤ-suc (pos a) (pos b) h = record { le = le→leb (a + 1) b (let k : a < b = ltb→lt a b h.lt in omega arith) }
<ℤ-suc (pos a) (negsuc b) h = absurd h.lt
<ℤ-suc (negsuc a) (pos b) h = less (int (negsuc a) +ᵢ nat 1) (nat b) (omega arith)
<ℤ-suc (negsuc a) (negsuc b) h = less (int (negsuc a) +ᵢ nat 1) (int (negsuc b)) (let k : b < a = ltb→lt b a h.lt in omega arith)

pub suc-<ℤ : (x y : ℤ) → (x +ℤ pos 1) ≤ℤ y → x <ℤ y
suc-<ℤ (pos a) (pos b) h = record { lt = lt→ltb a b (let k = less⁻¹ (nat a +ᵢ nat 1) (nat b) h in omega arith) }
suc-<ℤ (pos a) (negsuc b) h = absurd h.le
suc-<ℤ (negsuc a) (pos b) h = record { lt = tt }
suc-<ℤ (negsuc a) (negsuc b) h = record { lt = lt→ltb b a (let k = less⁻¹ (int (negsuc a) +ᵢ nat 1) (int (negsuc b)) h in omega arith) }

-- ---- the ring laws that `lib.IntN` lacks

pub *ℤ-assoc : (x y z : ℤ) → (x *ℤ y) *ℤ z ≡ x *ℤ (y *ℤ z)
*ℤ-assoc x y z = same (int x *ᵢ int y *ᵢ int z) (int x *ᵢ (int y *ᵢ int z)) (omega arith)

pub *ℤ-+ℤ : (x y z : ℤ) → x *ℤ (y +ℤ z) ≡ x *ℤ y +ℤ x *ℤ z
*ℤ-+ℤ x y z = same (int x *ᵢ (int y +ᵢ int z)) (int x *ᵢ int y +ᵢ int x *ᵢ int z) (omega arith)

pub +ℤ-*ℤ : (x y z : ℤ) → (x +ℤ y) *ℤ z ≡ x *ℤ z +ℤ y *ℤ z
+ℤ-*ℤ x y z = same ((int x +ᵢ int y) *ᵢ int z) (int x *ᵢ int z +ᵢ int y *ᵢ int z) (omega arith)

pub neg_ℤ-*ℤ : (x y : ℤ) → neg_ℤ x *ℤ y ≡ neg_ℤ (x *ℤ y)
neg_ℤ-*ℤ x y = same (negᵢ (int x) *ᵢ int y) (negᵢ (int x *ᵢ int y)) (omega arith)

pub one-*ℤ : (x : ℤ) → pos 1 *ℤ x ≡ x
one-*ℤ x = same (nat 1 *ᵢ int x) (int x) (omega arith)

-- the sums of four, regrouped
pub swapℤ : (p q r s : ℤ) → (p +ℤ q) +ℤ (r +ℤ s) ≡ (p +ℤ r) +ℤ (q +ℤ s)
swapℤ p q r s =
    +ℤ_assoc p q (r +ℤ s) ∙ ap (λ t. p +ℤ t) (sym (+ℤ_assoc q r s) ∙ ap (λ t. t +ℤ s) (+ℤ_comm q r) ∙ +ℤ_assoc r q s) ∙ sym (+ℤ_assoc p r (q +ℤ s))

-- ---- the order

pub ≤ℤ-of-diff : (x y : ℤ) → pos 0 ≤ℤ (y -ℤ x) → x ≤ℤ y
≤ℤ-of-diff x y h = let l = less⁻¹ (nat 0) (int y -ᵢ int x) h in less (int x) (int y) (omega arith)

pub diff-of-≤ℤ : (x y : ℤ) → x ≤ℤ y → pos 0 ≤ℤ (y -ℤ x)
diff-of-≤ℤ x y h = let l = less⁻¹ (int x) (int y) h in less (nat 0) (int y -ᵢ int x) (omega arith)

-- what is not negative is a natural number
pub from_nonneg : (z : ℤ) → pos 0 ≤ℤ z → (n : ℕ) × (z ≡ pos n)
from_nonneg (pos n) h = (n, refl)
from_nonneg (negsuc n) h = absurd h.le

pub nonneg : (n : ℕ) → pos 0 ≤ℤ pos n
nonneg n = record { le = le→leb 0 n (omega arith) }

pub nonneg-+ : {x y : ℤ} → pos 0 ≤ℤ x → pos 0 ≤ℤ y → pos 0 ≤ℤ (x +ℤ y)
nonneg-+ {x} {y} h k =
    let a = from_nonneg x h in
    let b = from_nonneg y k in
    subst (λ t. pos 0 ≤ℤ t) (sym (ap₂ ◌+ℤ◌ a.1 b.1)) (nonneg (a.0 + b.0))

pub nonneg-* : {x y : ℤ} → pos 0 ≤ℤ x → pos 0 ≤ℤ y → pos 0 ≤ℤ (x *ℤ y)
nonneg-* {x} {y} h k =
    let a = from_nonneg x h in
    let b = from_nonneg y k in
    subst (λ t. pos 0 ≤ℤ t) (sym (ap₂ ◌*ℤ◌ a.1 b.1)) (nonneg (a.0 * b.0))

pub nonneg_sq : (x : ℤ) → pos 0 ≤ℤ (x *ℤ x)
nonneg_sq (pos n) = nonneg (n * n)
nonneg_sq (negsuc n) = nonneg (suc n * suc n)

pub ≤ℤ-trans : {x y z : ℤ} → x ≤ℤ y → y ≤ℤ z → x ≤ℤ z
≤ℤ-trans {x} {y} {z} h k =
    let a = less⁻¹ (int x) (int y) h in
    let b = less⁻¹ (int y) (int z) k in
    less (int x) (int z) (omega arith)

-- a multiple that is above −(k + 1) is of a number above −1
pub divided : (k : ℕ) (x y : ℤ) → pos 0 ≤ℤ (pos (suc k) *ℤ (y -ℤ x) +ℤ pos k) → x ≤ℤ y
divided k x y h =
    let l = less⁻¹ (nat 0) (nat (suc k) *ᵢ (int y -ᵢ int x) +ᵢ nat k) h in
    less (int x) (int y) (small k (up x + dn y) (up y + dn x) (omega arith))
  where
    small : (k a b : ℕ) → suc k * a ≤ suc k * b + k → a ≤ b
    small k a b l = by_contra a b (λ (h : b < a). omega (arith, mul-le-mul_left (suc k) h))

-- ---- for `omega` itself: rules that read and prove the order and an equation of integers by their parts, and what the parts of a sum and of a difference are.
-- `omega (arith, ints, add_parts x z)`: the rules find the hypotheses, and each sum is listed once
pub read≼ : (x y : ℤ) → x ≤ℤ y → up x + dn y ≤ up y + dn x
read≼ x y h = less⁻¹ (int x) (int y) h

pub prove≼ : (x y : ℤ) → up x + dn y ≤ up y + dn x → x ≤ℤ y
prove≼ x y h = less (int x) (int y) h

pub read≺ : (x y : ℤ) → x <ℤ y → up x + dn y + 1 ≤ up y + dn x
read≺ x y h = let k = less⁻¹ (int x +ᵢ nat 1) (int y) (<ℤ-suc x y h) in omega arith

pub prove≺ : (x y : ℤ) → up x + dn y + 1 ≤ up y + dn x → x <ℤ y
prove≺ x y h = suc-<ℤ x y (less (int x +ᵢ nat 1) (int y) (omega arith))

pub read≡ : (x y : ℤ) → x ≡ y → up x + dn y ≡ up y + dn x
read≡ x y h = same⁻¹ (int x) (int y) h

pub prove≡ : (x y : ℤ) → up x + dn y ≡ up y + dn x → x ≡ y
prove≡ x y h = same (int x) (int y) h

pub add_parts : (x y : ℤ) → up (x +ℤ y) + (dn x + dn y) ≡ up x + up y + dn (x +ℤ y)
add_parts x y = same⁻¹ (int (x +ℤ y)) (int x +ᵢ int y) refl

pub sub_parts : (x y : ℤ) → up (x -ℤ y) + (dn x + up y) ≡ up x + dn y + dn (x -ℤ y)
sub_parts x y = same⁻¹ (int (x -ℤ y)) (int x -ᵢ int y) refl

pub ruleset ints = (read≼, prove≼, read≺, prove≺, read≡, prove≡)
