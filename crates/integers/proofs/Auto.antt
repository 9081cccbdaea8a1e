-- The ring normaliser with the expressions of both sides found by one `search polys`: `ring! (a ∷ b ∷ []) (search polys depth 30) tt`,
-- and inequalities from a certificate, a sum of products of facts `pos 0 ≼ z`. Assumes nothing.
use mathlib.Core.Path.{◌≡◌, refl, sym, ap, ap₂, ◌∙◌, subst, subst₂}
use mathlib.Core.List.{List, ◌∷◌}
use Prim.Native.Nat.{ℕ, zero, suc, ◌+◌, ◌*◌, ◌≤◌}
use mathlib.Core.Bool.{true}
use lib.Dec.{T, leb, leb→le, le→leb}
use lib.IntN.{ℤ, pos, nat_abs, ◌+ℤ◌, ◌-ℤ◌, ◌*ℤ◌, neg_ℤ}
use lib.Signed.{≤ℤ_refl}
use Rattle.integers.specs.Order.{◌≼◌, ◌≺◌}
use Rattle.integers.proofs.Pairs.{diff-of-≤ℤ, <ℤ-suc, suc-<ℤ, nonneg, nonneg-+, nonneg-*, nonneg_sq}
use Rattle.integers.proofs.Ring.{E, v, #, ◌⊕◌, ◌⊖◌, ◌⊗◌, ⊝, ring, den, nth, zer, nonn, norm, cert}

-- ---- what z is, over the variables ρ

pub record Var (ρ : List ℤ) (z : ℤ) : Type 0 where
  pub i : ℕ
  pub at : nth ρ i ≡ z

abbrev pub here : {x : ℤ} {ρ : List ℤ} → Var (x ∷ ρ) x
here = record { i = zero; at = refl }

abbrev pub there : {x y : ℤ} {ρ : List ℤ} → Var ρ x → Var (y ∷ ρ) x
there h = record { i = suc h.i; at = h.at }

pub record Poly (ρ : List ℤ) (z : ℤ) : Type 0 where
  pub e : E
  pub is : den ρ e ≡ z

abbrev pub p_var : {x : ℤ} {ρ : List ℤ} → Var ρ x → Poly ρ x
p_var h = record { e = v h.i; is = h.at }

-- a numeral: at anything else the test does not compute
abbrev pub p_lit : {n : ℕ} {ρ : List ℤ} → leb 0 n ≡ true → Poly ρ (pos n)
p_lit {n} t = record { e = # n; is = refl }

abbrev pub p_add : (x y : ℤ) {ρ : List ℤ} → Poly ρ x → Poly ρ y → Poly ρ (x +ℤ y)
p_add x y h k = record { e = h.e ⊕ k.e; is = ap₂ ◌+ℤ◌ h.is k.is }

abbrev pub p_sub : (x y : ℤ) {ρ : List ℤ} → Poly ρ x → Poly ρ y → Poly ρ (x -ℤ y)
p_sub x y h k = record { e = h.e ⊖ k.e; is = ap₂ ◌-ℤ◌ h.is k.is }

abbrev pub p_mul : (x y : ℤ) {ρ : List ℤ} → Poly ρ x → Poly ρ y → Poly ρ (x *ℤ y)
p_mul x y h k = record { e = h.e ⊗ k.e; is = ap₂ ◌*ℤ◌ h.is k.is }

abbrev pub p_neg : (x : ℤ) {ρ : List ℤ} → Poly ρ x → Poly ρ (neg_ℤ x)
p_neg x h = record { e = ⊝ h.e; is = ap neg_ℤ h.is }

-- a sum and a product of naturals, under `pos`
abbrev pub p_nat_add : (m n : ℕ) {ρ : List ℤ} → Poly ρ (pos m) → Poly ρ (pos n) → Poly ρ (pos (m + n))
p_nat_add m n h k = record { e = h.e ⊕ k.e; is = ap₂ ◌+ℤ◌ h.is k.is }

abbrev pub p_nat_mul : (m n : ℕ) {ρ : List ℤ} → Poly ρ (pos m) → Poly ρ (pos n) → Poly ρ (pos (m * n))
p_nat_mul m n h k = record { e = h.e ⊗ k.e; is = ap₂ ◌*ℤ◌ h.is k.is }

-- both sides of an equation, and with them what a certificate sums up to
pub record Sides (ρ : List ℤ) (x y : ℤ) : Type 0 where
  pub left : Poly ρ x
  pub right : Poly ρ y

abbrev pub sides : {x y : ℤ} {ρ : List ℤ} → Poly ρ x → Poly ρ y → Sides ρ x y
sides p q = record { left = p; right = q }

pub record Summed (ρ : List ℤ) (x y w : ℤ) : Type 0 where
  pub left : Poly ρ x
  pub right : Poly ρ y
  pub sum : Poly ρ w

abbrev pub summed : {x y w : ℤ} {ρ : List ℤ} → Poly ρ x → Poly ρ y → Poly ρ w → Summed ρ x y w
summed p q s = record { left = p; right = q; sum = s }

-- and a factor that the goal is multiplied by
pub record Multiplied (ρ : List ℤ) (x y w m : ℤ) : Type 0 where
  pub sides : Summed ρ x y w
  pub factor : Poly ρ m

abbrev pub multiplied : {x y w m : ℤ} {ρ : List ℤ} → Summed ρ x y w → Poly ρ m → Multiplied ρ x y w m
multiplied s r = record { sides = s; factor = r }

pub ruleset polys = (sides, summed, multiplied, p_add, p_sub, p_mul, p_neg, p_nat_add, p_nat_mul, p_lit, p_var, here, there)

pub ring! : (ρ : List ℤ) {x y : ℤ} (s : Sides ρ x y) → T (zer (norm (s.left.e ⊖ s.right.e))) → x ≡ y
ring! ρ s t = sym s.left.is ∙ ring ρ s.left.e s.right.e t ∙ s.right.is

-- ---- certificates: from w, which is not negative. (k + 1) · (y − x) + k is w and a constant that is not negative

pub cert! : (ρ : List ℤ) (k : ℕ) {x y w : ℤ} → pos 0 ≼ w → (s : Summed ρ x y w) →
    T (nonn (norm (# (suc k) ⊗ (s.right.e ⊖ s.left.e) ⊕ # k ⊖ s.sum.e))) → x ≼ y
cert! ρ k h s t =
    subst₂ (λ a b. a ≼ b) s.left.is s.right.is
    (cert ρ s.left.e s.right.e k {w = s.sum.e} (record { nn = subst (λ a. pos 0 ≼ a) (sym s.sum.is) h }) t)

pub cert<! : (ρ : List ℤ) (k : ℕ) {x y w : ℤ} → pos 0 ≼ w → (s : Summed ρ x y w) →
    T (nonn (norm (# (suc k) ⊗ (s.right.e ⊖ (s.left.e ⊕ # 1)) ⊕ # k ⊖ s.sum.e))) → x ≺ y
cert<! ρ k {x} {y} h s t = suc-<ℤ x y (cert! ρ k h (summed (p_add x (pos 1) s.left (p_lit refl)) s.right s.sum) t)

pub gap : {x y : ℤ} → x ≼ y → pos 0 ≼ (y -ℤ x)
gap {x} {y} h = diff-of-≤ℤ x y h

pub gap< : {x y : ℤ} → x ≺ y → pos 0 ≼ (y -ℤ (x +ℤ pos 1))
gap< {x} {y} h = diff-of-≤ℤ (x +ℤ pos 1) y (<ℤ-suc x y h)

pub gap≡ : {x y : ℤ} → x ≡ y → pos 0 ≼ (y -ℤ x)
gap≡ {x} {y} h = diff-of-≤ℤ x y (subst (λ t. x ≼ t) h (≤ℤ_refl x))

infixl 6 ◌⊞◌
infixl 7 ◌⊛◌ ◌·◌
pub ◌⊞◌ : {x y : ℤ} → pos 0 ≼ x → pos 0 ≼ y → pos 0 ≼ (x +ℤ y)
h ⊞ k = nonneg-+ h k

pub ◌⊛◌ : {x y : ℤ} → pos 0 ≼ x → pos 0 ≼ y → pos 0 ≼ (x *ℤ y)
h ⊛ k = nonneg-* h k

pub ◌·◌ : {x : ℤ} (n : ℕ) → pos 0 ≼ x → pos 0 ≼ (pos n *ℤ x)
n · h = nonneg-* (nonneg n) h

pub sqr : (x : ℤ) → pos 0 ≼ (x *ℤ x)
sqr x = nonneg_sq x

-- ---- the same of naturals: the variables are `pos a`, and subtraction, which is no ring's, is not read
pub nat-ring! : (ρ : List ℤ) {m n : ℕ} (s : Sides ρ (pos m) (pos n)) → T (zer (norm (s.left.e ⊖ s.right.e))) → m ≡ n
nat-ring! ρ s t = ap nat_abs (ring! ρ s t)

pub nat-cert! : (ρ : List ℤ) (k : ℕ) {m n : ℕ} {w : ℤ} → pos 0 ≼ w → (s : Summed ρ (pos m) (pos n) w) →
    T (nonn (norm (# (suc k) ⊗ (s.right.e ⊖ s.left.e) ⊕ # k ⊖ s.sum.e))) → m ≤ n
nat-cert! ρ k {m} {n} h s t = leb→le m n (cert! ρ k h s t).le

-- what is known of naturals, for a certificate
pub nat_gap : (m n : ℕ) → m ≤ n → pos 0 ≼ (pos n -ℤ pos m)
nat_gap m n h = gap {x = pos m} {y = pos n} (record { le = le→leb m n h })
