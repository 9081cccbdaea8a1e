-- What a computed test tells: the parts of a conjunction, an order of whole numbers, a fact at each number of a range. Assumes nothing.
use mathlib.Core.Path.{◌≡◌, refl, sym, subst, ◌∙◌}
use mathlib.Core.Bool.{Bool, true, false, ◌&&◌}
use Prim.Native.Nat.{ℕ, zero, suc, ◌+◌, ◌≤◌, ◌<◌}
use native.Mathlib.Decide.{dec_le}
use native.Mathlib.Omega.{arith}
use lib.Dec.{T}
use lib.IntN.{ℤ}
use lib.Signed.{le_z}
use Rattle.integers.specs.Order.{◌≼◌}

-- The two answers differ.
pub false_true : false ≡ true → ⊥
false_true e = subst T (sym e) tt

pub true_false : {A : Type 0} (b : Bool) → b ≡ true → b ≡ false → A
true_false b p q = absurd (false_true (sym q ∙ p))

pub is_true : (b : Bool) → T b → b ≡ true
is_true true t = refl
is_true false t = absurd t

pub is_false : (b : Bool) → (T b → ⊥) → b ≡ false
is_false true f = absurd (f tt)
is_false false f = refl

-- A test that goes either way.
pub by_cases : {P : Type 0} (t : Bool) → (t ≡ true → P) → (t ≡ false → P) → P
by_cases true f g = f refl
by_cases false f g = g refl

-- Both parts of a conjunction.
pub and_left : (a b : Bool) → T (a && b) → T a
and_left true b t = tt
and_left false b t = t

pub and_right : (a b : Bool) → T (a && b) → T b
and_right true b t = t
and_right false b t = absurd t

pub both : (a b : Bool) → (a && b) ≡ true → (a ≡ true) × (b ≡ true)
both true b e = (refl, e)
both false b e = absurd (false_true e)

-- The test ≤ of whole numbers.
pub at_most : (x y : ℤ) → le_z x y ≡ true → x ≼ y
at_most x y e = record { le = subst T (sym e) tt }

-- f holds at each of the n numbers from i on.
abbrev pub all : (ℕ → Bool) → ℕ → ℕ → Bool
all f zero i = true
all f (suc n) i = f i && all f n (suc i)

pub all_at : (f : ℕ → Bool) (n i k : ℕ) → T (all f n i) → i ≤ k → k < i + n → T (f k)
all_at f zero i k t h l = absurd (omega arith)
all_at f (suc n) i k t h l = go (dec_le (suc i) k) (λ (g : suc i ≤ k). all_at f n (suc i) k (and_right (f i) (all f n (suc i)) t) g (omega arith))
  where
    go : Dec (suc i ≤ k) → (suc i ≤ k → T (f k)) → T (f k)
    go (yes g) next = next g
    go (no g) next = let e : i ≡ k = omega arith in subst (λ (m : ℕ). T (f m)) e (and_left (f i) (all f n (suc i)) t)

pub every_below : (n : ℕ) (f : ℕ → Bool) → T (all f n 0) → (k : ℕ) → k < n → T (f k)
every_below n f t k h = all_at f n 0 k t (omega arith) (omega arith)
