-- The series of the reference are the plain power series: over fractions, the sum of (-1)^m x^i / i!, term by term, has the same value. Assumes nothing.
use mathlib.Core.Path.{◌≡◌, refl, sym, ap, ap₂, ◌∙◌, subst}
use mathlib.Core.List.{[], ◌∷◌}
use Prim.Native.Nat.{ℕ, zero, suc, ◌+◌, ◌*◌, ◌-◌, ◌/◌, ◌≤◌, ◌<◌}
use native.Mathlib.Omega.{arith}
use native.Mathlib.Nat.{mul-le-mul}
use lib.IntN.{ℤ, pos, neg_ℤ, ◌*ℤ◌}
use Rattle.integers.specs.Order.{◌≺◌}
use Rattle.integers.specs.Fractions.{◌*ᶠ◌, overᶠ, powerᶠ, ◌≈ᶠ◌}
use Rattle.integers.proofs.Auto.{polys, ring! }
use Rattle.integers.proofs.Order.{product_pos, ≺-nat}
use Rattle.integers.proofs.Fractions.{Over, over-+}
use Rattle.reference_cosine.specs.Reference.{power, factorial, sum, alternate, even_series, odd_series, total, power_term}

power_pos : (x : ℤ) → pos 0 ≺ x → (m : ℕ) → pos 0 ≺ power x m
unfolding power
power_pos x h zero = record { lt = tt }
power_pos x h (suc m) = product_pos x (power x m) h (power_pos x h m)

factorial_pos : (m : ℕ) → 0 < factorial m
unfolding factorial
factorial_pos zero = omega arith
factorial_pos (suc m) = mul-le-mul (at_least m) (factorial_pos m)
  where
    at_least : (m : ℕ) → 1 ≤ suc m
    at_least m = omega arith

power_add : (x : ℤ) (i j : ℕ) → power x (i + j) ≡ power x i *ℤ power x j
unfolding power
power_add x zero j = ap (λ t. power x t) (left j) ∙ one (power x j)
  where
    left : (j : ℕ) → zero + j ≡ j
    left j = omega arith

    one : (y : ℤ) → y ≡ pos 1 *ℤ y
    one y = ring! (y ∷ []) (search polys depth 60 fits 100000) tt
power_add x (suc i) j = ap (λ t. power x t) (left i j) ∙ ap (λ t. x *ℤ t) (power_add x i j) ∙ assoc x (power x i) (power x j)
  where
    left : (i j : ℕ) → suc i + j ≡ suc (i + j)
    left i j = omega arith

    assoc : (x a b : ℤ) → x *ℤ (a *ℤ b) ≡ x *ℤ a *ℤ b
    assoc x a b = ring! (x ∷ a ∷ b ∷ []) (search polys depth 60 fits 100000) tt

power_upper : (n : ℤ) (N : ℕ) (i : ℕ) → (powerᶠ (overᶠ n N) i).upper ≡ power n i
unfolding power powerᶠ ◌*ᶠ◌
power_upper n N zero = refl
power_upper n N (suc i) = ap (λ z. n *ℤ z) (power_upper n N i)

power_lower : (n : ℤ) (N : ℕ) (i : ℕ) → (powerᶠ (overᶠ n N) i).lower ≡ power (pos N) i
unfolding power powerᶠ ◌*ᶠ◌
power_lower n N zero = refl
power_lower n N (suc i) = ap (λ z. pos N *ℤ z) (power_lower n N i)

alternate_times : (m : ℕ) (x : ℤ) → alternate m x ≡ alternate m (pos 1) *ℤ x
unfolding alternate
alternate_times zero x = ring! (x ∷ []) (search polys depth 60 fits 100000) tt
alternate_times (suc m) x = ap neg_ℤ (alternate_times m x) ∙ minus (alternate m (pos 1)) x
  where
    minus : (s x : ℤ) → neg_ℤ (s *ℤ x) ≡ neg_ℤ s *ℤ x
    minus s x = ring! (s ∷ x ∷ []) (search polys depth 60 fits 100000) tt

-- a term over the one lower number d! N^d
term_over : (n : ℤ) (N d m i : ℕ) → 0 < N → i ≤ d → factorial d / factorial i * factorial i ≡ factorial d
    → Over (pos (factorial d) *ℤ power (pos N) d) (power_term (overᶠ n N) m i)
    (alternate m (pos (factorial d / factorial i) *ℤ power n i *ℤ power (pos N) (d - i)))
unfolding power_term ◌*ᶠ◌
term_over n N d m i h l e = record {
  low_pos = product_pos (pos (factorial i)) (powerᶠ (overᶠ n N) i).lower (≺-nat (factorial i) (factorial_pos i))
      (subst (λ z. pos 0 ≺ z) (sym (power_lower n N i)) (power_pos (pos N) (≺-nat N h) i));
  same =
      ap₂ (λ u v. alternate m (pos 1) *ℤ u *ℤ v) (power_upper n N i)
      (ap₂ ◌*ℤ◌ (ap pos (sym e)) (ap (λ k. power (pos N) k) (back l) ∙ power_add (pos N) (d - i) i))
      ∙ law (alternate m (pos 1)) (power n i) (pos (factorial d / factorial i)) (pos (factorial i)) (power (pos N) (d - i)) (power (pos N) i)
      ∙ ap₂ (λ u v. u *ℤ (pos (factorial i) *ℤ v)) (sym (alternate_times m (pos (factorial d / factorial i) *ℤ power n i *ℤ power (pos N) (d - i))))
      (sym (power_lower n N i));
}
  where
    back : i ≤ d → d ≡ d - i + i
    back l = omega arith

    law : (s x q f a b : ℤ) → s *ℤ x *ℤ (q *ℤ f *ℤ (a *ℤ b)) ≡ s *ℤ (q *ℤ x *ℤ a) *ℤ (f *ℤ b)
    law s x q f a b = ring! (s ∷ x ∷ q ∷ f ∷ a ∷ b ∷ []) (search polys depth 60 fits 100000) tt

-- as many terms as have their factorial in d!
record Fit (d : ℕ) (i : ℕ → ℕ) (m : ℕ) : Type 0 where
  inside : i m ≤ d
  divides : factorial d / factorial (i m) * factorial (i m) ≡ factorial d

total_over : (n : ℤ) (N d : ℕ) (i : ℕ → ℕ) → 0 < N → (m : ℕ) → ((k : ℕ) → k ≤ m → Fit d i k)
    → Over (pos (factorial d) *ℤ power (pos N) d) (total m (λ k. power_term (overᶠ n N) k (i k)))
    (sum m (λ k. alternate k (pos (factorial d / factorial (i k)) *ℤ power n (i k) *ℤ power (pos N) (d - i k))))
unfolding total sum
total_over n N d i h zero f = let a = f 0 (omega arith) in term_over n N d 0 (i 0) h a.inside a.divides
total_over n N d i h (suc m) f =
    let a = f (suc m) (omega arith) in
    over-+ _ _ _ _ _ (total_over n N d i h m (λ k l. f k (omega arith))) (term_over n N d (suc m) (i (suc m)) h a.inside a.divides)

even_fit : (k : ℕ) → k ≤ 10 → Fit 20 (λ m. 2 * m) k
unfolding factorial
even_fit zero h = record { inside = omega arith; divides = refl }
even_fit (suc zero) h = record { inside = omega arith; divides = refl }
even_fit (suc (suc zero)) h = record { inside = omega arith; divides = refl }
even_fit (suc (suc (suc zero))) h = record { inside = omega arith; divides = refl }
even_fit (suc (suc (suc (suc zero)))) h = record { inside = omega arith; divides = refl }
even_fit (suc (suc (suc (suc (suc zero))))) h = record { inside = omega arith; divides = refl }
even_fit (suc (suc (suc (suc (suc (suc zero)))))) h = record { inside = omega arith; divides = refl }
even_fit (suc (suc (suc (suc (suc (suc (suc zero))))))) h = record { inside = omega arith; divides = refl }
even_fit (suc (suc (suc (suc (suc (suc (suc (suc zero)))))))) h = record { inside = omega arith; divides = refl }
even_fit (suc (suc (suc (suc (suc (suc (suc (suc (suc zero))))))))) h = record { inside = omega arith; divides = refl }
even_fit (suc (suc (suc (suc (suc (suc (suc (suc (suc (suc zero)))))))))) h = record { inside = omega arith; divides = refl }
even_fit (suc (suc (suc (suc (suc (suc (suc (suc (suc (suc (suc k))))))))))) h = absurd (omega arith)

odd_fit : (k : ℕ) → k ≤ 10 → Fit 21 (λ m. 2 * m + 1) k
unfolding factorial
odd_fit zero h = record { inside = omega arith; divides = refl }
odd_fit (suc zero) h = record { inside = omega arith; divides = refl }
odd_fit (suc (suc zero)) h = record { inside = omega arith; divides = refl }
odd_fit (suc (suc (suc zero))) h = record { inside = omega arith; divides = refl }
odd_fit (suc (suc (suc (suc zero)))) h = record { inside = omega arith; divides = refl }
odd_fit (suc (suc (suc (suc (suc zero))))) h = record { inside = omega arith; divides = refl }
odd_fit (suc (suc (suc (suc (suc (suc zero)))))) h = record { inside = omega arith; divides = refl }
odd_fit (suc (suc (suc (suc (suc (suc (suc zero))))))) h = record { inside = omega arith; divides = refl }
odd_fit (suc (suc (suc (suc (suc (suc (suc (suc zero)))))))) h = record { inside = omega arith; divides = refl }
odd_fit (suc (suc (suc (suc (suc (suc (suc (suc (suc zero))))))))) h = record { inside = omega arith; divides = refl }
odd_fit (suc (suc (suc (suc (suc (suc (suc (suc (suc (suc zero)))))))))) h = record { inside = omega arith; divides = refl }
odd_fit (suc (suc (suc (suc (suc (suc (suc (suc (suc (suc (suc k))))))))))) h = absurd (omega arith)

-- of x = n/N: the sum over m from 0 to 10 of (-1)^m x^(2m) / (2m)!, and of (-1)^m x^(2m+1) / (2m+1)!
pub even_plain : (n : ℤ) (N : ℕ) → 0 < N → total 10 (λ m. power_term (overᶠ n N) m (2 * m)) ≈ᶠ even_series n (pos N)
unfolding even_series
even_plain n N h = (total_over n N 20 (λ m. 2 * m) h 10 even_fit).same

pub odd_plain : (n : ℤ) (N : ℕ) → 0 < N → total 10 (λ m. power_term (overᶠ n N) m (2 * m + 1)) ≈ᶠ odd_series n (pos N)
unfolding odd_series
odd_plain n N h = (total_over n N 21 (λ m. 2 * m + 1) h 10 odd_fit).same
