-- RULES, "Working cosine and sums", of the reference cosine: exact fractions, the angle unrounded, the plain power series.
use Rattle.std.specs.Prelude.{ℕ, zero, suc, ◌*◌, ◌+◌, ◌-◌, ◌/◌, ℤ, pos, neg_ℤ, ◌+ℤ◌, ◌-ℤ◌, ◌*ℤ◌}
use Rattle.integers.specs.Order.{◌≼◌, ◌≺◌}
use Rattle.integers.specs.Division.{rounded, modulo}
use Rattle.integers.specs.Fractions.{Fraction, ◌*ᶠ◌, ◌+ᶠ◌, negᶠ, overᶠ, powerᶠ}
use Rattle.units.specs.Units.{U, two_pi, four_radians}
use Rattle.cosine.specs.Cosine.{cosine_by, sine_by}

unfoldable pub power : ℤ → ℕ → ℤ
power x zero = pos 1
power x (suc m) = x *ℤ power x m

unfoldable pub factorial : ℕ → ℕ
factorial zero = 1
factorial (suc m) = suc m * factorial m

-- t 0 + t 1 + .. + t m
unfoldable pub sum : ℕ → (ℕ → ℤ) → ℤ
sum zero t = t 0
sum (suc m) t = sum m t +ℤ t (suc m)

-- (-1)^m x
unfoldable pub alternate : ℕ → ℤ → ℤ
alternate zero x = x
alternate (suc m) x = neg_ℤ (alternate m x)

-- The even series, through degree 20: the sum over m from 0 to 10 of (-1)^m x^(2m) / (2m)!, x = n/N, over the one lower number 20! N^20.
unfoldable pub even_series : ℤ → ℤ → Fraction
even_series n N = record {
  upper = sum 10 (λ m. alternate m (pos (factorial 20 / factorial (2 * m)) *ℤ power n (2 * m) *ℤ power N (20 - 2 * m)));
  lower = pos (factorial 20) *ℤ power N 20;
}

-- The odd series, through degree 21: the sum over m from 0 to 10 of (-1)^m x^(2m+1) / (2m+1)!, over 21! N^21.
unfoldable pub odd_series : ℤ → ℤ → Fraction
odd_series n N = record {
  upper = sum 10 (λ m. alternate m (pos (factorial 21 / factorial (2 * m + 1)) *ℤ power n (2 * m + 1) *ℤ power N (21 - (2 * m + 1))));
  lower = pos (factorial 21) *ℤ power N 21;
}

-- The same two series term by term, over fractions: proofs/Plain.antt proves that they have the same value.
-- t 0 + t 1 + .. + t m
unfoldable pub total : ℕ → (ℕ → Fraction) → Fraction
total zero t = t 0
total (suc m) t = total m t +ᶠ t (suc m)

-- (-1)^m x^i / i!
unfoldable pub power_term : Fraction → ℕ → ℕ → Fraction
power_term x m i = overᶠ (alternate m (pos 1)) (factorial i) *ᶠ powerᶠ x i

-- Of the angle n/N in radians, 2 pi being two_pi/10^30: q is rounded (n/N) / (two_pi/four_radians), and
-- r = n/N - q (two_pi/four_radians) is ref_r over four_radians N.
unfoldable pub ref_q : ℤ → ℕ → ℤ
ref_q n N = rounded (n *ℤ pos four_radians) (two_pi * N)

unfoldable pub ref_r : ℤ → ℕ → ℤ
ref_r n N = n *ℤ pos four_radians -ℤ ref_q n N *ℤ pos (two_pi * N)

unfoldable pub reference_cosine : ℤ → ℕ → Fraction
reference_cosine n N =
    cosine_by negᶠ (modulo (ref_q n N) 4) (even_series (ref_r n N) (pos (four_radians * N))) (odd_series (ref_r n N) (pos (four_radians * N)))

unfoldable pub reference_sine : ℤ → ℕ → Fraction
reference_sine n N =
    sine_by negᶠ (modulo (ref_q n N) 4) (even_series (ref_r n N) (pos (four_radians * N))) (odd_series (ref_r n N) (pos (four_radians * N)))

-- The working x, in U, and the fraction z differ by at most m/U.
pub record Within (m : ℕ) (x : ℤ) (z : Fraction) : Type 0 where
  pub positive : pos 0 ≺ z.lower
  pub most : x *ℤ z.lower -ℤ pos U *ℤ z.upper ≼ pos m *ℤ z.lower
  pub least : neg_ℤ (pos m *ℤ z.lower) ≼ x *ℤ z.lower -ℤ pos U *ℤ z.upper
