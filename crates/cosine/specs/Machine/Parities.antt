-- What the two parities have in common: their divisors can be divided by, and a term's value comes of their part. Held by the code of `parity`; no rule
-- speaks of it.
use Rattle.std.specs.Prelude.{◌≡◌, refl, List, ℕ, zero, suc, ◌<◌, ◌≤◌, get_or, ℤ, pos, neg_ℤ, ◌-ℤ◌, ◌*ℤ◌}
use Rattle.std.proofs.Common.{arith}
use Rattle.integers.specs.Division.{rounded}
use Rattle.units.specs.Units.{U}
use Rattle.cosine.specs.Cosine.{evens, odds, even_part, odd_part}
use Rattle.cosine.specs.Machine.Parity.{divisor_limit, even_value, odd_value}

-- Each of six divisors is within the limits of a step.
abbrev pub AllFit : List ℕ → Type 0
AllFit ds = (k : ℕ) → k < 6 → (0 < get_or ds k 0) × (get_or ds k 0 ≤ divisor_limit)

pub evens_fit : AllFit evens
evens_fit zero h = (omega arith, omega arith)
evens_fit (suc zero) h = (omega arith, omega arith)
evens_fit (suc (suc zero)) h = (omega arith, omega arith)
evens_fit (suc (suc (suc zero))) h = (omega arith, omega arith)
evens_fit (suc (suc (suc (suc zero)))) h = (omega arith, omega arith)
evens_fit (suc (suc (suc (suc (suc zero))))) h = (omega arith, omega arith)
evens_fit (suc (suc (suc (suc (suc (suc k)))))) h = absurd (omega arith)

pub odds_fit : AllFit odds
odds_fit zero h = (omega arith, omega arith)
odds_fit (suc zero) h = (omega arith, omega arith)
odds_fit (suc (suc zero)) h = (omega arith, omega arith)
odds_fit (suc (suc (suc zero))) h = (omega arith, omega arith)
odds_fit (suc (suc (suc (suc zero)))) h = (omega arith, omega arith)
odds_fit (suc (suc (suc (suc (suc zero))))) h = (omega arith, omega arith)
odds_fit (suc (suc (suc (suc (suc (suc k)))))) h = absurd (omega arith)

-- A term's value is its amplitude times the part, rounded.
abbrev pub ValueOf : (ℤ → ℤ) → (ℤ → ℕ → ℤ) → Type 0
ValueOf part value = (a : ℤ) (v : ℕ) → value a v ≡ rounded (a *ℤ part (pos v -ℤ pos U)) U

pub even_value_is : ValueOf even_part even_value
unfolding even_value
even_value_is a v = refl

pub odd_value_is : ValueOf (λ w. neg_ℤ (odd_part w)) odd_value
unfolding odd_value
odd_value_is a v = refl
