-- Exact fractions, two whole numbers each, the lower one positive, compared by cross products; never reduced. RULES, "Working cosine and sums".
use Rattle.std.specs.Prelude.{◌≡◌, ℕ, zero, suc, ℤ, pos, neg_ℤ, ◌+ℤ◌, ◌*ℤ◌}
use Rattle.integers.specs.Order.{◌≼◌, ◌≺◌}

pub record Fraction : Type 0 where
  pub upper : ℤ
  pub lower : ℤ

infixl 7 ◌*ᶠ◌
infixl 6 ◌+ᶠ◌ ◌-ᶠ◌
infix 4 ◌≤ᶠ◌ ◌≈ᶠ◌
unfoldable pub ◌*ᶠ◌ : Fraction → Fraction → Fraction
f *ᶠ g = record { upper = f.upper *ℤ g.upper; lower = f.lower *ℤ g.lower }

unfoldable pub ◌+ᶠ◌ : Fraction → Fraction → Fraction
f +ᶠ g = record { upper = f.upper *ℤ g.lower +ℤ g.upper *ℤ f.lower; lower = f.lower *ℤ g.lower }

unfoldable pub negᶠ : Fraction → Fraction
negᶠ f = record { upper = neg_ℤ f.upper; lower = f.lower }

abbrev pub ◌-ᶠ◌ : Fraction → Fraction → Fraction
f -ᶠ g = f +ᶠ negᶠ g

-- A whole number, and n/d.
abbrev pub wholeᶠ : ℤ → Fraction
wholeᶠ n = record { upper = n; lower = pos 1 }

abbrev pub overᶠ : ℤ → ℕ → Fraction
overᶠ n d = record { upper = n; lower = pos d }

-- f to the power i.
unfoldable pub powerᶠ : Fraction → ℕ → Fraction
powerᶠ f zero = wholeᶠ (pos 1)
powerᶠ f (suc i) = f *ᶠ powerᶠ f i

-- The same value, and the order; both mean what they should only where the lower numbers are positive.
abbrev pub ◌≈ᶠ◌ : Fraction → Fraction → Type 0
f ≈ᶠ g = f.upper *ℤ g.lower ≡ g.upper *ℤ f.lower

abbrev pub ◌≤ᶠ◌ : Fraction → Fraction → Type 0
f ≤ᶠ g = f.upper *ℤ g.lower ≼ g.upper *ℤ f.lower

-- |f - g| is at most e, and all three lower numbers are positive.
pub record Apart (e f g : Fraction) : Type 0 where
  pub lower_e : pos 0 ≺ e.lower
  pub lower_f : pos 0 ≺ f.lower
  pub lower_g : pos 0 ≺ g.lower
  pub most : f -ᶠ g ≤ᶠ e
  pub least : g -ᶠ f ≤ᶠ e
