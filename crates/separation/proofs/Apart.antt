-- A whole number and a fraction that are at most A apart, by cross products; and that a wider bound holds with a narrower one. Assumes nothing.
use mathlib.Core.List.{[], ◌∷◌}
use lib.IntN.{ℤ, ◌-ℤ◌, ◌*ℤ◌}
use Rattle.integers.specs.Order.{◌≼◌}
use Rattle.integers.specs.Fractions.{Fraction, wholeᶠ, ◌+ᶠ◌, negᶠ, Apart}
use Rattle.integers.proofs.Auto.{polys, cert!, gap, ◌⊞◌, ◌⊛◌}
use Rattle.integers.proofs.Order.{≺-≼}
use Rattle.integers.proofs.Bounds.{Bd}

pub apart_bd : (A x : ℤ) (f : Fraction) → Apart (wholeᶠ A) (wholeᶠ x) f → Bd (A *ℤ f.lower) (f.lower *ℤ x -ℤ f.upper)
unfolding ◌+ᶠ◌ negᶠ
apart_bd A x f h = record {
  low = cert! (A ∷ x ∷ f.lower ∷ f.upper ∷ []) 0 (gap h.least) (search polys depth 60 fits 100000) tt;
  high = cert! (A ∷ x ∷ f.lower ∷ f.upper ∷ []) 0 (gap h.most) (search polys depth 60 fits 100000) tt;
}

pub apart_wider : (a b : ℤ) (f g : Fraction) → a ≼ b → Apart (wholeᶠ a) f g → Apart (wholeᶠ b) f g
unfolding ◌+ᶠ◌ negᶠ
apart_wider a b f g l h = record {
  lower_e = record { lt = tt };
  lower_f = h.lower_f;
  lower_g = h.lower_g;
  most =
      cert! (a ∷ b ∷ f.upper ∷ f.lower ∷ g.upper ∷ g.lower ∷ []) 0 (gap h.most ⊞ gap l ⊛ (≺-≼ h.lower_f ⊛ ≺-≼ h.lower_g))
      (search polys depth 60 fits 100000) tt;
  least =
      cert! (a ∷ b ∷ f.upper ∷ f.lower ∷ g.upper ∷ g.lower ∷ []) 0 (gap h.least ⊞ gap l ⊛ (≺-≼ h.lower_f ⊛ ≺-≼ h.lower_g))
      (search polys depth 60 fits 100000) tt;
}
