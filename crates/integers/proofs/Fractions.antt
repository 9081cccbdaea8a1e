-- Fractions with lower numbers of their own, brought to one lower number W: `Over W f n` says that f is n/W. Assumes nothing.
use mathlib.Core.Path.{◌≡◌, sym, ap, ap₂, ◌∙◌, subst, subst₂}
use mathlib.Core.List.{[], ◌∷◌}
use lib.IntN.{ℤ, pos, neg_ℤ, ◌+ℤ◌, ◌*ℤ◌}
use Rattle.integers.specs.Order.{◌≼◌, ◌≺◌}
use Rattle.integers.specs.Fractions.{Fraction, ◌*ᶠ◌, ◌+ᶠ◌, negᶠ, ◌≤ᶠ◌}
use Rattle.integers.proofs.Auto.{polys, ring!, gap, gap≡, ◌⊞◌, ◌⊛◌}
use Rattle.integers.proofs.Order.{≺-≼, cert*!, product_pos, factor_pos}

-- f is n/W

pub record Over (W : ℤ) (f : Fraction) (n : ℤ) : Type 0 where
  pub low_pos : pos 0 ≺ f.lower
  pub same : f.upper *ℤ W ≡ n *ℤ f.lower

pub over-* : (W Y n m : ℤ) (f g : Fraction) → Over W f n → Over Y g m → Over (W *ℤ Y) (f *ᶠ g) (n *ℤ m)
unfolding ◌*ᶠ◌
over-* W Y n m f g h k = record {
  low_pos = product_pos f.lower g.lower h.low_pos k.low_pos;
  same =
      ring! (W ∷ Y ∷ f.upper ∷ g.upper ∷ []) {y = (f.upper *ℤ W) *ℤ (g.upper *ℤ Y)} (search polys depth 60 fits 100000) tt
      ∙ ap₂ ◌*ℤ◌ h.same k.same
      ∙ ring! (n ∷ m ∷ f.lower ∷ g.lower ∷ []) (search polys depth 60 fits 100000) tt;
}

pub over-+ : (W n m : ℤ) (f g : Fraction) → Over W f n → Over W g m → Over W (f +ᶠ g) (n +ℤ m)
unfolding ◌+ᶠ◌
over-+ W n m f g h k = record {
  low_pos = product_pos f.lower g.lower h.low_pos k.low_pos;
  same =
      ring! (W ∷ f.upper ∷ f.lower ∷ g.upper ∷ g.lower ∷ []) {y = (f.upper *ℤ W) *ℤ g.lower +ℤ (g.upper *ℤ W) *ℤ f.lower}
      (search polys depth 60 fits 100000) tt
      ∙ ap₂ (λ (s t : ℤ). s *ℤ g.lower +ℤ t *ℤ f.lower) h.same k.same
      ∙ ring! (n ∷ m ∷ f.lower ∷ g.lower ∷ []) (search polys depth 60 fits 100000) tt;
}

pub over_neg : (W n : ℤ) (f : Fraction) → Over W f n → Over W (negᶠ f) (neg_ℤ n)
unfolding negᶠ
over_neg W n f h = record {
  low_pos = h.low_pos;
  same =
      ring! (W ∷ f.upper ∷ []) {y = neg_ℤ (f.upper *ℤ W)} (search polys depth 60 fits 100000) tt
      ∙ ap neg_ℤ h.same
      ∙ ring! (n ∷ f.lower ∷ []) (search polys depth 60 fits 100000) tt;
}

-- a factor m of both
pub over_scl : (m W n : ℤ) (f : Fraction) → Over W f n → Over (m *ℤ W) f (m *ℤ n)
over_scl m W n f h = record {
  low_pos = h.low_pos;
  same =
      ring! (m ∷ W ∷ f.upper ∷ []) {y = m *ℤ (f.upper *ℤ W)} (search polys depth 60 fits 100000) tt
      ∙ ap (λ (t : ℤ). m *ℤ t) h.same
      ∙ ring! (m ∷ n ∷ f.lower ∷ []) (search polys depth 60 fits 100000) tt;
}

pub over_as : (W Y n m : ℤ) (f : Fraction) → W ≡ Y → n ≡ m → Over W f n → Over Y f m
over_as W Y n m f p q h = subst₂ (λ (s t : ℤ). Over s f t) p q h

-- signs and comparisons go over
pub up_pos : (W n : ℤ) (f : Fraction) → pos 0 ≺ W → Over W f n → pos 0 ≺ n → pos 0 ≺ f.upper
up_pos W n f hW h k =
    factor_pos W f.upper (≺-≼ hW)
    (subst (λ (t : ℤ). pos 0 ≺ t) (sym h.same ∙ ring! (W ∷ f.upper ∷ []) (search polys depth 60 fits 100000) tt)
    (product_pos n f.lower k h.low_pos))

pub n_pos : (W n : ℤ) (f : Fraction) → pos 0 ≺ W → Over W f n → pos 0 ≺ f.upper → pos 0 ≺ n
n_pos W n f hW h k =
    factor_pos f.lower n (≺-≼ h.low_pos)
    (subst (λ (t : ℤ). pos 0 ≺ t) (h.same ∙ ring! (n ∷ f.lower ∷ []) (search polys depth 60 fits 100000) tt) (product_pos f.upper W k hW))

-- both orders are that of n and m
pub le_over : (W n m : ℤ) (f g : Fraction) → pos 0 ≺ W → Over W f n → Over W g m → n ≼ m → f ≤ᶠ g
le_over W n m f g hW h k l =
    cert*! (W ∷ n ∷ m ∷ f.upper ∷ f.lower ∷ g.upper ∷ g.lower ∷ []) W hW
    (gap l ⊛ (≺-≼ h.low_pos ⊛ ≺-≼ k.low_pos) ⊞ ≺-≼ k.low_pos ⊛ gap≡ h.same ⊞ ≺-≼ h.low_pos ⊛ gap≡ (sym k.same))
    (search polys depth 60 fits 100000) tt

pub over_le : (W n m : ℤ) (f g : Fraction) → pos 0 ≺ W → Over W f n → Over W g m → f ≤ᶠ g → n ≼ m
over_le W n m f g hW h k l =
    cert*! (W ∷ n ∷ m ∷ f.upper ∷ f.lower ∷ g.upper ∷ g.lower ∷ []) (f.lower *ℤ g.lower) (product_pos f.lower g.lower h.low_pos k.low_pos)
    (≺-≼ hW ⊛ gap l ⊞ ≺-≼ k.low_pos ⊛ gap≡ (sym h.same) ⊞ ≺-≼ h.low_pos ⊛ gap≡ k.same) (search polys depth 60 fits 100000) tt
