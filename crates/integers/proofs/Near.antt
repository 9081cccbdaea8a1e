-- Fractions a/A and b/B that differ by at most f/g, by cross products. Assumes nothing.
use mathlib.Core.Path.{◌≡◌, subst}
use mathlib.Core.List.{[], ◌∷◌}
use lib.IntN.{ℤ, pos, ◌+ℤ◌, ◌-ℤ◌, ◌*ℤ◌, neg_ℤ}
use Rattle.integers.specs.Order.{◌≼◌, ◌≺◌}
use Rattle.integers.proofs.Auto.{cert!, polys, gap, ◌⊞◌, ◌⊛◌}
use Rattle.integers.proofs.Order.{≺-≼, cert*! }

pub record Near (g f a A b B : ℤ) : Type 0 where
  pub hi : g *ℤ (a *ℤ B -ℤ b *ℤ A) ≼ f *ℤ (A *ℤ B)
  pub lo : g *ℤ (b *ℤ A -ℤ a *ℤ B) ≼ f *ℤ (A *ℤ B)

pub near_sym : {g f a A b B : ℤ} → Near g f a A b B → Near g f b B a A
near_sym {g} {f} {a} {A} {b} {B} h = record {
  hi = cert! (g ∷ f ∷ a ∷ A ∷ b ∷ B ∷ []) 0 (gap h.lo) (search polys depth 60 fits 100000) tt;
  lo = cert! (g ∷ f ∷ a ∷ A ∷ b ∷ B ∷ []) 0 (gap h.hi) (search polys depth 60 fits 100000) tt;
}

pub near_neg : {g f a A b B : ℤ} → Near g f a A b B → Near g f (neg_ℤ a) A (neg_ℤ b) B
near_neg {g} {f} {a} {A} {b} {B} h = record {
  hi = cert! (g ∷ f ∷ a ∷ A ∷ b ∷ B ∷ []) 0 (gap h.lo) (search polys depth 60 fits 100000) tt;
  lo = cert! (g ∷ f ∷ a ∷ A ∷ b ∷ B ∷ []) 0 (gap h.hi) (search polys depth 60 fits 100000) tt;
}

-- G2
half_trans : (g e f a A b B c C : ℤ) → pos 0 ≼ A → pos 0 ≺ B → pos 0 ≼ C → g *ℤ (a *ℤ B -ℤ b *ℤ A) ≼ e *ℤ (A *ℤ B) → g *ℤ (b *ℤ C -ℤ c *ℤ B) ≼ f *ℤ (B *ℤ C)
    → g *ℤ (a *ℤ C -ℤ c *ℤ A) ≼ (e +ℤ f) *ℤ (A *ℤ C)
half_trans g e f a A b B c C hA hB hC h k =
    cert*! (g ∷ e ∷ f ∷ a ∷ A ∷ b ∷ B ∷ c ∷ C ∷ []) B hB (hC ⊛ gap h ⊞ hA ⊛ gap k) (search polys depth 60 fits 100000) tt

pub near_trans : {g e f a A b B c C : ℤ} → pos 0 ≺ A → pos 0 ≺ B → pos 0 ≺ C → Near g e a A b B → Near g f b B c C → Near g (e +ℤ f) a A c C
near_trans {g} {e} {f} {a} {A} {b} {B} {c} {C} hA hB hC h k = record {
  hi = half_trans g e f a A b B c C (≺-≼ hA) hB (≺-≼ hC) h.hi k.hi;
  lo = back (half_trans g f e c C b B a A (≺-≼ hC) hB (≺-≼ hA) (near_sym k).hi (near_sym h).hi);
}
  where
    back : g *ℤ (c *ℤ A -ℤ a *ℤ C) ≼ (f +ℤ e) *ℤ (C *ℤ A) → g *ℤ (c *ℤ A -ℤ a *ℤ C) ≼ (e +ℤ f) *ℤ (A *ℤ C)
    back m = cert! (g ∷ e ∷ f ∷ a ∷ A ∷ c ∷ C ∷ []) 0 (gap m) (search polys depth 60 fits 100000) tt

-- the bound p·f / (r·g), written coarser as p'·f / (r'·g)
half_coarse : (p p' r r' g f x y : ℤ) → pos 0 ≺ r → pos 0 ≼ r' → pos 0 ≼ f → pos 0 ≼ y → p *ℤ r' ≼ p' *ℤ r → r *ℤ g *ℤ x ≼ p *ℤ f *ℤ y
    → r' *ℤ g *ℤ x ≼ p' *ℤ f *ℤ y
half_coarse p p' r r' g f x y hr hr' hf hy hp h =
    cert*! (p ∷ p' ∷ r ∷ r' ∷ g ∷ f ∷ x ∷ y ∷ []) r hr (hr' ⊛ gap h ⊞ hf ⊛ hy ⊛ gap hp) (search polys depth 60 fits 100000) tt

times : {A B : ℤ} → pos 0 ≺ A → pos 0 ≺ B → pos 0 ≼ A *ℤ B
times hA hB = ≺-≼ hA ⊛ ≺-≼ hB

pub near_coarse : (p p' r r' g f : ℤ) {a A b B : ℤ} → pos 0 ≺ r → pos 0 ≼ r' → pos 0 ≼ f → pos 0 ≺ A → pos 0 ≺ B → p *ℤ r' ≼ p' *ℤ r
    → Near (r *ℤ g) (p *ℤ f) a A b B → Near (r' *ℤ g) (p' *ℤ f) a A b B
near_coarse p p' r r' g f {a} {A} {b} {B} hr hr' hf hA hB hp h = record {
  hi = half_coarse p p' r r' g f (a *ℤ B -ℤ b *ℤ A) (A *ℤ B) hr hr' hf (times hA hB) hp h.hi;
  lo = half_coarse p p' r r' g f (b *ℤ A -ℤ a *ℤ B) (A *ℤ B) hr hr' hf (times hA hB) hp h.lo;
}

pub near_weaken : {g f a A b B : ℤ} (f' : ℤ) → pos 0 ≺ A → pos 0 ≺ B → f ≼ f' → Near g f a A b B → Near g f' a A b B
near_weaken {g} {f} {a} {A} {b} {B} f' hA hB l h = record {
  hi = cert! (g ∷ f ∷ f' ∷ a ∷ A ∷ b ∷ B ∷ []) 0 (gap h.hi ⊞ gap l ⊛ times hA hB) (search polys depth 60 fits 100000) tt;
  lo = cert! (g ∷ f ∷ f' ∷ a ∷ A ∷ b ∷ B ∷ []) 0 (gap h.lo ⊞ gap l ⊛ times hA hB) (search polys depth 60 fits 100000) tt;
}

pub near_times : {g f a A b B : ℤ} (k : ℤ) → pos 0 ≼ k → Near g f a A b B → Near (k *ℤ g) (k *ℤ f) a A b B
near_times {g} {f} {a} {A} {b} {B} k hk h = record {
  hi = cert! (k ∷ g ∷ f ∷ a ∷ A ∷ b ∷ B ∷ []) 0 (hk ⊛ gap h.hi) (search polys depth 60 fits 100000) tt;
  lo = cert! (k ∷ g ∷ f ∷ a ∷ A ∷ b ∷ B ∷ []) 0 (hk ⊛ gap h.lo) (search polys depth 60 fits 100000) tt;
}

pub near_as : {g f a A b B : ℤ} (g' f' : ℤ) → pos 0 ≺ A → pos 0 ≺ B → g ≡ g' → f ≼ f' → Near g f a A b B → Near g' f' a A b B
near_as {g} {f} {a} {A} {b} {B} g' f' hA hB e l h = near_weaken f' hA hB l (subst (λ t. Near t f a A b B) e h)
