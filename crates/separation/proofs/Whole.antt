-- The five exact figures of a body, each a fraction with a lower number of its own, as whole numbers over one lower number Q. Assumes nothing.
use mathlib.Core.Path.{◌≡◌, sym, ap, ◌∙◌, subst}
use mathlib.Core.List.{[], ◌∷◌}
use lib.IntN.{ℤ, pos, ◌-ℤ◌, ◌*ℤ◌}
use Rattle.integers.specs.Order.{◌≺◌}
use Rattle.integers.specs.Fractions.{Fraction, ◌*ᶠ◌}
use Rattle.integers.proofs.Auto.{polys, ring! }
use Rattle.integers.proofs.Order.{≺-≼, product_pos}
use Rattle.integers.proofs.Bounds.{Bd, bd-*, bd_self, bd_as}
use Rattle.integers.proofs.Fractions.{Over, over-*, over-+, over_neg, over_scl, over_as}
use Rattle.units.specs.Units.{U}
use Rattle.rectangular.specs.declared.Vector.{Vector}
use Rattle.rectangular.specs.Vectors.{geocentric, sun}
use Rattle.separation.specs.Exact.{ExactCoordinates, cosᶠ, sinᶠ, exact_place, exact_sun, exact_geocentric}
use Rattle.separation.specs.Machine.Near.{tolerance}
use Rattle.separation.proofs.Form.{scl}
use Rattle.separation.proofs.WholeTest.{Over³}
use Rattle.separation.proofs.Places.{Figures, CosinePair, Faithful, toward, whole_place}

-- ---- One fraction: Q is m times its lower number.

pub record Held (Q : ℤ) (f : Fraction) : Type 0 where
  pub m : ℤ
  pub m_pos : pos 0 ≺ m
  pub low_pos : pos 0 ≺ f.lower
  pub is : f.lower *ℤ m ≡ Q

held_self : (f : Fraction) → pos 0 ≺ f.lower → Held f.lower f
held_self f h = record { m = pos 1; m_pos = record { lt = tt }; low_pos = h; is = ring! (f.lower ∷ []) (search polys depth 60 fits 100000) tt }

held_left : (Q t : ℤ) (f : Fraction) → pos 0 ≺ t → Held Q f → Held (Q *ℤ t) f
held_left Q t f ht h = record {
  m = h.m *ℤ t;
  m_pos = product_pos h.m t h.m_pos ht;
  low_pos = h.low_pos;
  is = ring! (f.lower ∷ h.m ∷ t ∷ []) {y = f.lower *ℤ h.m *ℤ t} (search polys depth 60 fits 100000) tt ∙ ap (λ (q : ℤ). q *ℤ t) h.is;
}

held_right : (Q t : ℤ) (f : Fraction) → pos 0 ≺ t → Held Q f → Held (t *ℤ Q) f
held_right Q t f ht h = record {
  m = t *ℤ h.m;
  m_pos = product_pos t h.m ht h.m_pos;
  low_pos = h.low_pos;
  is = ring! (f.lower ∷ h.m ∷ t ∷ []) {y = t *ℤ (f.lower *ℤ h.m)} (search polys depth 60 fits 100000) tt ∙ ap (λ (q : ℤ). t *ℤ q) h.is;
}

over_held : (Q : ℤ) (f : Fraction) (h : Held Q f) → Over Q f (f.upper *ℤ h.m)
over_held Q f h = record {
  low_pos = h.low_pos;
  same = ap (λ (q : ℤ). f.upper *ℤ q) (sym h.is) ∙ ring! (f.upper ∷ f.lower ∷ h.m ∷ []) (search polys depth 60 fits 100000) tt;
}

-- The fraction and x/U differ by at most A/U: the same over Q.
bd_held : (Q A x : ℤ) (f : Fraction) (h : Held Q f) → Bd (A *ℤ f.lower) (x *ℤ f.lower -ℤ pos U *ℤ f.upper)
    → Bd (A *ℤ Q) (x *ℤ Q -ℤ pos U *ℤ (f.upper *ℤ h.m))
bd_held Q A x f h b =
    subst (λ (q : ℤ). Bd (A *ℤ q) (x *ℤ q -ℤ pos U *ℤ (f.upper *ℤ h.m))) h.is
    (bd_as _ _ _ _ (ring! (A ∷ f.lower ∷ h.m ∷ []) (search polys depth 60 fits 100000) tt)
    (ring! (x ∷ f.lower ∷ f.upper ∷ h.m ∷ []) (search polys depth 60 fits 100000) tt)
    (bd-* (A *ℤ f.lower) h.m (x *ℤ f.lower -ℤ pos U *ℤ f.upper) h.m b (bd_self h.m (≺-≼ h.m_pos))))

-- ---- The five figures of which an exact place is made.

pub record ExactFigures : Type 0 where
  pub R : Fraction
  pub cosB : Fraction
  pub sinB : Fraction
  pub cosL : Fraction
  pub sinL : Fraction

unfoldable pub exact_figures : ExactCoordinates → ExactFigures
exact_figures c = record { R = c.radius; cosB = cosᶠ c.latitude; sinB = sinᶠ c.latitude; cosL = cosᶠ c.longitude; sinL = sinᶠ c.longitude }

pub record HeldFigures (Q : ℤ) (e : ExactFigures) : Type 0 where
  pub R : Held Q e.R
  pub cosB : Held Q e.cosB
  pub sinB : Held Q e.sinB
  pub cosL : Held Q e.cosL
  pub sinL : Held Q e.sinL

pub held_left_all : (Q t : ℤ) (e : ExactFigures) → pos 0 ≺ t → HeldFigures Q e → HeldFigures (Q *ℤ t) e
held_left_all Q t e ht h = record {
  R = held_left Q t e.R ht h.R;
  cosB = held_left Q t e.cosB ht h.cosB;
  sinB = held_left Q t e.sinB ht h.sinB;
  cosL = held_left Q t e.cosL ht h.cosL;
  sinL = held_left Q t e.sinL ht h.sinL;
}

pub held_right_all : (Q t : ℤ) (e : ExactFigures) → pos 0 ≺ t → HeldFigures Q e → HeldFigures (t *ℤ Q) e
held_right_all Q t e ht h = record {
  R = held_right Q t e.R ht h.R;
  cosB = held_right Q t e.cosB ht h.cosB;
  sinB = held_right Q t e.sinB ht h.sinB;
  cosL = held_right Q t e.cosL ht h.cosL;
  sinL = held_right Q t e.sinL ht h.sinL;
}

-- The working figure x, in U, is within 2.46·10⁻⁶ of f, which is in [−1, 1].
pub record Near (x : ℤ) (f : Fraction) : Type 0 where
  pub low_pos : pos 0 ≺ f.lower
  pub working : Bd (pos U) x
  pub size : Bd f.lower f.upper
  pub near : Bd (pos 2460 *ℤ f.lower) (x *ℤ f.lower -ℤ pos U *ℤ f.upper)

-- The working figures of a body are near the exact ones: R within 2·10⁵ parts.
pub record NearFigures (w : Figures) (e : ExactFigures) : Type 0 where
  pub R_pos : pos 0 ≺ e.R.lower
  pub R : Bd (pos tolerance *ℤ e.R.lower) (e.R.lower *ℤ w.R -ℤ e.R.upper)
  pub cosB : Near w.cosB e.cosB
  pub sinB : Near w.sinB e.sinB
  pub cosL : Near w.cosL e.cosL
  pub sinL : Near w.sinL e.sinL

-- The product of the five lower numbers holds them all.
abbrev pub product : ExactFigures → ℤ
product e = e.R.lower *ℤ (e.cosB.lower *ℤ (e.sinB.lower *ℤ (e.cosL.lower *ℤ e.sinL.lower)))

pub product_positive : (w : Figures) (e : ExactFigures) → NearFigures w e → pos 0 ≺ product e
product_positive w e h =
    product_pos _ _ h.R_pos (product_pos _ _ h.cosB.low_pos (product_pos _ _ h.sinB.low_pos (product_pos _ _ h.cosL.low_pos h.sinL.low_pos)))

pub held : (w : Figures) (e : ExactFigures) → NearFigures w e → HeldFigures (product e) e
held w e h =
    let R₀ = h.R_pos in
    let b₀ = h.cosB.low_pos in
    let c₀ = h.sinB.low_pos in
    let d₀ = h.cosL.low_pos in
    let e₀ = h.sinL.low_pos in
    let de = product_pos _ _ d₀ e₀ in
    let cde = product_pos _ _ c₀ de in
    let bcde = product_pos _ _ b₀ cde in
    record {
      R = held_left _ _ e.R bcde (held_self e.R R₀);
      cosB = held_right _ _ e.cosB R₀ (held_left _ _ e.cosB cde (held_self e.cosB b₀));
      sinB = held_right _ _ e.sinB R₀ (held_right _ _ e.sinB b₀ (held_left _ _ e.sinB de (held_self e.sinB c₀)));
      cosL = held_right _ _ e.cosL R₀ (held_right _ _ e.cosL b₀ (held_right _ _ e.cosL c₀ (held_left _ _ e.cosL e₀ (held_self e.cosL d₀))));
      sinL = held_right _ _ e.sinL R₀ (held_right _ _ e.sinL b₀ (held_right _ _ e.sinL c₀ (held_right _ _ e.sinL d₀ (held_self e.sinL e₀))));
    }

-- ---- The same over Q.

unfoldable pub whole : (Q : ℤ) (e : ExactFigures) → HeldFigures Q e → Figures
whole Q e h = record {
  R = e.R.upper *ℤ h.R.m;
  cosB = e.cosB.upper *ℤ h.cosB.m;
  sinB = e.sinB.upper *ℤ h.sinB.m;
  cosL = e.cosL.upper *ℤ h.cosL.m;
  sinL = e.sinL.upper *ℤ h.sinL.m;
}

pair_of : (Q x : ℤ) (f : Fraction) (h : Held Q f) → Near x f → CosinePair Q x (f.upper *ℤ h.m)
pair_of Q x f h n = record {
  working = n.working;
  exact = subst (λ (q : ℤ). Bd q (f.upper *ℤ h.m)) h.is (bd-* f.lower h.m f.upper h.m n.size (bd_self h.m (≺-≼ h.m_pos)));
  near = bd_held Q (pos 2460) x f h n.near;
}

radius_of : (Q r : ℤ) (f : Fraction) (h : Held Q f) → Bd (pos tolerance *ℤ f.lower) (f.lower *ℤ r -ℤ f.upper)
    → Bd (pos tolerance *ℤ Q) (Q *ℤ r -ℤ f.upper *ℤ h.m)
radius_of Q r f h b =
    subst (λ (q : ℤ). Bd (pos tolerance *ℤ q) (q *ℤ r -ℤ f.upper *ℤ h.m)) h.is
    (bd_as _ _ _ _ (ring! (f.lower ∷ h.m ∷ []) (search polys depth 60 fits 100000) tt)
    (ring! (r ∷ f.lower ∷ f.upper ∷ h.m ∷ []) (search polys depth 60 fits 100000) tt)
    (bd-* (pos tolerance *ℤ f.lower) h.m (f.lower *ℤ r -ℤ f.upper) h.m b (bd_self h.m (≺-≼ h.m_pos))))

pub faithful : (Q : ℤ) (w : Figures) (e : ExactFigures) (h : HeldFigures Q e) → NearFigures w e → Faithful Q w (whole Q e h)
unfolding whole
faithful Q w e h n = record {
  radius = radius_of Q w.R e.R h.R n.R;
  cosB = pair_of Q w.cosB e.cosB h.cosB n.cosB;
  sinB = pair_of Q w.sinB e.sinB h.sinB n.sinB;
  cosL = pair_of Q w.cosL e.cosL h.cosL n.cosL;
  sinL = pair_of Q w.sinL e.sinL h.sinL n.sinL;
}

-- R cos B cos L over Q³.
three : (Q r b l : ℤ) (R B L : Fraction) → Over Q R r → Over Q B b → Over Q L l → Over (Q *ℤ (Q *ℤ Q)) (R *ᶠ B *ᶠ L) (r *ℤ (b *ℤ l))
three Q r b l R B L hR hB hL =
    over_as (Q *ℤ Q *ℤ Q) (Q *ℤ (Q *ℤ Q)) (r *ℤ b *ℤ l) (r *ℤ (b *ℤ l)) (R *ᶠ B *ᶠ L) (ring! (Q ∷ []) (search polys depth 60 fits 100000) tt)
    (ring! (r ∷ b ∷ l ∷ []) (search polys depth 60 fits 100000) tt)
    (over-* (Q *ℤ Q) Q (r *ℤ b) l (R *ᶠ B) L (over-* Q Q r b R B hR hB) hL)

pub place_over : (Q : ℤ) (c : ExactCoordinates) (h : HeldFigures Q (exact_figures c))
    → Over³ (Q *ℤ (Q *ℤ Q)) (exact_place c) (whole_place Q (whole Q (exact_figures c) h))
unfolding exact_place exact_figures whole_place toward scl whole
place_over Q c h =
    let R = over_held Q c.radius h.R in
    let cB = over_held Q (cosᶠ c.latitude) h.cosB in
    let sB = over_held Q (sinᶠ c.latitude) h.sinB in
    let cL = over_held Q (cosᶠ c.longitude) h.cosL in
    let sL = over_held Q (sinᶠ c.longitude) h.sinL in
    record {
      x = three Q _ _ _ _ _ _ R cB cL;
      y = three Q _ _ _ _ _ _ R cB sL;
      z = over-* Q (Q *ℤ Q) _ _ _ _ R (over_scl Q Q _ _ sB);
    }

pub sun_over : (W : ℤ) (e : ExactCoordinates) (E : Vector) → Over³ W (exact_place e) E → Over³ W (exact_sun e) (sun E)
unfolding exact_sun sun
sun_over W e E h = record { x = over_neg _ _ _ h.x; y = over_neg _ _ _ h.y; z = over_neg _ _ _ h.z }

pub geocentric_over : (W : ℤ) (p e : ExactCoordinates) (P E : Vector) → Over³ W (exact_place p) P → Over³ W (exact_place e) E
    → Over³ W (exact_geocentric p e) (geocentric P E)
unfolding exact_geocentric geocentric
geocentric_over W p e P E h k = record {
  x = over-+ _ _ _ _ _ h.x (over_neg _ _ _ k.x);
  y = over-+ _ _ _ _ _ h.y (over_neg _ _ _ k.y);
  z = over-+ _ _ _ _ _ h.z (over_neg _ _ _ k.z);
}
