-- The working unit vectors of the Sun and of the planet are close enough to the exact directions. Assumes nothing.
use mathlib.Core.Path.{refl, subst}
use mathlib.Core.List.{[], ◌∷◌}
use Prim.Native.Nat.{ℕ, ◌≤◌, ◌<◌}
use native.Mathlib.Omega.{arith}
use lib.Dec.{leb→le}
use lib.IntN.{ℤ, pos, neg_ℤ, ◌+ℤ◌, ◌-ℤ◌, ◌*ℤ◌}
use Rattle.integers.specs.Order.{◌≼◌, ◌≺◌}
use Rattle.integers.proofs.Pairs.{nonneg, ≤ℤ-trans}
use Rattle.integers.proofs.Auto.{polys, ring!, cert!, cert<!, gap, gap<, ◌⊞◌, ◌⊛◌, ◌·◌}
use Rattle.integers.proofs.Order.{≺-≼, product_pos, ≺-nat}
use Rattle.integers.proofs.Bounds.{Bd, bd-*, bd-+, bd_neg, bd_self, bd_as}
use Rattle.units.specs.Units.{U}
use Rattle.rectangular.specs.declared.Vector.{Vector}
use Rattle.rectangular.specs.Vectors.{geocentric, sun, length, unit}
use Rattle.rectangular.specs.Sight.{least_radius, least_distance, distance_factor}
use Rattle.separation.specs.Machine.Near.{tolerance}
use Rattle.separation.proofs.Form.{scl, sub, Bd³}
use Rattle.separation.proofs.Lengths.{Unit³}
use Rattle.separation.proofs.BothWays.{Close}
use Rattle.separation.proofs.Units.{unit_over, unit_near, unit_is, within_length}
use Rattle.separation.proofs.Places.{Figures, Faithful, OneFar, placed, toward, whole_place, place_near, long, times}

-- ---- One component, over plain numbers.

-- The Sun: u is rounded over l, n is the exact direction, q = Q², p the exact R.
sun_part : (l q R p T u a n : ℤ) → pos 0 ≼ q → pos 0 ≼ p → Bd l (pos 2 *ℤ (l *ℤ u -ℤ pos U *ℤ (neg_ℤ a))) → Bd T (pos U *ℤ (q *ℤ a -ℤ R *ℤ n))
    → Bd (p *ℤ (q *ℤ l +ℤ pos 2 *ℤ T)) (pos 2 *ℤ pos U *ℤ R *ℤ (neg_ℤ (p *ℤ n)) -ℤ pos 2 *ℤ (l *ℤ q) *ℤ p *ℤ u)
sun_part l q R p T u a n hq hp hu ha =
    let r = pos 2 *ℤ (l *ℤ u -ℤ pos U *ℤ (neg_ℤ a)) in
    let t = pos U *ℤ (q *ℤ a -ℤ R *ℤ n) in
    bd_as _ _ _ _ refl (ring! (l ∷ q ∷ R ∷ p ∷ u ∷ a ∷ n ∷ []) (search polys depth 60 fits 100000) tt)
    (times p (q *ℤ l +ℤ pos 2 *ℤ T) (q *ℤ neg_ℤ r +ℤ pos 2 *ℤ t) hp
    (bd-+ (q *ℤ l) (pos 2 *ℤ T) (q *ℤ neg_ℤ r) (pos 2 *ℤ t) (times q l (neg_ℤ r) hq (bd_neg l r hu)) (times (pos 2) T t (nonneg 2) ha)))

-- A place, with R's own error; Q·q is Q³.
full_part : (Q q R p T a n : ℤ) → pos 0 ≼ Q → Bd q n → Bd (pos tolerance *ℤ Q) (Q *ℤ R -ℤ p) → Bd T (pos U *ℤ (q *ℤ a -ℤ R *ℤ n))
    → Bd (Q *ℤ T +ℤ pos U *ℤ (pos tolerance *ℤ Q *ℤ q)) (pos U *ℤ (Q *ℤ q *ℤ a -ℤ p *ℤ n))
full_part Q q R p T a n hQ hn hR ha =
    let t = pos U *ℤ (q *ℤ a -ℤ R *ℤ n) in
    bd_as _ _ _ _ refl (ring! (Q ∷ q ∷ R ∷ p ∷ a ∷ n ∷ []) (search polys depth 60 fits 100000) tt)
    (bd-+ (Q *ℤ T) (pos U *ℤ (pos tolerance *ℤ Q *ℤ q)) (Q *ℤ t) (pos U *ℤ ((Q *ℤ R -ℤ p) *ℤ n))
    (times Q T t hQ ha) (times (pos U) (pos tolerance *ℤ Q *ℤ q) ((Q *ℤ R -ℤ p) *ℤ n) (nonneg U) (bd-* (pos tolerance *ℤ Q) q (Q *ℤ R -ℤ p) n hR hn)))

-- The planet: c is Q³, E and F are the bounds of the two places.
planet_part : (D c E F v a b m n : ℤ) → pos 0 ≼ c → Bd D (pos 2 *ℤ (D *ℤ v -ℤ pos U *ℤ (a -ℤ b))) → Bd E (pos U *ℤ (c *ℤ a -ℤ m))
    → Bd F (pos U *ℤ (c *ℤ b -ℤ n))
    → Bd (c *ℤ D +ℤ (pos 2 *ℤ E +ℤ pos 2 *ℤ F)) (pos 2 *ℤ pos U *ℤ (m -ℤ n) -ℤ pos 2 *ℤ (D *ℤ c) *ℤ v)
planet_part D c E F v a b m n hc hv ha hb =
    let r = pos 2 *ℤ (D *ℤ v -ℤ pos U *ℤ (a -ℤ b)) in
    let s = pos U *ℤ (c *ℤ a -ℤ m) in
    let t = pos U *ℤ (c *ℤ b -ℤ n) in
    bd_as _ _ _ _ refl (ring! (D ∷ c ∷ v ∷ a ∷ b ∷ m ∷ n ∷ []) (search polys depth 60 fits 100000) tt)
    (bd-+ (c *ℤ D) (pos 2 *ℤ E +ℤ pos 2 *ℤ F) (c *ℤ neg_ℤ r) (pos 2 *ℤ neg_ℤ s +ℤ pos 2 *ℤ t) (times c D (neg_ℤ r) hc (bd_neg D r hv))
    (bd-+ (pos 2 *ℤ E) (pos 2 *ℤ F) (pos 2 *ℤ neg_ℤ s) (pos 2 *ℤ t) (times (pos 2) E (neg_ℤ s) (nonneg 2) (bd_neg E s ha)) (times (pos 2) F t (nonneg 2) hb)))

-- The Sun is within 10,469/U of its direction, the planet within 118,721/U.
sun_small : (l q R p : ℤ) → pos 0 ≼ q → pos 0 ≼ p → pos 47 *ℤ R ≼ pos 100 *ℤ l → pos 4700000000 ≼ l
    → p *ℤ (q *ℤ l +ℤ pos 2 *ℤ (q *ℤ (pos U +ℤ pos 4920 *ℤ R))) ≼ pos 10469 *ℤ (pos 2 *ℤ (l *ℤ q) *ℤ p)
sun_small l q R p hq hp hR hl =
    cert! (l ∷ q ∷ R ∷ p ∷ []) 46 ((hp ⊛ hq) ⊛ (9840 · gap hR ⊞ 39 · gap hl ⊞ nonneg 89300000000)) (search polys depth 60 fits 100000) tt

planet_small : (D Q q R S : ℤ) → pos 0 ≼ Q → pos 0 ≼ q → R +ℤ S ≼ pos distance_factor *ℤ D → pos least_distance ≼ D
    → Q *ℤ q *ℤ D +ℤ (pos 2 *ℤ (Q *ℤ (q *ℤ (pos U +ℤ pos 4920 *ℤ R)) +ℤ pos U *ℤ (pos tolerance *ℤ Q *ℤ q)) +ℤ pos 2
    *ℤ (Q *ℤ (q *ℤ (pos U +ℤ pos 4920 *ℤ S)) +ℤ pos U *ℤ (pos tolerance *ℤ Q *ℤ q)))
    ≼ pos 118721 *ℤ (pos 2 *ℤ (D *ℤ (Q *ℤ q)))
planet_small D Q q R S hQ hq hR hD =
    cert! (D ∷ Q ∷ q ∷ R ∷ S ∷ []) 0 ((hQ ⊛ hq) ⊛ (9840 · gap hR ⊞ 80001 · gap hD ⊞ nonneg 6000000000)) (search polys depth 60 fits 100000) tt

-- Two lower numbers, Y and W, become one.
wide_part : (m t a Y c u : ℤ) → pos 0 ≼ m → Bd t (a *ℤ c -ℤ Y *ℤ u) → Bd (m *ℤ t) (m *ℤ a *ℤ c -ℤ m *ℤ Y *ℤ u)
wide_part m t a Y c u hm h = bd_as _ _ _ _ refl (ring! (m ∷ a ∷ Y ∷ c ∷ u ∷ []) (search polys depth 60 fits 100000) tt) (times m t (a *ℤ c -ℤ Y *ℤ u) hm h)

wide : (m t a Y : ℤ) (s u : Vector) → pos 0 ≼ m → Bd³ t (sub (scl a s) (scl Y u)) → Bd³ (m *ℤ t) (sub (scl (m *ℤ a) s) (scl (m *ℤ Y) u))
unfolding geocentric scl
wide m t a Y s u hm w =
    record { x = wide_part m t a Y s.x u.x hm w.x; y = wide_part m t a Y s.y u.y hm w.y; z = wide_part m t a Y s.z u.z hm w.z }

over_one : (u v s g : Vector) (a b Y W η ζ : ℤ) → pos 0 ≺ a → pos 0 ≺ b → pos 0 ≺ Y → pos 0 ≺ W → Bd³ η (sub (scl a s) (scl Y u))
    → Bd³ ζ (sub (scl b g) (scl W v))
    → η ≼ pos 10469 *ℤ Y → ζ ≼ pos 118721 *ℤ W → Close u v s g
over_one u v s g a b Y W η ζ ha hb hY hW ws wg hη hζ = record {
  a = W *ℤ a;
  b = Y *ℤ b;
  W = W *ℤ Y;
  η = W *ℤ η;
  ζ = Y *ℤ ζ;
  a_pos = product_pos W a hW ha;
  b_pos = product_pos Y b hY hb;
  W_pos = product_pos W Y hW hY;
  near_u = wide W η a Y s u (≺-≼ hW) ws;
  near_v =
      subst (λ (m : ℤ). Bd³ (Y *ℤ ζ) (sub (scl (Y *ℤ b) g) (scl m v))) (ring! (W ∷ Y ∷ []) (search polys depth 60 fits 100000) tt)
      (wide Y ζ b W g v (≺-≼ hY) wg);
  small = cert! (Y ∷ W ∷ η ∷ ζ ∷ []) 0 (≺-≼ hW ⊛ gap hη ⊞ ≺-≼ hY ⊛ gap hζ ⊞ 810 · (≺-≼ hW ⊛ ≺-≼ hY)) (search polys depth 60 fits 100000) tt;
}

-- ---- The two directions.

-- What of a usable place is needed.
pub record Usable (planet earth : Figures) (D : ℕ) : Type 0 where
  pub planet_far : pos least_radius ≼ planet.R
  pub earth_far : pos least_radius ≼ earth.R
  pub apart : pos least_distance ≼ pos D
  pub ratio : planet.R +ℤ earth.R ≼ pos distance_factor *ℤ pos D

sun_within : (l : ℤ) (a : Vector) → Bd³ l (sun a) → Bd³ l a
unfolding sun scl
sun_within l a w = record { x = turn a.x w.x; y = turn a.y w.y; z = turn a.z w.z }
  where
    turn : (p : ℤ) → Bd l (neg_ℤ p) → Bd l p
    turn p h = bd_as l l (neg_ℤ (neg_ℤ p)) p refl (ring! (p ∷ []) (search polys depth 60 fits 100000) tt) (bd_neg l (neg_ℤ p) h)

toward_within : (Q : ℤ) (w e : Figures) → pos 0 ≼ Q → Faithful Q w e → Bd³ (Q *ℤ Q) (toward Q e)
unfolding toward
toward_within Q w e hQ h =
    record {
      x = bd-* Q Q _ _ h.cosB.exact h.cosL.exact;
      y = bd-* Q Q _ _ h.cosB.exact h.sinL.exact;
      z = bd-* Q Q _ _ (bd_self Q hQ) h.sinB.exact;
    }

module _ (Q : ℤ) (hQ : pos 0 ≺ Q) where
  Q₀ : pos 0 ≼ Q
  Q₀ = ≺-≼ hQ

  sun_near : (l : ℕ) (w e : Figures) → 0 < l → pos 0 ≼ w.R → pos 0 ≼ e.R → Faithful Q w e
      → Bd³ (e.R *ℤ (Q *ℤ Q *ℤ pos l +ℤ pos 2 *ℤ (Q *ℤ Q *ℤ (pos U +ℤ pos 4920 *ℤ w.R))))
      (sub (scl (pos 2 *ℤ pos U *ℤ w.R) (sun (whole_place Q e))) (scl (pos 2 *ℤ (pos l *ℤ (Q *ℤ Q)) *ℤ e.R) (unit_over l (sun (placed w)))))
  unfolding geocentric scl sun whole_place
  sun_near l w e hl hR hp h =
      let q = Q *ℤ Q in
      let T = q *ℤ (pos U +ℤ pos 4920 *ℤ w.R) in
      let near = place_near Q w e Q₀ hR h in
      let un = unit_near l (sun (placed w)) hl in
      let u = unit_over l (sun (placed w)) in
      let n = toward Q e in
      record {
        x = sun_part (pos l) q w.R e.R T u.x (placed w).x n.x (Q₀ ⊛ Q₀) hp un.x near.x;
        y = sun_part (pos l) q w.R e.R T u.y (placed w).y n.y (Q₀ ⊛ Q₀) hp un.y near.y;
        z = sun_part (pos l) q w.R e.R T u.z (placed w).z n.z (Q₀ ⊛ Q₀) hp un.z near.z;
      }

  full_near : (w e : Figures) → pos 0 ≼ w.R → Faithful Q w e
      → Bd³ (Q *ℤ (Q *ℤ Q *ℤ (pos U +ℤ pos 4920 *ℤ w.R)) +ℤ pos U *ℤ (pos tolerance *ℤ Q *ℤ (Q *ℤ Q)))
      (scl (pos U) (sub (scl (Q *ℤ (Q *ℤ Q)) (placed w)) (whole_place Q e)))
  unfolding geocentric scl whole_place
  full_near w e hR h =
      let q = Q *ℤ Q in
      let T = q *ℤ (pos U +ℤ pos 4920 *ℤ w.R) in
      let near = place_near Q w e Q₀ hR h in
      let t = toward_within Q w e Q₀ h in
      let n = toward Q e in
      record {
        x = full_part Q q w.R e.R T (placed w).x n.x Q₀ t.x h.radius near.x;
        y = full_part Q q w.R e.R T (placed w).y n.y Q₀ t.y h.radius near.y;
        z = full_part Q q w.R e.R T (placed w).z n.z Q₀ t.z h.radius near.z;
      }

  planet_near : (D : ℕ) (p pe w we : Figures) → 0 < D → pos 0 ≼ p.R → pos 0 ≼ w.R → Faithful Q p pe → Faithful Q w we
      → Bd³ (Q *ℤ (Q *ℤ Q) *ℤ pos D +ℤ (pos 2 *ℤ (Q *ℤ (Q *ℤ Q *ℤ (pos U +ℤ pos 4920 *ℤ p.R)) +ℤ pos U *ℤ (pos tolerance *ℤ Q *ℤ (Q *ℤ Q))) +ℤ pos 2
      *ℤ (Q *ℤ (Q *ℤ Q *ℤ (pos U +ℤ pos 4920 *ℤ w.R)) +ℤ pos U *ℤ (pos tolerance *ℤ Q *ℤ (Q *ℤ Q)))))
      (sub (scl (pos 2 *ℤ pos U) (sub (whole_place Q pe) (whole_place Q we)))
      (scl (pos 2 *ℤ (pos D *ℤ (Q *ℤ (Q *ℤ Q)))) (unit_over D (sub (placed p) (placed w)))))
  unfolding geocentric scl
  planet_near D p pe w we hD hp hw h k =
      let c = Q *ℤ (Q *ℤ Q) in
      let E = Q *ℤ (Q *ℤ Q *ℤ (pos U +ℤ pos 4920 *ℤ p.R)) +ℤ pos U *ℤ (pos tolerance *ℤ Q *ℤ (Q *ℤ Q)) in
      let F = Q *ℤ (Q *ℤ Q *ℤ (pos U +ℤ pos 4920 *ℤ w.R)) +ℤ pos U *ℤ (pos tolerance *ℤ Q *ℤ (Q *ℤ Q)) in
      let un = unit_near D (sub (placed p) (placed w)) hD in
      let v = unit_over D (sub (placed p) (placed w)) in
      let a = full_near p pe hp h in
      let b = full_near w we hw k in
      record {
        x = planet_part (pos D) c E F v.x (placed p).x (placed w).x (whole_place Q pe).x (whole_place Q we).x (Q₀ ⊛ (Q₀ ⊛ Q₀)) un.x a.x b.x;
        y = planet_part (pos D) c E F v.y (placed p).y (placed w).y (whole_place Q pe).y (whole_place Q we).y (Q₀ ⊛ (Q₀ ⊛ Q₀)) un.y a.y b.y;
        z = planet_part (pos D) c E F v.z (placed p).z (placed w).z (whole_place Q pe).z (whole_place Q we).z (Q₀ ⊛ (Q₀ ⊛ Q₀)) un.z a.z b.z;
      }

-- ---- Both together.

at_least : (k l : ℕ) → 0 < k → pos k ≼ pos l → 0 < l
at_least k l h g = let m : k ≤ l = leb→le k l g.le in omega arith

pub sun_long : (w : Figures) → pos least_radius ≼ w.R → OneFar w.cosB w.sinB → OneFar w.cosL w.sinL
    → pos 47 *ℤ w.R ≼ pos 100 *ℤ pos (length (sun (placed w)))
sun_long w h f g = long (pos (length (sun (placed w)))) w h f g (sun_within _ (placed w) (within_length (sun (placed w))))

length_least : (R l : ℤ) → pos least_radius ≼ R → pos 47 *ℤ R ≼ pos 100 *ℤ l → pos 4700000000 ≼ l
length_least R l h k = cert! (R ∷ l ∷ []) 99 (gap k ⊞ 47 · gap h) (search polys depth 60 fits 100000) tt

radius_pos : (Q R p : ℤ) → pos 0 ≺ Q → pos least_radius ≼ R → Bd (pos tolerance *ℤ Q) (Q *ℤ R -ℤ p) → pos 0 ≺ p
radius_pos Q R p hQ hR b = cert<! (Q ∷ R ∷ p ∷ []) 0 (gap b.high ⊞ gap< hQ ⊛ gap hR ⊞ gap hR ⊞ 9999800000 · gap< hQ) (search polys depth 60 fits 100000) tt

-- Exact figures over Q, working ones faithful to them, usable; and no working cosine and sine are both small.
pub record Sky (Q : ℤ) (planet earth planet* earth* : Figures) : Type 0 where
  pub Q_pos : pos 0 ≺ Q
  pub planet_faithful : Faithful Q planet planet*
  pub earth_faithful : Faithful Q earth earth*
  pub usable : Usable planet earth (length (sub (placed planet) (placed earth)))
  pub far_B : OneFar earth.cosB earth.sinB
  pub far_L : OneFar earth.cosL earth.sinL

module _ (Q : ℤ) (planet earth planet* earth* : Figures) (sky : Sky Q planet earth planet* earth*) where
  abbrev l : ℕ
  l = length (sun (placed earth))

  abbrev D : ℕ
  D = length (sub (placed planet) (placed earth))

  R₀ : pos 0 ≼ earth.R
  R₀ = ≤ℤ-trans (nonneg least_radius) sky.usable.earth_far

  P₀ : pos 0 ≼ planet.R
  P₀ = ≤ℤ-trans (nonneg least_radius) sky.usable.planet_far

  l_long : pos 47 *ℤ earth.R ≼ pos 100 *ℤ pos l
  l_long = sun_long earth sky.usable.earth_far sky.far_B sky.far_L

  l_least : pos 4700000000 ≼ pos l
  l_least = length_least earth.R (pos l) sky.usable.earth_far l_long

  p_pos : pos 0 ≺ earth*.R
  p_pos = radius_pos Q earth.R earth*.R sky.Q_pos sky.usable.earth_far sky.earth_faithful.radius

  l_pos : 0 < l
  l_pos = at_least 4700000000 l (omega arith) l_least

  D_pos : 0 < D
  D_pos = at_least least_distance D (omega arith) sky.usable.apart

  pub close : Close (unit (sun (placed earth))) (unit (sub (placed planet) (placed earth))) (sun (whole_place Q earth*))
      (sub (whole_place Q planet*) (whole_place Q earth*))
  unfolding unit unit_over
  close =
      let hQ = sky.Q_pos in
      let q = Q *ℤ Q in
      let Q₁ = ≺-≼ hQ in
      over_one (unit (sun (placed earth))) (unit (sub (placed planet) (placed earth))) (sun (whole_place Q earth*))
      (sub (whole_place Q planet*) (whole_place Q earth*))
      (pos 2 *ℤ pos U *ℤ earth.R) (pos 2 *ℤ pos U) (pos 2 *ℤ (pos l *ℤ q) *ℤ earth*.R) (pos 2 *ℤ (pos D *ℤ (Q *ℤ q))) _ _
      (product_pos (pos 2 *ℤ pos U) earth.R (record { lt = tt })
      (cert<! (earth.R ∷ []) 0 (gap sky.usable.earth_far) (search polys depth 60 fits 100000) tt))
      (record { lt = tt })
      (product_pos (pos 2 *ℤ (pos l *ℤ q)) earth*.R
      (product_pos (pos 2) (pos l *ℤ q) (record { lt = tt }) (product_pos (pos l) q (≺-nat l l_pos) (product_pos Q Q hQ hQ))) p_pos)
      (product_pos (pos 2) (pos D *ℤ (Q *ℤ q)) (record { lt = tt }) (product_pos (pos D) (Q *ℤ q) (≺-nat D D_pos) (product_pos Q q hQ (product_pos Q Q hQ hQ))))
      (sun_near Q hQ l earth earth* l_pos R₀ (≺-≼ p_pos) sky.earth_faithful)
      (planet_near Q hQ D planet planet* earth earth* D_pos P₀ R₀ sky.planet_faithful sky.earth_faithful)
      (sun_small (pos l) q earth.R earth*.R (Q₁ ⊛ Q₁) (≺-≼ p_pos) l_long l_least)
      (planet_small (pos D) Q q planet.R earth.R Q₁ (Q₁ ⊛ Q₁) sky.usable.ratio sky.usable.apart)

  pub unit_sun : Unit³ (unit (sun (placed earth)))
  unit_sun = unit_is (sun (placed earth)) (≤ℤ-trans (record { le = tt }) l_least)

  pub unit_seen : Unit³ (unit (sub (placed planet) (placed earth)))
  unit_seen = unit_is (sub (placed planet) (placed earth)) (≤ℤ-trans (record { le = tt }) sky.usable.apart)
