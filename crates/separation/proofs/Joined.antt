-- The two halves for working coordinates and exact ones, given that the figures made of them are near. Assumes nothing.
use mathlib.Core.Path.{◌≡◌, sym, subst}
use mathlib.Core.List.{[], ◌∷◌}
use mathlib.Core.Bool.{Bool, true}
use Prim.Native.Nat.{ℕ, ◌+◌, ◌-◌, ◌≤◌}
use native.Mathlib.Omega.{arith}
use lib.Dec.{T, le→leb}
use lib.IntN.{ℤ, pos, ◌*ℤ◌}
use Rattle.integers.specs.Order.{◌≼◌, ◌≺◌}
use Rattle.integers.proofs.Auto.{polys, cert<!, gap, gap<, ◌⊞◌}
use Rattle.integers.proofs.Order.{product_pos}
use Rattle.units.specs.Units.{angle_per_part}
use Rattle.units.specs.declared.Coordinates.{Coordinates}
use Rattle.cosine.specs.Cosine.{cosine, sine}
use Rattle.rectangular.specs.declared.Vector.{Vector}
use Rattle.rectangular.specs.Vectors.{sun, squared, length, unit}
use Rattle.rectangular.specs.Rectangular.{rectangular, place}
use Rattle.rectangular.specs.Sight.{distance, places_usable}
use Rattle.rectangular.proofs.Usable.{radius_least, usable_places}
use Rattle.separation.specs.Arcminutes.{least_keep_out, greatest_keep_out}
use Rattle.separation.specs.Exact.{ExactCoordinates, exact_sun, exact_geocentric, cosine_of_arcminutes, WithinArcminutes}
use Rattle.separation.specs.Listed.{squared_separation, threshold, listed}
use Rattle.integers.proofs.Tests.{is_true}
use Rattle.separation.proofs.Form.{dot, sub}
use Rattle.separation.proofs.Row.{Row}
use Rattle.separation.proofs.BothWays.{exact_listed, listed_exact}
use Rattle.separation.proofs.Table.{witness, table}
use Rattle.separation.proofs.Places.{Figures, placed, whole_place}
use Rattle.separation.proofs.Closeness.{Usable, Sky, close, unit_sun, unit_seen}
use Rattle.separation.proofs.WholeTest.{Over³, to_whole, of_whole}
use Rattle.separation.proofs.Whole.{exact_figures, NearFigures, HeldFigures, product, product_positive, held, held_left_all, held_right_all, whole}
use Rattle.separation.proofs.Whole.{faithful, place_over, sun_over, geocentric_over}
use Rattle.separation.proofs.Angles.{one_far}

-- The working figures of a body.
unfoldable pub figures : Coordinates → Figures
figures c = record {
  R = c.radius;
  cosB = cosine (pos angle_per_part *ℤ c.latitude);
  sinB = sine (pos angle_per_part *ℤ c.latitude);
  cosL = cosine (pos angle_per_part *ℤ c.longitude);
  sinL = sine (pos angle_per_part *ℤ c.longitude);
}

-- ---- The computed answers as facts.

true_T : (b : Bool) → b ≡ true → T b
true_T b e = subst (λ (a : Bool). T a) (sym e) tt

usable_of : (p e : Coordinates) → places_usable p e ≡ true → Usable (figures p) (figures e) (length (sub (placed (figures p)) (placed (figures e))))
unfolding distance figures placed place rectangular
usable_of p e h =
    let u = usable_places p e h in
    record {
      planet_far = radius_least p.radius u.planet_radius;
      earth_far = radius_least e.radius u.earth_radius;
      apart = record { le = le→leb _ _ u.far };
      ratio = u.in_reach;
    }

abbrev NearSun : ℕ → Coordinates → Coordinates → Type 0
NearSun k p e =
    let u = unit (sun (placed (figures e))) in
    let v = unit (sub (placed (figures p)) (placed (figures e))) in
    dot (sub u v) (sub u v) ≼ threshold k

listed_of : (k : ℕ) (p e : Coordinates) → NearSun k p e → listed k p e ≡ true
unfolding listed squared_separation squared dot placed figures place rectangular
listed_of k p e h = is_true _ h.le

of_listed : (k : ℕ) (p e : Coordinates) → listed k p e ≡ true → NearSun k p e
unfolding listed squared_separation squared dot placed figures place rectangular
of_listed k p e h = record { le = true_T _ h }

-- ---- The two halves.

module _ (p e : Coordinates) (p* e* : ExactCoordinates) (hp : NearFigures (figures p) (exact_figures p*)) (he : NearFigures (figures e) (exact_figures e*))
    (ok : places_usable p e ≡ true) where
  P₀ : pos 0 ≺ product (exact_figures p*)
  P₀ = product_positive (figures p) (exact_figures p*) hp

  E₀ : pos 0 ≺ product (exact_figures e*)
  E₀ = product_positive (figures e) (exact_figures e*) he

  abbrev Q : ℤ
  Q = product (exact_figures p*) *ℤ product (exact_figures e*)

  abbrev W : ℤ
  W = Q *ℤ (Q *ℤ Q)

  Q₀ : pos 0 ≺ Q
  Q₀ = product_pos (product (exact_figures p*)) (product (exact_figures e*)) P₀ E₀

  W₀ : pos 0 ≺ W
  W₀ = product_pos Q (Q *ℤ Q) Q₀ (product_pos Q Q Q₀ Q₀)

  abbrev held_planet : HeldFigures Q (exact_figures p*)
  held_planet = held_left_all (product (exact_figures p*)) (product (exact_figures e*)) (exact_figures p*) E₀ (held (figures p) (exact_figures p*) hp)

  abbrev held_earth : HeldFigures Q (exact_figures e*)
  held_earth = held_right_all (product (exact_figures e*)) (product (exact_figures p*)) (exact_figures e*) P₀ (held (figures e) (exact_figures e*) he)

  abbrev P : Figures
  P = whole Q (exact_figures p*) held_planet

  abbrev E : Figures
  E = whole Q (exact_figures e*) held_earth

  sky : Sky Q (figures p) (figures e) P E
  unfolding figures
  sky = record {
    Q_pos = Q₀;
    planet_faithful = faithful Q (figures p) (exact_figures p*) held_planet hp;
    earth_faithful = faithful Q (figures e) (exact_figures e*) held_earth he;
    usable = usable_of p e ok;
    far_B = one_far (pos angle_per_part *ℤ e.latitude);
    far_L = one_far (pos angle_per_part *ℤ e.longitude);
  }

  abbrev S : Vector
  S = sun (whole_place Q E)

  abbrev G : Vector
  G = sub (whole_place Q P) (whole_place Q E)

  over_S : Over³ W (exact_sun e*) S
  over_S = sun_over W e* (whole_place Q E) (place_over Q e* held_earth)

  over_G : Over³ W (exact_geocentric p* e*) G
  over_G = geocentric_over W p* e* (whole_place Q P) (whole_place Q E) (place_over Q p* held_planet) (place_over Q e* held_earth)

  lower_pos : (k : ℕ) → least_keep_out ≤ k → k ≤ greatest_keep_out + 2 → pos 0 ≺ (cosine_of_arcminutes k).lower
  lower_pos k h l =
      let c = cosine_of_arcminutes k in
      let r = table k h l in
      cert<! (c.upper ∷ c.lower ∷ []) 0 (gap< r.positive ⊞ gap r.at_most) (search polys depth 60 fits 100000) tt

  abbrev u : Vector
  u = unit (sun (placed (figures e)))

  abbrev v : Vector
  v = unit (sub (placed (figures p)) (placed (figures e)))

  pub exact_then_listed : (k : ℕ) → least_keep_out ≤ k → k ≤ greatest_keep_out → WithinArcminutes k p* e* → listed k p e ≡ true
  exact_then_listed k h l t =
      listed_of k p e
      (exact_listed u v S G (unit_sun Q (figures p) (figures e) P E sky) (unit_seen Q (figures p) (figures e) P E sky) (close Q (figures p) (figures e) P E sky)
      (cosine_of_arcminutes k) (witness k) (threshold k) (threshold (k - 2)) (table k h (omega arith))
      (to_whole k (lower_pos k h (omega arith)) W W₀ (exact_sun e*) (exact_geocentric p* e*) S G over_S over_G t))

  row_after : (k : ℕ) → least_keep_out ≤ k → k ≤ greatest_keep_out → Row (cosine_of_arcminutes (k + 2)) (witness (k + 2)) (threshold (k + 2)) (threshold k)
  row_after k h l =
      subst (λ (m : ℕ). Row (cosine_of_arcminutes (k + 2)) (witness (k + 2)) (threshold (k + 2)) (threshold m)) (same k)
      (table (k + 2) (omega arith) (omega arith))
    where
      same : (k : ℕ) → k + 2 - 2 ≡ k
      same k = omega arith

  pub listed_then_exact : (k : ℕ) → least_keep_out ≤ k → k ≤ greatest_keep_out → listed k p e ≡ true → WithinArcminutes (k + 2) p* e*
  listed_then_exact k h l t =
      of_whole (k + 2) (lower_pos (k + 2) (omega arith) (omega arith)) W W₀ (exact_sun e*) (exact_geocentric p* e*) S G over_S over_G
      (listed_exact u v S G (unit_sun Q (figures p) (figures e) P E sky) (unit_seen Q (figures p) (figures e) P E sky) (close Q (figures p) (figures e) P E sky)
      (cosine_of_arcminutes (k + 2)) (witness (k + 2)) (threshold (k + 2)) (threshold k) (row_after k h l) (of_listed k p e t))
