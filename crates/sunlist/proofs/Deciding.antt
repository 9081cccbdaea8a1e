-- What the functions of one minute ask of each other and answer, from the bits of their numbers. Assumes nothing.
use mathlib.Core.Path.{◌≡◌, refl, sym, ap, ap₂, ◌∙◌, subst}
use mathlib.Core.Bool.{Bool, true, false}
use Prim.Native.Nat.{ℕ, ◌+◌, ◌*◌, ◌^◌, ◌≤◌, ◌<◌}
use native.Mathlib.Omega.{arith}
use lib.IntN.{ℤ, pos, nat_abs, neg_ℤ, ◌+ℤ◌, ◌*ℤ◌}
use lib.Signed.{le_z}
use mir.Syntax.{w64}
use mir.Val.{SFits}
use Rattle.integers.proofs.Order.{nat_abs_neg, fits, square_nat_abs}
use Rattle.units.specs.Units.{U}
use Rattle.units.specs.declared.Coordinates.{Coordinates}
use Rattle.cosine.specs.Cosine.{sine}
use Rattle.rectangular.specs.declared.Vector.{Vector}
use Rattle.rectangular.specs.declared.View.{View}
use Rattle.std.specs.Prelude.{None, Option, Some}
use Rattle.rectangular.specs.declared.Frame.TheVariants.{Theory}
use Rattle.rectangular.specs.Vectors.{geocentric, sun, squared, length, unit}
use Rattle.rectangular.specs.Rectangular.{place}
use Rattle.rectangular.specs.Sight.{greatest_radius, distance, places_usable, view, sight}
use Rattle.rectangular.specs.Machine.Components.{Components}
use Rattle.arith.proofs.Cells.{Cell, cell}
use Rattle.reference_cosine.proofs.Ranges.{sine_size}
use Rattle.rectangular.proofs.Places.{smaller}
use Rattle.rectangular.proofs.Radii.{geocentric_size, place_reach, radius_in}
use Rattle.rectangular.proofs.Usable.{UsablePlaces, usable_places}
use Rattle.rectangular.proofs.Sights.{sight_usable, sight_unusable, view_vector_in}
use Rattle.separation.specs.Listed.{squared_separation, threshold, listed}
use Rattle.sunlist.specs.declared.Figures.{Figures}
use Rattle.sunlist.specs.declared.Decision.TheVariants.{Listed, Clear, Unusable}
use Rattle.sunlist.specs.Minute.{figures, decide}
use Rattle.sunlist.proofs.Separations.{half_angle, threshold_is, square_size, four_size, unit_size, sun_far, seen_far, separation_size}

-- ---- threshold

module _ (k : ℕ) (s : ℤ) (e : s ≡ sine (pos (half_angle k))) where
  sine_in : nat_abs s ≤ U
  sine_in = subst (λ (t : ℤ). nat_abs t ≤ U) (sym e) (sine_size (pos (half_angle k)))

  sine_cell : Cell s ≡ s
  sine_cell = cell s (let h = sine_in in omega arith)

  pub square_fits : SFits w64 (Cell s *ℤ Cell s)
  square_fits = rw sine_cell (fits (s *ℤ s) (let h = square_size s U sine_in in omega arith))

  module _ (q : ℤ) (f : q ≡ Cell s *ℤ Cell s) where
    q_is : Cell q ≡ s *ℤ s
    q_is =
        let p : q ≡ s *ℤ s = f ∙ ap₂ ◌*ℤ◌ sine_cell sine_cell in
        cell q (subst (λ (t : ℤ). nat_abs t < 2 ^ 63) (sym p) (let h = square_size s U sine_in in omega arith)) ∙ p

    pub four_fits : SFits w64 (pos 4 *ℤ Cell q)
    four_fits = rw q_is (fits (pos 4 *ℤ (s *ℤ s)) (let h = four_size s sine_in in omega arith))

    pub four_is : (r : ℤ) → r ≡ pos 4 *ℤ Cell q → Cell r ≡ threshold k
    four_is r g =
        let p : r ≡ pos 4 *ℤ (s *ℤ s) = g ∙ ap (λ (t : ℤ). pos 4 *ℤ t) q_is in
        cell r (subst (λ (t : ℤ). nat_abs t < 2 ^ 63) (sym p) (let h = four_size s sine_in in omega arith)) ∙ p ∙ threshold_is k s e

threshold_size : (k : ℕ) → nat_abs (threshold k) ≤ 4 * (U * U)
threshold_size k =
    let s = sine (pos (half_angle k)) in
    subst (λ (t : ℤ). nat_abs t ≤ 4 * (U * U)) (threshold_is k s refl) (four_size s (sine_size (pos (half_angle k))))

-- ---- separation

sun_size : (k : ℕ) (a : Vector) → Components k a → Components k (sun a)
unfolding sun
sun_size k a h = record { x_in = one a.x h.x_in; y_in = one a.y h.y_in; z_in = one a.z h.z_in }
  where
    one : (x : ℤ) → nat_abs x ≤ k → nat_abs (neg_ℤ x) ≤ k
    one x h = rw (nat_abs_neg x) h

-- The squares of a difference w, and their sum.
module _ (u v w : Vector) (hu : Components U u) (hv : Components U v) (hs : nat_abs (squared_separation u v) < 2 ^ 63) (ew : w ≡ geocentric u v) where
  w_in : Components (U + U) w
  w_in = subst (Components (U + U)) (sym ew) (geocentric_size U u v hu hv)

  whole_in : nat_abs (squared w) < 2 ^ 63
  unfolding squared_separation
  whole_in = subst (λ (t : Vector). nat_abs (squared t) < 2 ^ 63) (sym ew) hs

  part_fits : (x : ℤ) → nat_abs x ≤ U + U → SFits w64 (Cell x *ℤ Cell x)
  part_fits x h = rw (cell x (omega arith)) (fits (x *ℤ x) (let s = square_size x (U + U) h in omega arith))

  part_is : (x p : ℤ) → nat_abs x ≤ U + U → p ≡ Cell x *ℤ Cell x → Cell p ≡ pos (nat_abs x * nat_abs x)
  part_is x p h e =
      let f : p ≡ x *ℤ x = e ∙ ap (λ (t : ℤ). t *ℤ t) (cell x (omega arith)) in
      cell p (subst (λ (t : ℤ). nat_abs t < 2 ^ 63) (sym f) (let s = square_size x (U + U) h in omega arith)) ∙ f ∙ square_nat_abs x

  pub x_fits : SFits w64 (Cell w.x *ℤ Cell w.x)
  x_fits = part_fits w.x w_in.x_in

  pub y_fits : SFits w64 (Cell w.y *ℤ Cell w.y)
  y_fits = part_fits w.y w_in.y_in

  pub z_fits : SFits w64 (Cell w.z *ℤ Cell w.z)
  z_fits = part_fits w.z w_in.z_in

  squared_is : squared w ≡ pos (nat_abs w.x * nat_abs w.x + nat_abs w.y * nat_abs w.y + nat_abs w.z * nat_abs w.z)
  unfolding squared
  squared_is = rw (square_nat_abs w.x, square_nat_abs w.y, square_nat_abs w.z)

  total_in : nat_abs w.x * nat_abs w.x + nat_abs w.y * nat_abs w.y + nat_abs w.z * nat_abs w.z < 2 ^ 63
  total_in = subst (λ (t : ℤ). nat_abs t < 2 ^ 63) squared_is whole_in

  module _ (x y z : ℤ) (ex : x ≡ Cell w.x *ℤ Cell w.x) (ey : y ≡ Cell w.y *ℤ Cell w.y) (ez : z ≡ Cell w.z *ℤ Cell w.z) where
    pub xy_fits : SFits w64 (Cell x +ℤ Cell y)
    xy_fits =
        rw (part_is w.x x w_in.x_in ex, part_is w.y y w_in.y_in ey)
        (fits (pos (nat_abs w.x * nat_abs w.x + nat_abs w.y * nat_abs w.y)) (let h = total_in in omega arith))

    module _ (xy : ℤ) (e : xy ≡ Cell x +ℤ Cell y) where
      xy_is : Cell xy ≡ pos (nat_abs w.x * nat_abs w.x + nat_abs w.y * nat_abs w.y)
      xy_is =
          let f : xy ≡ pos (nat_abs w.x * nat_abs w.x + nat_abs w.y * nat_abs w.y) = e
          ∙ ap₂ ◌+ℤ◌ (part_is w.x x w_in.x_in ex) (part_is w.y y w_in.y_in ey) in
          cell xy (subst (λ (t : ℤ). nat_abs t < 2 ^ 63) (sym f) (let h = total_in in omega arith)) ∙ f

      pub sum_fits : SFits w64 (Cell xy +ℤ Cell z)
      sum_fits =
          rw (xy_is, part_is w.z z w_in.z_in ez)
          (fits (pos (nat_abs w.x * nat_abs w.x + nat_abs w.y * nat_abs w.y + nat_abs w.z * nat_abs w.z)) total_in)

      pub sum_is : (s : ℤ) → s ≡ Cell xy +ℤ Cell z → Cell s ≡ squared_separation u v
      unfolding squared_separation
      sum_is s f =
          let g : s ≡ pos (nat_abs w.x * nat_abs w.x + nat_abs w.y * nat_abs w.y + nat_abs w.z * nat_abs w.z) = f
          ∙ ap₂ ◌+ℤ◌ xy_is (part_is w.z z w_in.z_in ez) in
          cell s (subst (λ (t : ℤ). nat_abs t < 2 ^ 63) (sym g) total_in) ∙ g ∙ sym squared_is ∙ ap squared ew

-- ---- figures

-- What is learnt on the way from a usable view to its figures.
module _ (k : ℕ) (planet earth : Coordinates) (ok : places_usable planet earth ≡ true) (v : View) (pv : v ≡ view planet earth) where
  radii : UsablePlaces planet earth
  radii = usable_places planet earth ok

  earth_is : v.earth ≡ place earth
  earth_is = ap (λ (w : View). w.earth) pv

  vector_is : v.vector ≡ geocentric (place planet) (place earth)
  vector_is = ap (λ (w : View). w.vector) pv

  distance_is : v.distance ≡ distance planet earth
  unfolding distance
  distance_is = ap (λ (w : View). w.distance) pv

  earth_in : (m : ℕ) → greatest_radius ≤ m → Components m (place earth)
  earth_in m h = smaller greatest_radius m (place earth) h (place_reach earth radii.earth_radius)

  pub earth_asks : Components (2 ^ 61) v.earth
  earth_asks = subst (Components (2 ^ 61)) (sym earth_is) (earth_in (2 ^ 61) (omega arith))

  pub vector_asks : (v.distance ≡ length v.vector) × (0 < v.distance) × Components (2 ^ 45) v.vector
  unfolding distance
  vector_asks = (
    distance_is ∙ ap length (sym vector_is),
    (let f = seen_far planet earth ok in let d = distance_is in omega arith),
    subst (Components (2 ^ 45)) (sym vector_is) (smaller (greatest_radius + greatest_radius) (2 ^ 45) _ (omega arith) (view_vector_in planet earth ok)),
  )

  module _ (s : Vector) (ps : s ≡ sun v.earth) where
    s_is : s ≡ sun (place earth)
    s_is = ps ∙ ap sun earth_is

    pub sun_asks : Components (2 ^ 45) s
    sun_asks = subst (Components (2 ^ 45)) (sym s_is) (sun_size (2 ^ 45) (place earth) (earth_in (2 ^ 45) (omega arith)))

    sun_long : U ≤ length (sun (place earth))
    sun_long = sun_far earth radii.earth_radius

    pub unit_asks : (l : ℕ) → l ≡ length s → (l ≡ length s) × (0 < l) × Components (2 ^ 45) s
    unit_asks l h = (h, (let f = sun_long in let m : l ≡ length (sun (place earth)) = h ∙ ap length s_is in omega arith), sun_asks)

    -- The unit vectors x to the Sun and y to the planet.
    module _ (x y : Vector) (px : x ≡ unit s) (py : y ≡ unit v.vector) where
      x_is : x ≡ unit (sun (place earth))
      x_is = px ∙ ap unit s_is

      y_is : y ≡ unit (geocentric (place planet) (place earth))
      y_is = py ∙ ap unit vector_is

      apart_is : squared_separation x y ≡ squared_separation (unit (sun (place earth))) (unit (geocentric (place planet) (place earth)))
      apart_is = ap₂ squared_separation x_is y_is

      apart_in : nat_abs (squared_separation x y) < 2 ^ 63
      apart_in = let h = separation_size planet earth ok in subst (λ (t : ℤ). nat_abs t < 2 ^ 63) (sym apart_is) (omega arith)

      pub separation_asks : Components U x × Components U y × (nat_abs (squared_separation x y) < 2 ^ 63)
      unfolding distance
      separation_asks = (
        subst (Components U) (sym x_is) (unit_size _ (let f = sun_long in omega arith)),
        subst (Components U) (sym y_is) (unit_size _ (let f = seen_far planet earth ok in omega arith)),
        apart_in,
      )

      pub figures_are : (q t : ℤ) → q ≡ squared_separation x y → t ≡ threshold k
          → ◌≡◌ {A = Figures} (record {
            separation = Cell q;
            threshold = Cell t;
            distance = v.distance;
            planet = Cell planet.radius;
            earth = Cell earth.radius;
          })
          (figures k planet earth)
      unfolding figures
      figures_are q t pq pt =
          let a = cell q (subst (λ (z : ℤ). nat_abs z < 2 ^ 63) (sym pq) apart_in) ∙ pq ∙ apart_is in
          let b = cell t (let h = threshold_size k in subst (λ (z : ℤ). nat_abs z < 2 ^ 63) (sym pt) (omega arith)) ∙ pt in
          let p = cell planet.radius (radius_in planet.radius radii.planet_radius) in
          let e = cell earth.radius (radius_in earth.radius radii.earth_radius) in
          rw (a, b, distance_is, p, e)

-- ---- decide

-- A sight that is not usable.
module _ (k : ℕ) (planet earth : Coordinates) (s : Option View) (ps : s ≡ sight Theory planet earth) where
  pub not_decided : s ≡ None → Unusable ≡ decide k planet earth
  unfolding decide
  not_decided h = let u : places_usable planet earth ≡ false = sight_unusable planet earth (sym ps ∙ h) in rw u

  -- A usable one: its view v, then its figures f.
  module _ (v : View) (h : s ≡ Some v) where
    pub usable_told : (places_usable planet earth ≡ true) × (v ≡ view planet earth)
    usable_told = sight_usable planet earth v (sym ps ∙ h)

    module _ (f : Figures) (pf : f ≡ figures k planet earth) (b : Bool) (g : le_z (Cell f.separation) (Cell f.threshold) ≡ b) where
      separation_cell : Cell f.separation ≡ f.separation
      unfolding figures
      separation_cell =
          let h = separation_size planet earth usable_told.0 in
          cell f.separation (subst (λ (x : Figures). nat_abs x.separation < 2 ^ 63) (sym pf) (omega arith))

      threshold_cell : Cell f.threshold ≡ f.threshold
      unfolding figures
      threshold_cell = let h = threshold_size k in cell f.threshold (subst (λ (x : Figures). nat_abs x.threshold < 2 ^ 63) (sym pf) (omega arith))

      listed_is : listed k planet earth ≡ b
      unfolding listed figures
      listed_is = ap (λ (x : Figures). le_z x.separation x.threshold) (sym pf) ∙ sym (ap₂ le_z separation_cell threshold_cell) ∙ g

      pub listed_told : b ≡ true → Listed f ≡ decide k planet earth
      unfolding decide
      listed_told e = let z : listed k planet earth ≡ true = listed_is ∙ e in rw (usable_told.0, z, pf)

      pub clear_told : b ≡ false → Clear f ≡ decide k planet earth
      unfolding decide
      clear_told e = let z : listed k planet earth ≡ false = listed_is ∙ e in rw (usable_told.0, z, pf)
