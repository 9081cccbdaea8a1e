-- The sizes of unit vectors, of their squared separation and of the threshold: all within 64 bits where the places are usable. Assumes nothing.
use mathlib.Core.Path.{◌≡◌, sym, ap, ◌∙◌, subst}
use mathlib.Core.Bool.{true, false}
use mathlib.Core.List.{List, [], ◌∷◌}
use Prim.Native.Nat.{ℕ, ◌+◌, ◌*◌, ◌/◌, ◌%◌, ◌≤◌, ◌<◌}
use native.Mathlib.Omega.{arith}
use native.Mathlib.Nat.{mul-le-mul}
use lib.Dec.{le→leb, leb→le}
use lib.IntN.{ℤ, pos, nat_abs, ◌+ℤ◌, ◌-ℤ◌, ◌*ℤ◌}
use Rattle.integers.specs.Order.{◌≼◌}
use Rattle.integers.specs.Signs.{sgn, near}
use Rattle.integers.specs.Division.{rounded}
use Rattle.integers.proofs.Auto.{polys, cert!, gap, ◌⊞◌, ◌·◌, sqr}
use Rattle.integers.proofs.Division.{rounded_near}
use Rattle.integers.proofs.Order.{nat_abs_le, nat_abs-*}
use Rattle.arith.proofs.Ranges.{scaled_within}
use Rattle.units.specs.Units.{U, turn, angle_per_part}
use Rattle.units.specs.declared.Coordinates.{Coordinates}
use Rattle.cosine.specs.Cosine.{sine}
use Rattle.rectangular.specs.declared.Vector.{Vector}
use Rattle.rectangular.specs.Vectors.{geocentric, sun, squared, length, unit}
use Rattle.rectangular.specs.Rectangular.{rectangular, place}
use Rattle.rectangular.specs.Sight.{radius_usable, distance, places_usable}
use Rattle.rectangular.specs.Machine.Components.{Components}
use Rattle.rectangular.proofs.Places.{within_length}
use Rattle.rectangular.proofs.Usable.{radius_least, usable_places}
use Rattle.separation.specs.Arcminutes.{arcminutes}
use Rattle.separation.specs.Listed.{squared_separation, threshold}
use Rattle.separation.proofs.Form.{dot}
use Rattle.separation.proofs.Lengths.{Unit³}
use Rattle.separation.proofs.Units.{unit_is}
use Rattle.separation.proofs.Places.{placed}
use Rattle.separation.proofs.Closeness.{sun_long}
use Rattle.separation.proofs.Angles.{one_far}
use Rattle.separation.proofs.Joined.{figures}

-- ---- The threshold.

-- The angle of keep-out k and an arcminute, halved.
abbrev pub half_angle : ℕ → ℕ
half_angle k = (k + 1) * (turn / (2 * arcminutes)) + ((k + 1) * (turn % (2 * arcminutes)) + arcminutes) / (2 * arcminutes)

half_angle_is : (k : ℕ) → rounded (pos ((k + 1) * turn)) (2 * arcminutes) ≡ pos (half_angle k)
unfolding sgn near
half_angle_is k = rounded_near false ((k + 1) * turn) (2 * arcminutes) (omega arith) ∙ ap pos (halved k)
  where
    halved : (k : ℕ) → (2 * ((k + 1) * turn) + 2 * arcminutes) / (2 * (2 * arcminutes)) ≡ half_angle k
    halved k = omega arith

pub threshold_is : (k : ℕ) (s : ℤ) → s ≡ sine (pos (half_angle k)) → pos 4 *ℤ (s *ℤ s) ≡ threshold k
unfolding threshold
threshold_is k s e = ap (λ (t : ℤ). pos 4 *ℤ (t *ℤ t)) (e ∙ ap sine (sym (half_angle_is k)))

pub square_size : (s : ℤ) (k : ℕ) → nat_abs s ≤ k → nat_abs (s *ℤ s) ≤ k * k
square_size s k h = subst (λ (n : ℕ). n ≤ k * k) (sym (nat_abs-* s s)) (mul-le-mul h h)

pub four_size : (s : ℤ) → nat_abs s ≤ U → nat_abs (pos 4 *ℤ (s *ℤ s)) ≤ 4 * (U * U)
four_size s h = subst (λ (n : ℕ). n ≤ 4 * (U * U)) (sym (nat_abs-* (pos 4) (s *ℤ s))) (let q = square_size s U h in omega arith)

-- ---- Unit vectors.

pub unit_size : (v : Vector) → 0 < length v → Components U (unit v)
unfolding unit
unit_size v h =
    let w = within_length v in
    record {
      x_in = scaled_within (pos U) v.x (length v) U h (omega arith) w.x_in;
      y_in = scaled_within (pos U) v.y (length v) U h (omega arith) w.y_in;
      z_in = scaled_within (pos U) v.z (length v) U h (omega arith) w.z_in;
    }

far : (l : ℕ) → pos U ≼ pos l → U ≤ l
far l h = leb→le U l h.le

pub sun_far : (earth : Coordinates) → radius_usable earth.radius ≡ true → U ≤ length (sun (place earth))
unfolding figures placed place rectangular
sun_far earth h =
    let r = radius_least earth.radius h in
    let s = sun_long (figures earth) r (one_far (pos angle_per_part *ℤ earth.latitude)) (one_far (pos angle_per_part *ℤ earth.longitude)) in
    far _ (cert! (earth.radius ∷ pos (length (sun (place earth))) ∷ []) 99 (gap s ⊞ 47 · gap r) (search polys depth 60 fits 100000) tt)

pub seen_far : (planet earth : Coordinates) → places_usable planet earth ≡ true → U ≤ distance planet earth
seen_far planet earth h = let f = (usable_places planet earth h).far in omega arith

-- Two unit vectors are at most twice their length apart.
pub apart_size : (u v : Vector) → Unit³ u → Unit³ v → nat_abs (squared_separation u v) ≤ 4 * (U * U) + 16 * U
unfolding squared_separation squared geocentric dot
apart_size u v a b =
    nat_abs_le (squared_separation u v) (4 * (U * U) + 16 * U)
    (cert! ρ 0 (sqr (u.x -ℤ v.x) ⊞ sqr (u.y -ℤ v.y) ⊞ sqr (u.z -ℤ v.z)) (search polys depth 60 fits 100000) tt)
    (cert! ρ 0 (2 · gap a.most ⊞ 2 · gap b.most ⊞ sqr (u.x +ℤ v.x) ⊞ sqr (u.y +ℤ v.y) ⊞ sqr (u.z +ℤ v.z)) (search polys depth 60 fits 100000) tt)
  where
    ρ : List ℤ
    ρ = u.x ∷ u.y ∷ u.z ∷ v.x ∷ v.y ∷ v.z ∷ []

unit_of : (v : Vector) → U ≤ length v → Unit³ (unit v)
unit_of v h = unit_is v (record { le = le→leb U (length v) h })

pub separation_size : (planet earth : Coordinates) → places_usable planet earth ≡ true
    → nat_abs (squared_separation (unit (sun (place earth))) (unit (geocentric (place planet) (place earth)))) ≤ 4 * (U * U) + 16 * U
unfolding distance
separation_size planet earth h =
    apart_size (unit (sun (place earth))) (unit (geocentric (place planet) (place earth)))
    (unit_of _ (sun_far earth (usable_places planet earth h).earth_radius))
    (unit_of _ (seen_far planet earth h))
