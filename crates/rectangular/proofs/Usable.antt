-- When R and D are usable, in the order of the checks, and what usable places tell. Assumes nothing.
use mathlib.Core.Path.{◌≡◌, ap₂}
use mathlib.Core.Bool.{true, ◌&&◌}
use mathlib.Core.List.{[], ◌∷◌}
use Prim.Native.Nat.{ℕ, ◌*◌, ◌^◌, ◌≤◌, ◌<◌}
use native.Mathlib.Omega.{arith}
use borrow.Author.Tests.{le-leb, lt-leb, leb-true}
use lib.Dec.{leb}
use lib.IntN.{ℤ, pos, nat_abs, ◌+ℤ◌}
use lib.Signed.{le_z}
use mir.Syntax.{w64}
use mir.Val.{SFits, to_z}
use Rattle.std.proofs.lemmas.Int.{to_z_pos}
use Rattle.integers.specs.Order.{◌≼◌}
use Rattle.integers.proofs.Tests.{both, at_most}
use Rattle.integers.proofs.Auto.{polys, cert!, gap}
use Rattle.integers.proofs.Order.{nat_abs_le, nat_abs-+, fits}
use Rattle.units.specs.declared.Coordinates.{Coordinates}
use Rattle.rectangular.specs.Sight.{least_radius, greatest_radius, radius_usable, least_distance, distance_factor, usable, distance, places_usable}
use Rattle.arith.proofs.Cells.{Cell, cell}

-- ---- a usable R

pub radius_least : (r : ℤ) → radius_usable r ≡ true → pos least_radius ≼ r
unfolding radius_usable
radius_least r e = at_most (pos least_radius) r (both (le_z (pos least_radius) r) (le_z r (pos greatest_radius)) e).0

radius_most : (r : ℤ) → radius_usable r ≡ true → r ≼ pos greatest_radius
unfolding radius_usable
radius_most r e = at_most r (pos greatest_radius) (both (le_z (pos least_radius) r) (le_z r (pos greatest_radius)) e).1

pub radius_size : (r : ℤ) → radius_usable r ≡ true → nat_abs r ≤ greatest_radius
radius_size r e =
    let l = radius_least r e in
    nat_abs_le r greatest_radius (cert! (r ∷ []) 0 (gap l) (search polys depth 60 fits 100000) tt) (radius_most r e)

-- ---- The tests of `usable_distance`, for two R that are usable.

module _ (p e : ℤ) (hp : radius_usable p ≡ true) (he : radius_usable e ≡ true) where
  pub too_near : (d : ℕ) → d < least_distance → leb least_distance d ≡ usable p e d
  unfolding usable
  too_near d h = rw (hp, he, lt-leb least_distance d h)

  sum_is : Cell p +ℤ Cell e ≡ p +ℤ e
  sum_is = let a = radius_size p hp in let b = radius_size e he in ap₂ ◌+ℤ◌ (cell p (omega arith)) (cell e (omega arith))

  sum_in : nat_abs (p +ℤ e) < 2 ^ 63
  sum_in = let a = radius_size p hp in let b = radius_size e he in let s = nat_abs-+ p e in omega arith

  pub sum_fits : SFits w64 (Cell p +ℤ Cell e)
  sum_fits = rw sum_is (fits (p +ℤ e) sum_in)

  pub far_enough : (d : ℕ) → least_distance ≤ d → d < 2 ^ 46 → le_z (Cell (Cell p +ℤ Cell e)) (to_z w64 (distance_factor * d)) ≡ usable p e d
  unfolding usable
  far_enough d h l = rw (sum_is, cell (p +ℤ e) sum_in, to_z_pos w64 (distance_factor * d) (omega arith), hp, he, le-leb least_distance d h)

-- ---- Usable places: what each of the four checks has shown.

pub usable_then : (rp re : ℤ) (d : ℕ) → usable rp re d ≡ true
    → (radius_usable rp ≡ true) × (radius_usable re ≡ true) × (least_distance ≤ d) × (rp +ℤ re ≼ pos (distance_factor * d))
unfolding usable
usable_then rp re d h =
    let near = leb least_distance d in
    let sum = le_z (rp +ℤ re) (pos (distance_factor * d)) in
    let a = both (radius_usable rp) (radius_usable re && (near && sum)) h in
    let b = both (radius_usable re) (near && sum) a.1 in
    let c = both near sum b.1 in
    (a.0, b.0, leb-true least_distance d c.0, at_most _ _ c.1)

pub record UsablePlaces (planet earth : Coordinates) : Type 0 where
  pub planet_radius : radius_usable planet.radius ≡ true
  pub earth_radius : radius_usable earth.radius ≡ true
  pub far : least_distance ≤ distance planet earth
  pub in_reach : planet.radius +ℤ earth.radius ≼ pos (distance_factor * distance planet earth)

pub usable_places : (planet earth : Coordinates) → places_usable planet earth ≡ true → UsablePlaces planet earth
unfolding places_usable
usable_places p e h =
    let u = usable_then p.radius e.radius (distance p e) h in
    record { planet_radius = u.0; earth_radius = u.1; far = u.2; in_reach = u.3 }
