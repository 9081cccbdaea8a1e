-- A planet seen from Earth: what the code of a sight asks and answers, and what a sight tells its callers. Assumes nothing.
use mathlib.Core.Path.{◌≡◌, refl, sym, ap₂, ◌∙◌, subst}
use mathlib.Core.Bool.{Bool, true, false, not, cond, ◌&&◌}
use Prim.Native.Nat.{ℕ, ◌+◌, ◌^◌, ◌<◌}
use native.Mathlib.Omega.{arith}
use borrow.Author.Tests.{not-true, not-false}
use lib.IntN.{ℤ}
use Rattle.integers.proofs.Tests.{both}
use Rattle.units.specs.declared.Coordinates.{Coordinates}
use Rattle.arith.proofs.Cells.{Cell, cell}
use Rattle.rectangular.specs.declared.Vector.{Vector}
use Rattle.rectangular.specs.declared.View.{View}
use Rattle.rectangular.specs.declared.Frame.{Frame}
use Rattle.rectangular.specs.declared.Frame.TheVariants.{Theory}
use Rattle.std.specs.Prelude.{None, Option, Some}
use Rattle.rectangular.specs.Vectors.{geocentric, length}
use Rattle.rectangular.specs.Rectangular.{place}
use Rattle.rectangular.specs.Frames.{in_frame}
use Rattle.rectangular.specs.Sight.{greatest_radius, radius_usable, usable, distance, places_usable, view_from, sight_from, view, sight}
use Rattle.rectangular.specs.Machine.Components.{Components, grown}
use Rattle.rectangular.proofs.Places.{smaller, length_in}
use Rattle.rectangular.proofs.Radii.{geocentric_size, radius_in, place_reach}
use Rattle.rectangular.proofs.Usable.{usable_then, usable_places}
use Rattle.rectangular.proofs.Turn.{in_size}

-- ---- Two usable R as they are handed on.

pub radii_hand : (rp re : ℤ) → radius_usable rp ≡ true → radius_usable re ≡ true
    → (radius_usable (Cell rp) ≡ true) × (radius_usable (Cell re) ≡ true)
radii_hand rp re up ue = rw (cell rp (radius_in rp up), cell re (radius_in re ue)) (up, ue)

-- ---- seen: both R are usable; the vector g, its length d, and what the test of D answered.

module _ (p e : Vector) (hp : Components (2 ^ 44) p) (he : Components (2 ^ 44) e) where
  pub vectors_ask : Components (2 ^ 61) p × Components (2 ^ 61) e
  vectors_ask = (smaller (2 ^ 44) (2 ^ 61) p (omega arith) hp, smaller (2 ^ 44) (2 ^ 61) e (omega arith) he)

  module _ (g : Vector) (pg : g ≡ geocentric p e) where
    pub length_asks : Components (2 ^ 45) g
    length_asks = subst (Components (2 ^ 45)) (sym pg) (geocentric_size (2 ^ 44) p e hp he)

    module _ (rp re : ℤ) (up : radius_usable rp ≡ true) (ue : radius_usable re ≡ true) (d : ℕ) (pd : d ≡ length g) (b : Bool)
        (pb : b ≡ usable (Cell rp) (Cell re) d) where
      usable_is : usable rp re (length (geocentric p e)) ≡ b
      usable_is = sym (pb ∙ rw (cell rp (radius_in rp up), cell re (radius_in re ue), pd, pg))

      pub distance_refused : not b ≡ true → None ≡ sight_from rp re p e
      unfolding sight_from
      distance_refused h = rw (usable_is ∙ not-true b h)

      pub seen_is : not b ≡ false → Some (record { earth = e; vector = g; distance = d }) ≡ sight_from rp re p e
      unfolding sight_from
      seen_is h = rw (usable_is ∙ not-false b h, pd, pg)

-- ---- sight: the test of both R, which come as their bits, and what was then seen.

module _ (rp re : ℤ) (cp : Cell rp ≡ rp) (ce : Cell re ≡ re) where
  module _ (b : Bool) (pb : b ≡ (radius_usable (Cell rp) && radius_usable (Cell re))) where
    told : (radius_usable rp && radius_usable re) ≡ b
    told = ap₂ (λ (x y : ℤ). radius_usable x && radius_usable y) (sym cp) (sym ce) ∙ sym pb

    pub radii_refused : not b ≡ true → (p e : Vector) → None ≡ sight_from rp re p e
    unfolding sight_from usable
    radii_refused h p e = rw (fails (radius_usable rp) (radius_usable re) _ (told ∙ not-true b h))
      where
        fails : (x y z : Bool) → (x && y) ≡ false → (x && (y && z)) ≡ false
        fails true true z h = absurd (let n : ◌≡◌ {A = ℕ} 0 1 = cc in omega arith)
        fails true false z h = refl
        fails false y z h = refl

    pub radii_pass : not b ≡ false → (radius_usable rp ≡ true) × (radius_usable re ≡ true)
    radii_pass h = both (radius_usable rp) (radius_usable re) (told ∙ not-false b h)

  pub sight_told : (p e p' e' : Vector) (r : Option View) → p ≡ p' → e ≡ e' → r ≡ sight_from (Cell rp) (Cell re) p e → r ≡ sight_from rp re p' e'
  sight_told p e p' e' r pp pe h = h ∙ rw (cp, ce, pp, pe)

-- ---- What a sight tells its callers.

module _ (rp re : ℤ) (p e : Vector) where
  seen_then : (b : Bool) (v : View) → cond b (Some (view_from p e)) None ≡ Some v → (b ≡ true) × (v ≡ view_from p e)
  seen_then true v h = (refl, cc)
  seen_then false v h = let z : ◌≡◌ {A = ℕ} 0 1 = cc in absurd (omega arith)

  unseen_then : (b : Bool) → cond b (Some (view_from p e)) None ≡ None → b ≡ false
  unseen_then true h = let z : ◌≡◌ {A = ℕ} 0 1 = cc in absurd (omega arith)
  unseen_then false h = refl

  from_unusable : sight_from rp re p e ≡ None → usable rp re (length (geocentric p e)) ≡ false
  unfolding sight_from
  from_unusable h = unseen_then (usable rp re (length (geocentric p e))) h

  from_usable : (v : View) → sight_from rp re p e ≡ Some v → (usable rp re (length (geocentric p e)) ≡ true) × (v ≡ view_from p e)
  unfolding sight_from
  from_usable v h = seen_then (usable rp re (length (geocentric p e))) v h

-- In a frame: how large what is seen is.
module _ (f : Frame) (planet earth : Coordinates) (v : View) (h : sight f planet earth ≡ Some v) where
  pub sight_in : Components (grown greatest_radius + grown greatest_radius) v.vector × (v.distance < 2 ^ 46)
  unfolding sight
  sight_in =
      let seen = from_usable planet.radius earth.radius (in_frame f (place planet)) (in_frame f (place earth)) v h in
      let u = usable_then planet.radius earth.radius _ seen.0 in
      let g = geocentric_size (grown greatest_radius) _ _ (in_size f planet u.0) (in_size f earth u.1) in
      subst (λ (w : View). Components (grown greatest_radius + grown greatest_radius) w.vector × (w.distance < 2 ^ 46))
      (sym seen.1) (g, length_in _ (smaller (grown greatest_radius + grown greatest_radius) (2 ^ 45) _ (omega arith) g))

-- In the theory's frame.
module _ (planet earth : Coordinates) where
  pub sight_unusable : sight Theory planet earth ≡ None → places_usable planet earth ≡ false
  unfolding sight in_frame places_usable distance
  sight_unusable h = from_unusable _ _ _ _ h

  pub sight_usable : (v : View) → sight Theory planet earth ≡ Some v → (places_usable planet earth ≡ true) × (v ≡ view planet earth)
  unfolding sight in_frame places_usable distance
  sight_usable v h = from_usable _ _ _ _ v h

  pub view_vector_in : places_usable planet earth ≡ true → Components (greatest_radius + greatest_radius) (view planet earth).vector
  view_vector_in ok =
      let u = usable_places planet earth ok in
      geocentric_size greatest_radius (place planet) (place earth) (place_reach planet u.planet_radius) (place_reach earth u.earth_radius)
