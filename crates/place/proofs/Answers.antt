-- From what is seen to the answers, and that the numbers of a place are whole as doubles. Assumes nothing.
use mathlib.Core.Path.{◌≡◌, refl, sym, ◌∙◌, subst}
use mathlib.Core.Bool.{Bool, true, false, cond}
use mathlib.Core.List.{List}
use Prim.Native.Nat.{ℕ, ◌^◌, ◌≤◌, ◌<◌}
use native.Mathlib.Omega.{arith}
use lib.IntN.{nat_abs}
use Rattle.units.specs.Units.{t_limit, in_limit}
use Rattle.units.proofs.Limit.{size_within}
use Rattle.units.specs.declared.Instant.{Instant}
use Rattle.units.specs.declared.Refusal.{Refusal}
use Rattle.limits.specs.declared.Term.{Term}
use Rattle.limits.specs.Wide.{four_millennia, both_asked}
use Rattle.packed.specs.Series.{Parsed, accepted, refused, parse}
use Rattle.rectangular.specs.declared.Vector.{Vector}
use Rattle.rectangular.specs.Machine.Components.{Components}
use Rattle.nutation.specs.Nutation.{nutation_angle, obliquity_angle}
use Rattle.place.specs.declared.Apparent.{Apparent}
use Rattle.place.specs.declared.Equatorial.{Equatorial}
use Rattle.place.specs.declared.Geocentric.{Geocentric}
use Rattle.rectangular.specs.declared.View.{View}
use Rattle.std.specs.Prelude.{Err, None, Ok, Option, Result, Some}
use Rattle.place.specs.declared.MountPlace.{MountPlace}
use Rattle.place.specs.Apparent.{earlier, apparent, equatorial}
use Rattle.place.specs.Place.{sight_at, taken_again, taken, of_series, sighting_by, sighting, of_sighting, place_answer_by, place_answer}
use Rattle.place.specs.Mount.{mount_place, mount, mount_answer, Small}
use Rattle.place.specs.Machine.Reach.{reach, equator_reach, Clear}
use Rattle.place.proofs.Sights.{at_clear}
use Rattle.place.proofs.Sightings.{earth_refused}
use Rattle.place.proofs.Directions.{direction_le, latitude_le}
use Rattle.place.proofs.Rebuilt.{at_equator}

-- ---- what is seen is within its sizes, and so is its instant

same_seen : (g h : Geocentric) → ◌≡◌ {A = Result Geocentric Refusal} (Ok g) (Ok h) → g ≡ h
same_seen g h e = cc

not_seen : (r : Refusal) (g : Geocentric) → ◌≡◌ {A = Result Geocentric Refusal} (Err r) (Ok g) → ⊥
not_seen r g e = let z : ◌≡◌ {A = ℕ} 0 1 = cc in omega arith

again_clear : (d : ℕ) (s : Option View) (g : Geocentric) → ((v : View) → s ≡ Some v → Clear v.vector v.distance) → d < 2 ^ 46 → taken_again d s ≡ Ok g
    → Clear g.vector g.distance
unfolding taken_again
again_clear d (Some v) g f l e =
    subst (λ (h : Geocentric). Clear h.vector h.distance) (same_seen _ g e) (record { vector_in = (f v refl).vector_in; distance_in = l })
again_clear d None g f l e = absurd (not_seen _ g e)

-- What is seen after a test has passed it.
after_test : (b : Bool) (s : Result Geocentric Refusal) (r : Refusal) (g : Geocentric) → cond b s (Err r) ≡ Ok g → (b ≡ true) × (s ≡ Ok g)
after_test true s r g e = (refl, e)
after_test false s r g e = absurd (not_seen r g e)

taken_clear : (P E : List (List Term)) (t : Instant) (s : Option View) (g : Geocentric) → ((v : View) → s ≡ Some v → Clear v.vector v.distance)
    → taken four_millennia P E t s ≡ Ok g → Clear g.vector g.distance
unfolding taken
taken_clear P E t (Some v) g k e =
    let u = earlier t v.distance in
    let i = (after_test (in_limit u.ms) _ _ g e).1 in
    again_clear v.distance (sight_at P E u) g (at_clear P E u) (k v refl).distance_in (after_test (both_asked four_millennia P E u.ms) _ _ g i).1
taken_clear P E t None g k e = absurd (not_seen _ g e)

series_clear : (p q : Parsed) (t : Instant) (g : Geocentric) → of_series four_millennia p q t ≡ Ok g → Clear g.vector g.distance
unfolding of_series
series_clear (refused r) q t g e = absurd (not_seen r g e)
series_clear (accepted P) (refused r) t g e = absurd (not_seen r g (earth_refused P (refused r) t r refl ∙ e))
series_clear (accepted P) (accepted E) t g e =
    taken_clear P E t (sight_at P E t) g (at_clear P E t) (after_test (both_asked four_millennia P E t.ms) _ _ g e).1

-- A sighting was asked for within the limit of time, and is clear.
pub record Good (t : Instant) (g : Geocentric) : Type 0 where
  pub in_time : nat_abs t.ms ≤ t_limit
  pub clear : Clear g.vector g.distance

seen_good : (planet earth : List ℕ) (t : Instant) (g : Geocentric) → sighting planet earth t ≡ Ok g → Good t g
unfolding sighting_by
seen_good planet earth t g e =
    let h = after_test (in_limit t.ms) _ _ g e in
    record { in_time = size_within t_limit _ h.0; clear = series_clear (parse planet) (parse earth) t g h.1 }

pub apparent_in : (t : Instant) (v : Vector) (a : Apparent) → Components reach v → a ≡ apparent t v → Components equator_reach a.vector
unfolding apparent
apparent_in t v a c e =
    subst (λ (x : Apparent). Components equator_reach x.vector) (sym e) (at_equator (obliquity_angle t.ms) (nutation_angle t.ms) v c)

-- ---- the answers

module _ (planet earth : List ℕ) (t : Instant) (s : Result Geocentric Refusal) (e : s ≡ sighting planet earth t) where
  pub no_place : (r : Refusal) → s ≡ Err r → Err r ≡ place_answer planet earth t
  unfolding place_answer_by of_sighting
  no_place r f = let h : sighting planet earth t ≡ Err r = sym e ∙ f in rw h

  pub place_is : (g : Geocentric) (a : Apparent) (p : Equatorial) → s ≡ Ok g → a ≡ apparent t g.vector → p ≡ equatorial a.vector g.distance
      → Ok p ≡ place_answer planet earth t
  unfolding place_answer_by of_sighting
  place_is g a p f k l = let h : sighting planet earth t ≡ Ok g = sym e ∙ f in rw (l, k, h)

  pub good : (g : Geocentric) → s ≡ Ok g → Good t g
  good g f = seen_good planet earth t g (sym e ∙ f)

-- ---- the numbers of a place

equatorial_small : (v : Vector) (d : ℕ) → d < 2 ^ 46 → Small (equatorial v d)
unfolding equatorial
equatorial_small v d h = record {
  ascension_in = (let a = direction_le v.x v.y in omega arith);
  declination_in = (let a = latitude_le v.x v.y v.z in omega arith);
  distance_in = omega arith;
}

sighting_small : (t : Instant) (s : Result Geocentric Refusal) (p : Equatorial) → ((g : Geocentric) → s ≡ Ok g → Good t g) → of_sighting t s ≡ Ok p → Small p
unfolding of_sighting
sighting_small t (Ok g) p f e =
    let h : equatorial (apparent t g.vector).vector g.distance ≡ p = cc in
    subst Small h (equatorial_small (apparent t g.vector).vector g.distance (f g refl).clear.distance_in)
sighting_small t (Err r) p f e = absurd (let z : ◌≡◌ {A = ℕ} 0 1 = cc in omega arith)

pub place_small : (planet earth : List ℕ) (t : Instant) (p : Equatorial) → place_answer planet earth t ≡ Ok p → Small p
unfolding place_answer_by
place_small planet earth t p e = sighting_small t (sighting planet earth t) p (seen_good planet earth t) e

-- ---- the mount's answer

module _ (planet earth : List ℕ) (t : Instant) (a : Result Equatorial Refusal) (e : a ≡ place_answer planet earth t) where
  pub mount_refused : (r : Refusal) → a ≡ Err r → Err r ≡ mount_answer planet earth t
  unfolding mount_answer mount
  mount_refused r f = let h : place_answer planet earth t ≡ Err r = sym e ∙ f in rw h

  pub mount_at : (p : Equatorial) (m : MountPlace) → a ≡ Ok p → m ≡ mount_place p → Ok m ≡ mount_answer planet earth t
  unfolding mount_answer mount
  mount_at p m f k = let h : place_answer planet earth t ≡ Ok p = sym e ∙ f in rw (k, h)

  pub figures_ask : (p : Equatorial) → a ≡ Ok p → Small p
  figures_ask p f = place_small planet earth t p (sym e ∙ f)
