-- Where every instant that is used lies within two millennia, the earlier one too, a place is answered as if time ended there, whether the series are
-- good for the wide range or not. (Before the wide range it did; the frame of the catalogues, which moved places, came later.) Assumes nothing.
use mathlib.Core.Path.{◌≡◌, refl, ap, ◌∙◌}
use mathlib.Core.Bool.{true}
use mathlib.Core.List.{List}
use Prim.Native.Nat.{ℕ}
use Rattle.units.specs.Units.{near}
use Rattle.units.specs.declared.Instant.{Instant}
use Rattle.limits.specs.declared.Term.{Term}
use Rattle.limits.specs.Wide.{four_millennia, two_millennia, both_asked}
use Rattle.limits.proofs.Reach.{near_taken, near_both}
use Rattle.packed.specs.Series.{Parsed, accepted, refused, parse}
use Rattle.rectangular.specs.declared.View.{View}
use Rattle.std.specs.Prelude.{None, Option, Result, Some}
use Rattle.place.specs.declared.Geocentric.{Geocentric}
use Rattle.units.specs.declared.Refusal.{Refusal}
use Rattle.place.specs.Apparent.{earlier}
use Rattle.place.specs.Place.{sight_at, in_range, if_asked, taken, of_series, sighting_by, of_sighting, place_answer_by, place_answer}

-- At a near instant neither range refuses anything.
module _ (u : Instant) (h : near u.ms ≡ true) (s : Result Geocentric Refusal) where
  same_range : in_range four_millennia u s ≡ in_range two_millennia u s
  same_range = rw (near_taken u.ms h, h)

  same_asked : (p e : List (List Term)) → if_asked four_millennia p e u s ≡ if_asked two_millennia p e u s
  unfolding both_asked
  same_asked p e = rw (near_both p e u.ms h)

-- The earlier instant is near, where a sight at t leads to one.
abbrev EarlierNear : Instant → Option View → Type 0
EarlierNear t s = (g : View) → s ≡ Some g → near (earlier t g.distance).ms ≡ true

same_taken : (p e : List (List Term)) (t : Instant) (s : Option View) → EarlierNear t s → taken four_millennia p e t s ≡ taken two_millennia p e t s
unfolding taken
same_taken p e t (Some g) f =
    let u = earlier t g.distance in
    ap (in_range four_millennia u) (same_asked u (f g refl) _ p e) ∙ same_range u (f g refl) _
same_taken p e t None f = refl

same_series : (p q : Parsed) (t : Instant) → near t.ms ≡ true
    → ((planet earth : List (List Term)) → p ≡ accepted planet → q ≡ accepted earth → EarlierNear t (sight_at planet earth t))
    → of_series four_millennia p q t ≡ of_series two_millennia p q t
unfolding of_series
same_series (refused r) q t h f = refl
same_series (accepted p) (refused r) t h f = refl
same_series (accepted p) (accepted e) t h f =
    ap (if_asked four_millennia p e t) (same_taken p e t (sight_at p e t) (f p e refl refl)) ∙ same_asked t h _ p e

pub as_before : (planet earth : List ℕ) (t : Instant) → near t.ms ≡ true
    → ((p e : List (List Term)) → parse planet ≡ accepted p → parse earth ≡ accepted e
    → (g : View) → sight_at p e t ≡ Some g → near (earlier t g.distance).ms ≡ true)
    → place_answer planet earth t ≡ place_answer_by two_millennia planet earth t
unfolding place_answer_by sighting_by
as_before planet earth t h f =
    ap (of_sighting t) (ap (in_range four_millennia t) (same_series (parse planet) (parse earth) t h f) ∙ same_range t h _)
