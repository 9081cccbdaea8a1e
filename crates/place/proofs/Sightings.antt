-- What is seen at t and again at the earlier instant, from the answers of the calls, in the order of the refusals. Assumes nothing.
use mathlib.Core.Path.{◌≡◌, refl, sym, ap, ap₂, ◌∙◌}
use mathlib.Core.Bool.{Bool, true, false, not, ◌&&◌, ◌||◌}
use mathlib.Core.List.{List}
use Prim.Native.Nat.{ℕ, ◌≤◌}
use borrow.Author.Tests.{not-true, not-false}
use lib.IntN.{nat_abs}
use Rattle.units.specs.Units.{t_limit, in_limit, near}
use Rattle.units.proofs.Limit.{told_past, told_within, told_size}
use Rattle.units.specs.declared.Instant.{Instant}
use Rattle.units.specs.declared.Coordinates.{Coordinates}
use Rattle.units.specs.declared.Refusal.{Refusal}
use Rattle.units.specs.declared.Refusal.TheVariants.{PastLimit, NotUsable, TooFar}
use Rattle.limits.specs.declared.Term.{Term}
use Rattle.limits.specs.Wide.{good_for_wide, four_millennia, both_asked}
use Rattle.limits.proofs.Reach.{both_is as Asked_is}
use Rattle.packed.specs.Series.{Parsed, accepted, refused, parse}
use Rattle.series.specs.Sums.{coordinates}
use Rattle.rectangular.specs.declared.Frame.TheVariants.{Catalogues}
use Rattle.std.specs.Prelude.{Err, None, Ok, Option, Result, Some}
use Rattle.place.specs.declared.Geocentric.{Geocentric}
use Rattle.rectangular.specs.declared.View.{View}
use Rattle.rectangular.specs.Sight.{sight}
use Rattle.place.specs.Apparent.{earlier}
use Rattle.place.specs.Place.{sight_at, taken_again, at_earlier, taken, of_series, sighting_by, sighting}

-- Both bodies at one instant.
pub both_is : (t : Instant) (P E : List (List Term)) (p e : Coordinates) (r : Option View) → p ≡ coordinates t.ms P → e ≡ coordinates t.ms E
    → r ≡ sight Catalogues p e → r ≡ sight_at P E t
unfolding sight_at
both_is t P E p e r k l m = m ∙ ap₂ (sight Catalogues) k l

-- The second sight.
pub again_usable : (d : ℕ) (s : Option View) (g : View) → s ≡ Some g → Ok (record { vector = g.vector; distance = d }) ≡ taken_again d s
unfolding taken_again
again_usable d s g e = rw e

pub again_unusable : (d : ℕ) (s : Option View) → s ≡ None → Err (NotUsable 0) ≡ taken_again d s
unfolding taken_again
again_unusable d s e = rw e

-- With both series; `wide` says whether they are good for the wide range.
module _ (P E : List (List Term)) (wide : Bool) (pw : wide ≡ (good_for_wide P && good_for_wide E)) where
  -- b is what the test answered of an instant u, and the caller branched on its negation
  module _ (u : Instant) (b : Bool) (pb : b ≡ (near u.ms || wide)) where
    told : both_asked four_millennia P E u.ms ≡ b
    told = sym (Asked_is P E u.ms (good_for_wide P) (good_for_wide E) refl refl) ∙ ap (λ (w : Bool). near u.ms || w) (sym pw) ∙ sym pb

    told_far : not b ≡ true → both_asked four_millennia P E u.ms ≡ false
    told_far h = told ∙ not-true b h

    pub told_asked : not b ≡ false → both_asked four_millennia P E u.ms ≡ true
    told_asked h = told ∙ not-false b h

  -- At the earlier instant u, with D as it was at t: what the two tests answered of it, and the sight.
  module _ (d : ℕ) (u : Instant) (l : Bool) (pl : l ≡ in_limit u.ms) where
    pub earlier_past : not l ≡ true → Err (PastLimit u) ≡ at_earlier four_millennia P E d u
    earlier_past h = rw (told_past t_limit _ l pl h)

    module _ (hl : not l ≡ false) (b : Bool) (pb : b ≡ (near u.ms || wide)) where
      pub earlier_far : not b ≡ true → Err (TooFar u) ≡ at_earlier four_millennia P E d u
      earlier_far h = rw (told_within t_limit _ l pl hl, told_far u b pb h)

      pub second_is : not b ≡ false → (r : Option View) (z : Result Geocentric Refusal) → r ≡ sight_at P E u → z ≡ taken_again d r → z ≡ at_earlier four_millennia P E d u
      second_is h r z pr pz = rw (told_within t_limit _ l pl hl, told_asked u b pb h) (pz ∙ ap (taken_again d) pr)

  -- At t: what the test answered of it, and the sight.
  module _ (t : Instant) (b : Bool) (pb : b ≡ (near t.ms || wide)) where
    pub first_far : not b ≡ true → Err (TooFar t) ≡ of_series four_millennia (accepted P) (accepted E) t
    unfolding of_series
    first_far h = rw (told_far t b pb h)

    module _ (hb : not b ≡ false) (s : Option View) (ps : s ≡ sight_at P E t) where
      asked : (z : Result Geocentric Refusal) → z ≡ taken four_millennia P E t s → z ≡ of_series four_millennia (accepted P) (accepted E) t
      unfolding of_series
      asked z e = rw (told_asked t b pb hb, ← ps) e

      pub first_unusable : s ≡ None → Err (NotUsable 0) ≡ of_series four_millennia (accepted P) (accepted E) t
      unfolding taken
      first_unusable e = asked _ (rw e)

      pub first_usable : (g : View) → s ≡ Some g → (u : Instant) → u ≡ earlier t g.distance → (z : Result Geocentric Refusal)
          → z ≡ at_earlier four_millennia P E g.distance u → z ≡ of_series four_millennia (accepted P) (accepted E) t
      unfolding taken
      first_usable g e u pu z pz = asked z (rw (e, ← pu) pz)

-- The series.
pub earth_refused : (P : List (List Term)) (q : Parsed) (t : Instant) (r : Refusal) → q ≡ refused r → Err r ≡ of_series four_millennia (accepted P) q t
unfolding of_series
earth_refused P q t r e = rw e

pub both_accepted : (P E : List (List Term)) (q : Parsed) (t : Instant) (z : Result Geocentric Refusal) → q ≡ accepted E
    → z ≡ of_series four_millennia (accepted P) (accepted E) t → z ≡ of_series four_millennia (accepted P) q t
both_accepted P E q t z e h = rw e h

-- The whole.
module _ (planet earth : List ℕ) (t : Instant) (b : Bool) (pb : b ≡ in_limit t.ms) where
  pub time_past : not b ≡ true → Err (PastLimit t) ≡ sighting planet earth t
  unfolding sighting_by
  time_past h = rw (told_past t_limit _ b pb h)

  pub time_in : not b ≡ false → nat_abs t.ms ≤ t_limit
  time_in h = told_size t_limit _ b pb h

  pub parsed_is : not b ≡ false → (p : Parsed) (z : Result Geocentric Refusal) → parse planet ≡ p → z ≡ of_series four_millennia p (parse earth) t
      → z ≡ sighting planet earth t
  unfolding sighting_by
  parsed_is h p z e k = rw (told_within t_limit _ b pb h, e) k

  pub planet_refused : not b ≡ false → (r : Refusal) → parse planet ≡ refused r → Err r ≡ sighting planet earth t
  unfolding of_series
  planet_refused h r e = parsed_is h (refused r) (Err r) e refl
