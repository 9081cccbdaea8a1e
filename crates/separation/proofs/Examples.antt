-- The exact test at three places, seen from an Earth at longitude 0 and 1 AU from the Sun: behind the Sun, at a right angle, and opposite to it.
-- Assumes nothing.
use Prim.Native.Nat.{ℕ}
use lib.IntN.{ℤ, pos}
use Rattle.integers.specs.Division.{floor, rounded, modulo}
use Rattle.integers.specs.Fractions.{wholeᶠ, ◌*ᶠ◌, ◌+ᶠ◌, negᶠ}
use Rattle.cosine.specs.Cosine.{cosine_by, sine_by}
use Rattle.reference_cosine.specs.Reference.{power, factorial, sum, alternate, even_series, odd_series, ref_q, ref_r, reference_cosine, reference_sine}
use Rattle.separation.specs.Exact.{ExactCoordinates, cosᶠ, sinᶠ, exact_place, exact_sun, exact_geocentric, dotᶠ, cosine_of_arcminutes, WithinArcminutes}

-- A body in the plane of the Earth's orbit, longitude and radius in parts.
abbrev at : ℤ → ℤ → ExactCoordinates
at longitude radius = record { longitude = wholeᶠ longitude; latitude = wholeᶠ (pos 0); radius = wholeᶠ radius }

abbrev earth : ExactCoordinates
earth = at (pos 0) (pos 100000000000)

-- Half a turn on, the planet stands behind the Sun: within 60 arcminutes.
behind : WithinArcminutes 60 (at (pos 314159265359) (pos 72333000000)) earth
unfolding floor rounded modulo ◌*ᶠ◌ ◌+ᶠ◌ negᶠ cosine_by sine_by power factorial sum alternate even_series odd_series ref_q ref_r reference_cosine
    reference_sine cosᶠ sinᶠ exact_place exact_sun exact_geocentric dotᶠ cosine_of_arcminutes
behind = record { ahead = record { lt = tt }; close = record { le = tt } }

-- A quarter turn on and as far from the Sun, it stands 45 degrees from it: within 2,701 arcminutes, and not within 2,699.
aside : WithinArcminutes 2701 (at (pos 157079632679) (pos 100000000000)) earth
unfolding floor rounded modulo ◌*ᶠ◌ ◌+ᶠ◌ negᶠ cosine_by sine_by power factorial sum alternate even_series odd_series ref_q ref_r reference_cosine
    reference_sine cosᶠ sinᶠ exact_place exact_sun exact_geocentric dotᶠ cosine_of_arcminutes
aside = record { ahead = record { lt = tt }; close = record { le = tt } }

not_nearer : WithinArcminutes 2699 (at (pos 157079632679) (pos 100000000000)) earth → ⊥
unfolding floor rounded modulo ◌*ᶠ◌ ◌+ᶠ◌ negᶠ cosine_by sine_by power factorial sum alternate even_series odd_series ref_q ref_r reference_cosine
    reference_sine cosᶠ sinᶠ exact_place exact_sun exact_geocentric dotᶠ cosine_of_arcminutes
not_nearer h = h.close.le

-- Farther out on the Earth's own side, it stands opposite to the Sun: not within any angle of the list.
opposite : (k : ℕ) → WithinArcminutes k (at (pos 0) (pos 520000000000)) earth → ⊥
unfolding floor rounded modulo ◌*ᶠ◌ ◌+ᶠ◌ negᶠ cosine_by sine_by power factorial sum alternate even_series odd_series ref_q ref_r reference_cosine
    reference_sine cosᶠ sinᶠ exact_place exact_sun exact_geocentric dotᶠ
opposite k h = h.ahead.lt
