-- The lower numbers of all fractions of the exact test are positive where those of the coordinates are, so its cross products order the fractions
-- themselves. Assumes nothing.
use Prim.Native.Nat.{ℕ, ◌*◌, ◌^◌, ◌<◌}
use native.Mathlib.Omega.{arith}
use lib.Dec.{ltb→lt}
use lib.IntN.{ℤ, pos, negsuc, nat_abs}
use Rattle.integers.specs.Order.{◌≺◌}
use Rattle.integers.specs.Fractions.{Fraction, ◌*ᶠ◌, ◌+ᶠ◌, negᶠ}
use Rattle.integers.proofs.Order.{product_pos}
use Rattle.units.specs.Units.{parts, two_pi}
use Rattle.reference_cosine.proofs.Ranges.{cosine_unit, sine_unit}
use Rattle.separation.specs.Arcminutes.{arcminutes}
use Rattle.separation.specs.Positive.{Positive, PositiveCoordinates, PositiveTest}
use Rattle.separation.specs.Exact.{ExactCoordinates, Vectorᶠ, cosᶠ, sinᶠ, exact_place, exact_sun, exact_geocentric, dotᶠ, cosine_of_arcminutes}

record PositiveVector (v : Vectorᶠ) : Type 0 where
  pub x : Positive v.x
  pub y : Positive v.y
  pub z : Positive v.z

-- ---- Products, sums, cosines and sines.

positive-* : (f g : Fraction) → Positive f → Positive g → Positive (f *ᶠ g)
unfolding ◌*ᶠ◌
positive-* f g h k = product_pos f.lower g.lower h k

positive-+ : (f g : Fraction) → Positive f → Positive g → Positive (f +ᶠ g)
unfolding ◌+ᶠ◌
positive-+ f g h k = product_pos f.lower g.lower h k

positive_neg : (f : Fraction) → Positive f → Positive (negᶠ f)
unfolding negᶠ
positive_neg f h = h

magnitude : (n : ℤ) → pos 0 ≺ n → 0 < parts * nat_abs n
magnitude (pos n) h = omega (arith, ltb→lt 0 n h.lt)
magnitude (negsuc n) h = absurd h.lt

positive_cos : (f : Fraction) → Positive f → Positive (cosᶠ f)
unfolding cosᶠ
positive_cos f h = (cosine_unit f.upper (parts * nat_abs f.lower) (magnitude f.lower h)).positive

positive_sin : (f : Fraction) → Positive f → Positive (sinᶠ f)
unfolding sinᶠ
positive_sin f h = (sine_unit f.upper (parts * nat_abs f.lower) (magnitude f.lower h)).positive

-- ---- The vectors of the test, and what it compares.

positive_place : (c : ExactCoordinates) → PositiveCoordinates c → PositiveVector (exact_place c)
unfolding exact_place
positive_place c h =
    let near : Positive (c.radius *ᶠ cosᶠ c.latitude) =
    positive-* c.radius (cosᶠ c.latitude) h.radius (positive_cos c.latitude h.latitude) in
    record {
      x = positive-* (c.radius *ᶠ cosᶠ c.latitude) (cosᶠ c.longitude) near (positive_cos c.longitude h.longitude);
      y = positive-* (c.radius *ᶠ cosᶠ c.latitude) (sinᶠ c.longitude) near (positive_sin c.longitude h.longitude);
      z = positive-* c.radius (sinᶠ c.latitude) h.radius (positive_sin c.latitude h.latitude);
    }

positive_sun : (earth : ExactCoordinates) → PositiveCoordinates earth → PositiveVector (exact_sun earth)
unfolding exact_sun
positive_sun earth h =
    let p = positive_place earth h in
    record { x = positive_neg (exact_place earth).x p.x; y = positive_neg (exact_place earth).y p.y; z = positive_neg (exact_place earth).z p.z }

positive_geocentric : (planet earth : ExactCoordinates) → PositiveCoordinates planet → PositiveCoordinates earth
    → PositiveVector (exact_geocentric planet earth)
unfolding exact_geocentric
positive_geocentric planet earth h k =
    let p = positive_place planet h in
    let s = positive_place earth k in
    record {
      x = positive-+ (exact_place planet).x (negᶠ (exact_place earth).x) p.x (positive_neg (exact_place earth).x s.x);
      y = positive-+ (exact_place planet).y (negᶠ (exact_place earth).y) p.y (positive_neg (exact_place earth).y s.y);
      z = positive-+ (exact_place planet).z (negᶠ (exact_place earth).z) p.z (positive_neg (exact_place earth).z s.z);
    }

positive_dot : (a b : Vectorᶠ) → PositiveVector a → PositiveVector b → Positive (dotᶠ a b)
unfolding dotᶠ
positive_dot a b h k =
    positive-+ (a.x *ᶠ b.x +ᶠ a.y *ᶠ b.y) (a.z *ᶠ b.z)
    (positive-+ (a.x *ᶠ b.x) (a.y *ᶠ b.y) (positive-* a.x b.x h.x k.x) (positive-* a.y b.y h.y k.y))
    (positive-* a.z b.z h.z k.z)

positive_arcminutes : (k : ℕ) → Positive (cosine_of_arcminutes k)
unfolding cosine_of_arcminutes
positive_arcminutes k = (cosine_unit (pos (k * two_pi)) (arcminutes * 10 ^ 30) (omega arith)).positive

-- For a planet and Earth.
pub positive_test : (k : ℕ) (planet earth : ExactCoordinates) → PositiveCoordinates planet → PositiveCoordinates earth
    → PositiveTest k (exact_sun earth) (exact_geocentric planet earth)
positive_test k planet earth h e =
    let s = exact_sun earth in
    let p = exact_geocentric planet earth in
    let c = cosine_of_arcminutes k in
    let hs = positive_sun earth e in
    let hp = positive_geocentric planet earth h e in
    let hc = positive_arcminutes k in
    let sp = positive_dot s p hs hp in
    let ss = positive_dot s s hs hs in
    let pp = positive_dot p p hp hp in
    record {
      across = sp;
      sun_squared = ss;
      planet_squared = pp;
      left = positive-* (c *ᶠ c) (dotᶠ s s *ᶠ dotᶠ p p) (positive-* c c hc hc) (positive-* (dotᶠ s s) (dotᶠ p p) ss pp);
      right = positive-* (dotᶠ s p) (dotᶠ s p) sp sp;
    }
