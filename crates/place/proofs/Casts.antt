-- Whole numbers as doubles: the cast is exact below 2^53, and the divisors are whole numbers too. Assumes nothing.
use mathlib.Core.Path.{◌≡◌, sym, ap, ◌∙◌, subst}
use Prim.Native.Nat.{ℕ, ◌^◌, ◌≤◌}
use native.Mathlib.Omega.{arith}
use lib.Dec.{T, le→leb, lt→ltb}
use lib.IntN.{ℤ, pos, negsuc, nat_abs}
use lib.Ieee.{Float, binary64, of_int, div, in_float}
use Rattle.arith.proofs.Cells.{Cell, cell}
use Rattle.place.specs.Mount.{degrees, astronomical_units, mount_place, Small}
use Rattle.place.specs.declared.Equatorial.{Equatorial}
use Rattle.place.specs.declared.MountPlace.{MountPlace}

exact : (k : ℤ) → nat_abs k ≤ 2 ^ 52 → T (in_float binary64 k)
unfolding in_float
exact (pos n) h = le→leb n (2 ^ 53) (omega arith)
exact (negsuc n) h = lt→ltb n (2 ^ 53) (omega arith)

pub cast_asks : (k : ℤ) → nat_abs k ≤ 2 ^ 52 → T (in_float binary64 (Cell k))
cast_asks k h = subst (λ (z : ℤ). T (in_float binary64 z)) (sym (cell k (omega arith))) (exact k h)

-- a divisor d of the code is the whole number n
pub divided : (k : ℤ) (n : ℕ) (d : Float) → d ≡ of_int binary64 (pos n) → nat_abs k ≤ 2 ^ 52
    → div binary64 (of_int binary64 (Cell k)) d ≡ div binary64 (of_int binary64 k) (of_int binary64 (pos n))
divided k n d e h = rw (cell k (omega arith), e)

-- The three figures, from the bits of the numbers.
pub figures_are : (p : Equatorial) → Small p → (a b d : Float) → a ≡ degrees (Cell p.right_ascension) → b ≡ degrees (Cell p.declination)
    → d ≡ astronomical_units (Cell p.distance)
    → ◌≡◌ {A = MountPlace} (record { right_ascension = a; declination = b; distance = d }) (mount_place p)
unfolding mount_place
figures_are p h a b d ea eb ed =
    let x : a ≡ degrees p.right_ascension = ea ∙ ap degrees (let l = h.ascension_in in cell p.right_ascension (omega arith)) in
    let y : b ≡ degrees p.declination = eb ∙ ap degrees (let l = h.declination_in in cell p.declination (omega arith)) in
    let z : d ≡ astronomical_units p.distance = ed ∙ ap astronomical_units (let l = h.distance_in in cell p.distance (omega arith)) in
    rw (x, y, z)
