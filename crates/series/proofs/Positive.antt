-- The exact L, B and R of any blocks at any instant are fractions with positive lower numbers. Assumes nothing.
use mathlib.Core.List.{List, [], ◌∷◌}
use Prim.Native.Nat.{ℕ, ◌*◌}
use native.Mathlib.Omega.{arith}
use lib.IntN.{ℤ, pos, ◌+ℤ◌, ◌*ℤ◌}
use Rattle.integers.specs.Order.{◌≺◌}
use Rattle.integers.specs.Fractions.{◌*ᶠ◌, ◌+ᶠ◌, powerᶠ}
use Rattle.integers.proofs.Order.{product_pos}
use Rattle.units.specs.Units.{parts, millennium}
use Rattle.reference_cosine.specs.Terms.{term_reference}
use Rattle.reference_cosine.proofs.Ranges.{cosine_unit}
use Rattle.limits.specs.declared.Term.{Term}
use Rattle.series.specs.Sums.{longitude_blocks, latitude_blocks, radius_blocks}
use Rattle.series.specs.Exact.{tau, exact_term, exact_block, exact_sum, exact_longitude, exact_latitude, exact_radius}
use Rattle.series.proofs.Close.{power_lower}

reference_lower : (b : ℕ) (c t : ℤ) → pos 0 ≺ (term_reference b c t).lower
unfolding term_reference
reference_lower b c t = (cosine_unit (pos b *ℤ pos millennium +ℤ c *ℤ t) (parts * millennium) (omega arith)).positive

term_lower : (t : ℤ) (i : ℕ) (x : Term) → pos 0 ≺ (exact_term t i x).lower
unfolding exact_term ◌*ᶠ◌
term_lower t i x =
    product_pos (pos 1 *ℤ (powerᶠ (tau t) i).lower) (term_reference x.b x.c t).lower
    (product_pos (pos 1) (powerᶠ (tau t) i).lower (record { lt = tt }) (power_lower t millennium i (omega arith)))
    (reference_lower x.b x.c t)

block_lower : (t : ℤ) (i : ℕ) (xs : List Term) → pos 0 ≺ (exact_block t i xs).lower
unfolding exact_block ◌+ᶠ◌
block_lower t i [] = record { lt = tt }
block_lower t i (x ∷ xs) = product_pos (exact_term t i x).lower (exact_block t i xs).lower (term_lower t i x) (block_lower t i xs)

sum_lower : (t : ℤ) (i : ℕ) (bs : List (List Term)) → pos 0 ≺ (exact_sum t i bs).lower
unfolding exact_sum ◌+ᶠ◌
sum_lower t i [] = record { lt = tt }
sum_lower t i (b ∷ bs) = product_pos _ _ (block_lower t i b) (sum_lower t _ bs)

pub longitude_lower : (t : ℤ) (blocks : List (List Term)) → pos 0 ≺ (exact_longitude t blocks).lower
unfolding exact_longitude
longitude_lower t blocks = sum_lower t 0 (longitude_blocks blocks)

pub latitude_lower : (t : ℤ) (blocks : List (List Term)) → pos 0 ≺ (exact_latitude t blocks).lower
unfolding exact_latitude
latitude_lower t blocks = sum_lower t 0 (latitude_blocks blocks)

pub radius_lower : (t : ℤ) (blocks : List (List Term)) → pos 0 ≺ (exact_radius t blocks).lower
unfolding exact_radius
radius_lower t blocks = sum_lower t 0 (radius_blocks blocks)
