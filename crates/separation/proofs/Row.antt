-- What a row of the table gives: the inequalities in which the reference cosine c of k arcminutes, the thresholds and the width eps meet. Assumes nothing.
use Prim.Native.Nat.{◌+◌, ◌*◌, ◌-◌}
use lib.IntN.{ℤ, pos, ◌+ℤ◌, ◌-ℤ◌, ◌*ℤ◌}
use Rattle.integers.specs.Order.{◌≼◌, ◌≺◌}
use Rattle.integers.specs.Fractions.{Fraction}
use Rattle.units.specs.Units.{U}

-- How far the two working unit vectors may together lie from the exact directions, in 1/U.
abbrev pub eps : ℤ
eps = pos 130000

-- c is in (0, 1]; g bounds U times the sine; what is within k is listed with room to spare (t the threshold for k);
-- what is listed for k - 2 is within k with room to spare (t' the threshold for k - 2).
pub record Row (c : Fraction) (g t t' : ℤ) : Type 0 where
  pub positive : pos 0 ≺ c.upper
  pub some : pos 0 ≼ g
  pub at_most : c.upper ≼ c.lower
  pub sines : pos 1001 *ℤ pos (U * U) *ℤ (c.lower *ℤ c.lower -ℤ c.upper *ℤ c.upper) +ℤ pos 7000 *ℤ eps *ℤ eps *ℤ c.lower *ℤ c.lower
      ≼ pos 1000 *ℤ g *ℤ g *ℤ c.lower *ℤ c.lower
  pub reached : pos 2 *ℤ (c.lower -ℤ c.upper) *ℤ pos (2 * U * U + 8 * U) +ℤ (pos 7 *ℤ eps *ℤ g +ℤ pos 20 *ℤ eps *ℤ eps) *ℤ c.lower ≼ pos 2 *ℤ t *ℤ c.lower
  pub cleared : (pos 2 *ℤ t' +ℤ pos 7 *ℤ eps *ℤ g +ℤ pos 20 *ℤ eps *ℤ eps) *ℤ c.lower ≼ pos 2 *ℤ (c.lower -ℤ c.upper) *ℤ pos (2 * U * U - 8 * U)
