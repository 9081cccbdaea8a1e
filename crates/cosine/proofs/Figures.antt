-- The figures of the rules: the cosine at 0, at a quarter and at two quarters is U, 0 and -U. Assumes nothing.
use mathlib.Core.Path.{◌≡◌, refl}
use mathlib.Core.List.{[], ◌∷◌, map}
use Prim.Native.Nat.{◌*◌}
use lib.IntN.{pos, neg_ℤ}
use Rattle.integers.specs.Division.{rounded, floor, modulo}
use Rattle.units.specs.Units.{U, quarter}
use Rattle.cosine.specs.Cosine.{cosine_by, horner, y_of, even_part, odd_part, q_of, r_of, w_of, working_cosine, cosine}

pub figures : map cosine (pos 0 ∷ pos quarter ∷ pos (2 * quarter) ∷ []) ≡ pos U ∷ pos 0 ∷ neg_ℤ (pos U) ∷ []
unfolding cosine working_cosine cosine_by q_of r_of w_of rounded floor modulo even_part odd_part horner y_of
figures = refl
