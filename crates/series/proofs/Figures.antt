-- The figure of RULES, "Working cosine and sums": one constant term 3.00000000000 in L1, half a millennium before 2000, gives L = -1.5 radian. Assumes nothing.
use mathlib.Core.Path.{◌≡◌, refl}
use mathlib.Core.List.{List, [], ◌∷◌}
use lib.IntN.{pos, neg_ℤ}
use Rattle.integers.specs.Division.{floor, rounded, modulo}
use Rattle.cosine.specs.Cosine.{cosine_by, horner, y_of, even_part, odd_part, q_of, r_of, w_of, working_cosine, cosine}
use Rattle.cosine.specs.Terms.{term_angle, term_cosine, term_value}
use Rattle.limits.specs.declared.Term.{Term}
use Rattle.pieces.specs.Sums.{block_sum}
use Rattle.series.specs.Sums.{running_sum, longitude_blocks, latitude_blocks, radius_blocks, coordinates}

unfoldable pub constant_rate : List (List Term)
constant_rate = [] ∷ (record { a = pos 300000000000; b = 0; c = pos 0 } ∷ [])
    ∷ [] ∷ [] ∷ [] ∷ [] ∷ [] ∷ [] ∷ [] ∷ [] ∷ [] ∷ [] ∷ [] ∷ [] ∷ [] ∷ [] ∷ [] ∷ [] ∷ []

pub figures : coordinates (neg_ℤ (pos 15778800000000)) constant_rate ≡ record { longitude = neg_ℤ (pos 150000000000); latitude = pos 0; radius = pos 0 }
unfolding constant_rate coordinates longitude_blocks latitude_blocks radius_blocks running_sum block_sum term_value term_cosine term_angle cosine
    working_cosine cosine_by q_of r_of w_of rounded floor modulo even_part odd_part horner y_of
figures = refl
