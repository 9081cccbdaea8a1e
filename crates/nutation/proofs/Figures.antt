-- Nutation and obliquity at 2005-01-01 0h and at the earliest instant, computed from the definitions. Assumes nothing.
use mathlib.Core.Path.{◌≡◌, refl}
use mathlib.Core.List.{List, [], ◌∷◌}
use lib.IntN.{ℤ, pos, neg_ℤ}
use Rattle.integers.specs.Division.{floor, rounded, modulo}
use Rattle.units.specs.Units.{t_limit}
use Rattle.cosine.specs.Cosine.{q_of, r_of, w_of, y_of, horner, even_part, odd_part, cosine_by, sine_by, working_cosine, working_sine, cosine, sine}
use Rattle.direction.specs.Angles.{units_angle}
use Rattle.nutation_table.specs.Table.{rows}
use Rattle.nutation.specs.Nutation.{polynomial, mean_elongation, sun_anomaly, moon_anomaly, latitude_argument, moon_node, row_argument, row_angle}
use Rattle.nutation.specs.Nutation.{coefficient, longitude_term, obliquity_term, add_up, longitude_nutation, obliquity_nutation, mean_obliquity}
use Rattle.nutation.specs.Nutation.{true_obliquity, nutation_angle, obliquity_angle}

-- The sums, the mean and the true obliquity in 10^-5 arcsecond, and the two angles in 10^-16 radian.
unfoldable pub figures_at : ℤ → List ℤ
figures_at t = longitude_nutation t ∷ obliquity_nutation t ∷ mean_obliquity t ∷ true_obliquity t ∷ nutation_angle t ∷ obliquity_angle t ∷ []

pub figures : figures_at (pos 157809600000) ∷ figures_at (neg_ℤ (pos t_limit)) ∷ []
    ≡ (neg_ℤ (pos 741297) ∷ pos 759608 ∷ pos 8437910693 ∷ pos 8438670301 ∷ neg_ℤ (pos 359390927365) ∷ pos 4091182812297526 ∷ [])
    ∷ (neg_ℤ (pos 1691705) ∷ neg_ℤ (pos 93915) ∷ pos 8613707200 ∷ pos 8613613285 ∷ neg_ℤ (pos 820161728401) ∷ pos 4175997564354853 ∷ []) ∷ []
unfolding figures_at floor rounded modulo q_of r_of w_of y_of horner even_part odd_part cosine_by sine_by working_cosine working_sine cosine sine
    units_angle rows polynomial mean_elongation sun_anomaly moon_anomaly latitude_argument moon_node row_argument row_angle coefficient longitude_term
    obliquity_term add_up longitude_nutation obliquity_nutation mean_obliquity true_obliquity nutation_angle obliquity_angle
figures = refl
