-- RULES, "Places": nutation and obliquity, by five arguments and a table of terms.
use Rattle.std.specs.Prelude.{List, [], ◌∷◌, ℕ, ◌*◌, ℤ, pos, ◌+ℤ◌, ◌*ℤ◌}
use Rattle.integers.specs.Division.{rounded}
use Rattle.units.specs.Units.{U, millennium}
use Rattle.cosine.specs.Cosine.{cosine, sine}
use Rattle.direction.specs.Angles.{units_angle}
use Rattle.nutation_table.specs.declared.Row.{Row}
use Rattle.nutation_table.specs.Table.{psi, psi_rate, eps, eps_rate, times_d, times_m, times_m1, times_f, times_node, neg, rows}

-- A polynomial in n/d, worked from its highest power down, each product rounded; the coefficients from the constant one up.
unfoldable pub polynomial : ℤ → ℕ → List ℤ → ℤ
polynomial n d [] = pos 0
polynomial n d (c ∷ cs) = c +ℤ rounded (polynomial n d cs *ℤ n) d

-- An argument at t milliseconds, in 10^-8 arcsecond: its polynomial is in centuries, so by 10t/T.
abbrev pub argument : ℤ → List ℤ → ℤ
argument t cs = polynomial (pos 10 *ℤ t) millennium cs

-- The coefficients of the arguments, in 10^-8 arcsecond, and of the mean obliquity, in 10^-5, each from the constant one up.
abbrev pub elongation_coefficients : List ℤ
elongation_coefficients = pos 107226073512000 ∷ pos 160296160146030000 ∷ neg 586810000 ∷ pos 659500 ∷ neg 3184 ∷ []

abbrev pub sun_coefficients : List ℤ
sun_coefficients = pos 128710479304800 ∷ pos 12959658104740000 ∷ neg 55290000 ∷ pos 14700 ∷ []

abbrev pub moon_coefficients : List ℤ
moon_coefficients = pos 48586828096800 ∷ pos 171791592347280000 ∷ pos 3238930000 ∷ pos 5165100 ∷ neg 24470 ∷ []

abbrev pub latitude_coefficients : List ℤ
latitude_coefficients = pos 33577955755200 ∷ pos 173952726309830000 ∷ neg 1225050000 ∷ neg 102100 ∷ pos 417 ∷ []

abbrev pub node_coefficients : List ℤ
node_coefficients = pos 45016039814400 ∷ neg 696289026560000 ∷ pos 747420000 ∷ pos 770200 ∷ neg 5939 ∷ []

abbrev pub obliquity_coefficients : List ℤ
obliquity_coefficients = pos 8438144800 ∷ neg 46815000 ∷ neg 5900 ∷ pos 181300 ∷ []

-- D, the Moon's mean elongation.
unfoldable pub mean_elongation : ℤ → ℤ
mean_elongation t = argument t elongation_coefficients

-- M, the Sun's mean anomaly.
unfoldable pub sun_anomaly : ℤ → ℤ
sun_anomaly t = argument t sun_coefficients

-- M', the Moon's mean anomaly.
unfoldable pub moon_anomaly : ℤ → ℤ
moon_anomaly t = argument t moon_coefficients

-- F, the Moon's argument of latitude.
unfoldable pub latitude_argument : ℤ → ℤ
latitude_argument t = argument t latitude_coefficients

-- The longitude of the Moon's ascending node.
unfoldable pub moon_node : ℤ → ℤ
moon_node t = argument t node_coefficients

-- s of a row: the arguments, each times the row's multiplier, added.
unfoldable pub row_argument : ℤ → Row → ℤ
row_argument t r =
    times_d r *ℤ mean_elongation t +ℤ times_m r *ℤ sun_anomaly t +ℤ times_m1 r *ℤ moon_anomaly t +ℤ times_f r *ℤ latitude_argument t
    +ℤ times_node r *ℤ moon_node t

-- The units in a turn: 10^-8 arcsecond for the arguments, 10^-5 for the sums.
abbrev pub argument_turn : ℕ
argument_turn = 360 * 3600 * 100000000

abbrev pub sum_turn : ℕ
sum_turn = 360 * 3600 * 100000

unfoldable pub row_angle : ℤ → Row → ℤ
row_angle t r = units_angle argument_turn (row_argument t r)

-- A coefficient in 10^-5 arcsecond, from a figure in 10^-4 and its rate a century.
unfoldable pub coefficient : ℤ → ℤ → ℤ → ℤ
coefficient t first rate = pos 10 *ℤ first +ℤ rounded (rate *ℤ (pos 10 *ℤ t)) millennium

-- The terms of a row.
unfoldable pub longitude_term : ℤ → Row → ℤ
longitude_term t r = rounded (coefficient t (psi r) (psi_rate r) *ℤ sine (row_angle t r)) U

unfoldable pub obliquity_term : ℤ → Row → ℤ
obliquity_term t r = rounded (coefficient t (eps r) (eps_rate r) *ℤ cosine (row_angle t r)) U

-- The terms of the rows, added to a sum in their order.
unfoldable pub add_up : (Row → ℤ) → ℤ → List Row → ℤ
add_up term sum [] = sum
add_up term sum (r ∷ rs) = add_up term (sum +ℤ term r) rs

-- The nutation in longitude and in obliquity, in 10^-5 arcsecond.
unfoldable pub longitude_nutation : ℤ → ℤ
longitude_nutation t = add_up (longitude_term t) (pos 0) rows

unfoldable pub obliquity_nutation : ℤ → ℤ
obliquity_nutation t = add_up (obliquity_term t) (pos 0) rows

-- The obliquity in 10^-5 arcsecond, mean and true. Its polynomial is in millennia, so by t/T.
unfoldable pub mean_obliquity : ℤ → ℤ
mean_obliquity t = polynomial t millennium obliquity_coefficients

unfoldable pub true_obliquity : ℤ → ℤ
true_obliquity t = mean_obliquity t +ℤ obliquity_nutation t

-- Both as angles, in 10^-16 radian.
unfoldable pub nutation_angle : ℤ → ℤ
nutation_angle t = units_angle sum_turn (longitude_nutation t)

unfoldable pub obliquity_angle : ℤ → ℤ
obliquity_angle t = units_angle sum_turn (true_obliquity t)
