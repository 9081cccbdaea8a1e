-- What the functions of this crate ask of each other and tell each other: sizes, and the arguments less whole turns.
use Rattle.std.specs.Prelude.{◌≡◌, List, [], ◌∷◌, ℕ, ◌+◌, ◌*◌, ◌/◌, ◌≤◌, ◌<◌, ◌^◌, ℤ, pos, nat_abs, ◌+ℤ◌, ◌*ℤ◌}
use Rattle.integers.specs.Division.{modulo}
use Rattle.units.specs.Units.{millennium, tau_limit}
use Rattle.nutation_table.specs.declared.Row.{Row}
use Rattle.nutation_table.specs.Table.{times_d, times_m, times_m1, times_f, times_node}
use Rattle.nutation_table.specs.Machine.Small.{row_count, figure_limit, rate_limit}
use Rattle.nutation.specs.declared.Arguments.{Arguments}
use Rattle.nutation.specs.declared.Nutation.{Nutation}
use Rattle.nutation.specs.Nutation.{mean_elongation, sun_anomaly, moon_anomaly, latitude_argument, moon_node, argument_turn}
use Rattle.nutation.specs.Nutation.{longitude_nutation, obliquity_nutation}

-- The divisor by which t, in place of 10t by T, is taken for the arguments: they are the same.
abbrev pub century : ℕ
century = millennium / 10

-- The greatest |t|, in centuries.
abbrev pub centuries : ℕ
centuries = 10 * tau_limit

-- No value of a polynomial by n/d with these coefficients is greater, where |n| is at most k times d.
unfoldable pub reach : ℕ → List ℤ → ℕ
reach k [] = 0
reach k (c ∷ cs) = nat_abs c + k * reach k cs

-- What a step by n/d takes: `mul_div_round` asks for 2^47.
pub record By (n : ℤ) (d : ℕ) : Type 0 where
  pub positive : 0 < d
  pub divisor : d ≤ 2 ^ 47
  pub factor : nat_abs n ≤ 2 ^ 47
  pub ratio : nat_abs n ≤ d * centuries

-- An argument less its whole turns.
unfoldable pub less_turns : ℤ → ℤ
less_turns a = pos (modulo a argument_turn)

-- The five arguments at t, less their whole turns.
pub record At (t : ℤ) (a : Arguments) : Type 0 where
  pub elongation_at : a.elongation ≡ less_turns (mean_elongation t)
  pub sun_at : a.sun ≡ less_turns (sun_anomaly t)
  pub moon_at : a.moon ≡ less_turns (moon_anomaly t)
  pub latitude_at : a.latitude ≡ less_turns (latitude_argument t)
  pub node_at : a.node ≡ less_turns (moon_node t)

-- No coefficient is greater, nor any term.
abbrev pub coefficient_limit : ℕ
coefficient_limit = 10 * figure_limit + centuries * rate_limit

-- Nor any sum of them.
abbrev pub sum_limit : ℕ
sum_limit = row_count * coefficient_limit

-- The nutation at t, and its size.
pub record NutationAt (t : ℤ) (n : Nutation) : Type 0 where
  pub longitude_is : n.longitude ≡ longitude_nutation t
  pub obliquity_is : n.obliquity ≡ obliquity_nutation t
  pub longitude_small : nat_abs n.longitude ≤ sum_limit
  pub obliquity_small : nat_abs n.obliquity ≤ sum_limit

-- A row's s, with arguments less their whole turns.
unfoldable pub combined : Row → Arguments → ℤ
combined r a = times_d r *ℤ a.elongation +ℤ times_m r *ℤ a.sun +ℤ times_m1 r *ℤ a.moon +ℤ times_f r *ℤ a.latitude +ℤ times_node r *ℤ a.node
