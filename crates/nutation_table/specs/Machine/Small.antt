-- How many rows the table has, and the size of a row's numbers.
use Rattle.std.specs.Prelude.{ℕ, ◌≤◌, nat_abs}
use Rattle.nutation_table.specs.declared.Row.{Row}
use Rattle.nutation_table.specs.Table.{psi, psi_rate, eps, eps_rate, times_d, times_m, times_m1, times_f, times_node}

abbrev pub row_count : ℕ
row_count = 106

-- The greatest figure of the table, the greatest rate, and the greatest multiplier.
abbrev pub figure_limit : ℕ
figure_limit = 171996

abbrev pub rate_limit : ℕ
rate_limit = 1742

abbrev pub multiplier_limit : ℕ
multiplier_limit = 4

-- No number of a row is greater.
pub record Small (r : Row) : Type 0 where
  pub psi_small : nat_abs (psi r) ≤ figure_limit
  pub psi_rate_small : nat_abs (psi_rate r) ≤ rate_limit
  pub eps_small : nat_abs (eps r) ≤ figure_limit
  pub eps_rate_small : nat_abs (eps_rate r) ≤ rate_limit
  pub d_small : nat_abs (times_d r) ≤ multiplier_limit
  pub m_small : nat_abs (times_m r) ≤ multiplier_limit
  pub m1_small : nat_abs (times_m1 r) ≤ multiplier_limit
  pub f_small : nat_abs (times_f r) ≤ multiplier_limit
  pub node_small : nat_abs (times_node r) ≤ multiplier_limit
