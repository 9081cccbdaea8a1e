-- Every row of the table is small: one number, computed over the table. Assumes nothing.
use mathlib.Core.Path.{◌≡◌, refl, sym, subst}
use mathlib.Core.List.{List, [], ◌∷◌}
use Prim.Native.Nat.{ℕ, zero, suc, ◌+◌, ◌-◌}
use native.Mathlib.Omega.{arith}
use lib.IntN.{nat_abs}
use lib.ListN.{get_or}
use Rattle.nutation_table.specs.declared.Row.{Row}
use Rattle.nutation_table.specs.Table.{psi, psi_rate, eps, eps_rate, times_d, times_m, times_m1, times_f, times_node, rows, no_row}
use Rattle.nutation_table.specs.Machine.Small.{figure_limit, rate_limit, multiplier_limit, Small}

-- by how much the numbers of a row pass their limits, all together
figures_over : Row → ℕ
figures_over r = (nat_abs (psi r) - figure_limit) + (nat_abs (psi_rate r) - rate_limit) + (nat_abs (eps r) - figure_limit) + (nat_abs (eps_rate r) - rate_limit)

multipliers_over : Row → ℕ
multipliers_over r = (nat_abs (times_d r) - multiplier_limit) + (nat_abs (times_m r) - multiplier_limit) + (nat_abs (times_m1 r) - multiplier_limit)
    + (nat_abs (times_f r) - multiplier_limit) + (nat_abs (times_node r) - multiplier_limit)

is_small : (r : Row) → figures_over r ≡ 0 → multipliers_over r ≡ 0 → Small r
unfolding figures_over multipliers_over
is_small r e f = record {
  psi_small = omega arith;
  psi_rate_small = omega arith;
  eps_small = omega arith;
  eps_rate_small = omega arith;
  d_small = omega arith;
  m_small = omega arith;
  m1_small = omega arith;
  f_small = omega arith;
  node_small = omega arith;
}

all_over : List Row → ℕ
all_over [] = 0
all_over (r ∷ rs) = figures_over r + multipliers_over r + all_over rs

at : (rs : List Row) → all_over rs ≡ 0 → (i : ℕ) → Small (get_or rs i no_row)
unfolding all_over
at [] e i = nothing
  where
    nothing : Small no_row
    nothing = unfold figures_over multipliers_over in is_small no_row refl refl
at (r ∷ rs) e zero = is_small r (omega arith) (omega arith)
at (r ∷ rs) e (suc i) = at rs (omega arith) i

rows_small : (i : ℕ) → Small (get_or rows i no_row)
unfolding all_over figures_over multipliers_over rows
rows_small i = at rows refl i

-- what `row_at` answers
pub found : (i : ℕ) (r : Row) → r ≡ get_or rows i no_row → (r ≡ get_or rows i no_row) × Small r
found i r e = (e, subst Small (sym e) (rows_small i))
