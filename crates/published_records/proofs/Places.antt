-- Where a column lies, and what a row does there. Assumes nothing.
use mathlib.Core.Path.{◌≡◌}
use Prim.Native.Nat.{ℕ, ◌+◌, ◌-◌, ◌≤◌, ◌<◌}
use native.Mathlib.Omega.{arith}
use Rattle.std.proofs.lemmas.Bool.Decides.{nat_tests}
use Rattle.published_records.specs.declared.Row.{Row}
use Rattle.published_records.specs.Layout.{a_first, a_last, b_first, b_last, c_first, c_last}
use Rattle.published_records.specs.Rows.{column_limit, decimal_column, term_column, next_column, entered}

pub next_one : (c : ℕ) → c < column_limit → next_column c ≡ c + 1
unfolding next_column
next_one c h = grind (arith, nat_tests)

pub not_entered : (r : Row) → (r.column ≡ a_first → ⊥) → (r.column ≡ b_first → ⊥) → (r.column ≡ c_first → ⊥) → entered r ≡ r
unfolding entered
not_entered r a b c = grind (arith, nat_tests)

-- The fields of a, b and c.
pub column_a : (k : ℕ) → a_first ≤ k → k ≤ a_last → term_column k ≡ decimal_column (a_last - k)
unfolding term_column
column_a k p h = grind (arith, nat_tests)

pub column_b : (k : ℕ) → a_last < k → k ≤ b_last → term_column k ≡ decimal_column (b_last - k)
unfolding term_column
column_b k p h = grind (arith, nat_tests)

pub column_c : (k : ℕ) → b_last < k → k ≤ c_last → term_column k ≡ decimal_column (c_last - k)
unfolding term_column
column_c k p h = grind (arith, nat_tests)
