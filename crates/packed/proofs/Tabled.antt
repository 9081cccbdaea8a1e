-- What a caller finds in a table that holds a series: each block between its ends, the ends rising. Assumes nothing.
use mathlib.Core.Path.{◌≡◌, refl, ap, ◌∙◌}
use mathlib.Core.List.{List, [], ◌∷◌}
use Prim.Native.Nat.{ℕ, zero, suc, ◌+◌, ◌-◌, ◌≤◌, ◌<◌}
use native.Mathlib.Omega.{arith}
use lib.ListN.{length, get_or}
use Rattle.limits.specs.declared.Term.{Term}
use Rattle.units.specs.Units.{series_limit, block_count}
use Rattle.limits.specs.Allowed.{term_count, Allowed}
use Rattle.packed.specs.declared.table.Table.{Table}
use Rattle.packed.specs.Machine.Table.{terms_at, blocks_at, ends, table_blocks, block_ends, Holds}

-- Where block j starts, which is where the one before it ends, and where it ends.
abbrev pub block_start : Table → ℕ → ℕ
block_start rows j = get_or (0 ∷ ends rows) j 0

abbrev pub block_end : Table → ℕ → ℕ
block_end rows j = get_or (ends rows) j 0

-- The ends, from row k on.
ends_length : (k : ℕ) (blocks : List (List Term)) → length (block_ends k blocks) ≡ length blocks
unfolding block_ends
ends_length k [] = refl
ends_length k (ts ∷ blocks) = ap suc (ends_length (k + length ts) blocks)

ends_rise : (k : ℕ) (blocks : List (List Term)) (j : ℕ) → j < length blocks → get_or (k ∷ block_ends k blocks) j 0 ≤ get_or (block_ends k blocks) j 0
unfolding block_ends
ends_rise k [] j h = absurd (omega arith)
ends_rise k (ts ∷ blocks) zero h = omega arith
ends_rise k (ts ∷ blocks) (suc j) h = ends_rise (k + length ts) blocks j (omega arith)

ends_below : (k : ℕ) (blocks : List (List Term)) (j : ℕ) → j < length blocks → get_or (block_ends k blocks) j 0 ≤ k + term_count blocks
unfolding block_ends term_count
ends_below k [] j h = absurd (omega arith)
ends_below k (ts ∷ blocks) zero h = omega arith
ends_below k (ts ∷ blocks) (suc j) h = let l = ends_below (k + length ts) blocks j (omega arith) in omega arith

block_is : (rows : Table) (k : ℕ) (es : List ℕ) (j : ℕ) → j < length es
    → get_or (blocks_at rows k es) j [] ≡ terms_at rows (get_or (k ∷ es) j 0) (get_or es j 0 - get_or (k ∷ es) j 0)
unfolding blocks_at
block_is rows k [] j h = absurd (omega arith)
block_is rows k (e ∷ es) zero h = refl
block_is rows k (e ∷ es) (suc j) h = block_is rows e es j (omega arith)

module _ (rows : Table) (blocks : List (List Term)) (holds : Holds rows blocks) (allowed : Allowed blocks) (j : ℕ) (h : j < block_count) where
  -- Block j ends at or after its start, within the table.
  pub rising : block_start rows j ≤ block_end rows j
  rising = rw holds.places (ends_rise 0 blocks j (rw allowed.eighteen h))

  pub within_table : block_end rows j ≤ series_limit
  within_table =
      let b = ends_below 0 blocks j (rw allowed.eighteen h) in
      rw holds.places (omega (arith, b, allowed.few))

  -- Its terms are those between.
  pub block_there : get_or blocks j [] ≡ terms_at rows (block_start rows j) (block_end rows j - block_start rows j)
  unfolding table_blocks
  block_there =
      let n : length (ends rows) ≡ block_count = ap length holds.places ∙ ends_length 0 blocks ∙ allowed.eighteen in
      rw (← holds.table) (block_is rows 0 (ends rows) j (rw n h))
