-- One power of the running sum, from a block of the table: what its calls ask, and what it is. Assumes nothing.
use mathlib.Core.Path.{◌≡◌, sym, ap, ap₂, ◌∙◌, subst}
use mathlib.Core.List.{List, []}
use Prim.Native.Nat.{ℕ, ◌-◌, ◌+◌, ◌*◌, ◌^◌, ◌≤◌, ◌<◌}
use native.Mathlib.Omega.{arith}
use native.Mathlib.Nat.{mul-le-mul, lt_of_le_of_lt}
use lib.Dec.{lit<}
use lib.IntN.{ℤ, nat_abs, ◌+ℤ◌, ◌*ℤ◌}
use lib.ListN.{get_or}
use mir.Syntax.{w64}
use mir.Val.{SFits}
use Rattle.integers.specs.Division.{rounded}
use Rattle.arith.proofs.Cells.{Cell, cell, held_le}
use Rattle.units.specs.Units.{millennium, tau_limit, t_limit, total_limit, wide_total, series_limit, block_count}
use Rattle.limits.specs.declared.Term.{Term}
use Rattle.limits.specs.Allowed.{BlockFits}
use Rattle.packed.specs.declared.table.Table.{Table as Terms}
use Rattle.packed.specs.Machine.Table.{terms_at, table_blocks}
use Rattle.packed.proofs.Tabled.{block_start, block_end, rising, within_table, block_there}
use Rattle.pieces.specs.Sums.{block_sum}
use Rattle.pieces.proofs.Adding.{cells_fit, cells_are}
use Rattle.pieces.proofs.Sizes.{block_size}
use Rattle.series.specs.Machine.Table.{Table}
use Rattle.series.proofs.Sizes.{carried_size}

module _ (rows : Terms) (h : Table rows) (j : ℕ) (hj : j < block_count) where
  abbrev block : List Term
  block = get_or (table_blocks rows) j []

  pub inside : BlockFits block
  inside = h.allowed.fits j hj

  block_is : block ≡ terms_at rows (block_start rows j) (block_end rows j - block_start rows j)
  block_is = block_there rows (table_blocks rows) h.holds h.allowed j hj

  module _ (from to : ℕ) (e : from ≡ block_start rows j) (f : to ≡ block_end rows j) where
    pub sum_asks : (from ≤ to) × (to ≤ series_limit) × BlockFits (terms_at rows from (to - from))
    sum_asks =
        let bs = table_blocks rows in
        rw (e, f)
        (rising rows bs h.holds h.allowed j hj, within_table rows bs h.holds h.allowed j hj, subst BlockFits block_is inside)

    pub sum_is : (t s : ℤ) → s ≡ block_sum t (terms_at rows from (to - from)) → s ≡ block_sum t block
    sum_is t s g = g ∙ ap₂ (λ (x y : ℕ). block_sum t (terms_at rows x (y - x))) e f ∙ ap (block_sum t) (sym block_is)

module _ (t v : ℤ) (ht : nat_abs t ≤ t_limit) (hv : nat_abs v ≤ 341 * wide_total) where
  t_cell : Cell t ≡ t
  t_cell = cell t (omega arith)

  v_cell : Cell v ≡ v
  v_cell = cell v (omega arith)

  pub carried_asks : (0 < millennium) × (millennium ≤ 2 ^ 47) × (nat_abs (Cell t) ≤ 2 ^ 47)
      × (nat_abs (Cell v) * nat_abs (Cell t) < millennium * (2 ^ 63 - 1))
  carried_asks = (
    omega arith,
    omega arith,
    held_le t (2 ^ 47) (omega arith) (omega arith),
    rw (t_cell, v_cell) (lt_of_le_of_lt (mul-le-mul hv ht) (lit< tt)),
  )

  module _ (b : List Term) (hb : BlockFits b) (s r : ℤ)
      (es : s ≡ block_sum t b) (er : r ≡ rounded (Cell v *ℤ Cell t) millennium) where
    s_size : nat_abs s ≤ total_limit
    s_size = subst (λ (z : ℤ). nat_abs z ≤ total_limit) (sym es) (let m = block_size t b in let n = hb.total in omega arith)

    r_is : r ≡ rounded (v *ℤ t) millennium
    r_is = er ∙ ap₂ (λ (x y : ℤ). rounded (x *ℤ y) millennium) v_cell t_cell

    r_size : nat_abs r ≤ 1364 * wide_total
    r_size = subst (λ (z : ℤ). nat_abs z ≤ 1364 * wide_total) (sym r_is) (let m = carried_size tau_limit v t ht in omega arith)

    small : nat_abs s + nat_abs r < 2 ^ 63
    small = let m = s_size in let n = r_size in omega arith

    pub step_fits : SFits w64 (Cell s +ℤ Cell r)
    step_fits = cells_fit s r small

    pub step_is : (w : ℤ) → w ≡ Cell s +ℤ Cell r → Cell w ≡ block_sum t b +ℤ rounded (v *ℤ t) millennium
    step_is w e = cells_are s r small w e ∙ ap₂ ◌+ℤ◌ es r_is
