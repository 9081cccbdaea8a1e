-- What the code asks of a term table: it holds a series within the limits.
use Rattle.std.specs.Prelude.{◌≡◌, List}
use Rattle.limits.specs.declared.Term.{Term}
use Rattle.limits.specs.Allowed.{Allowed}
use Rattle.packed.specs.Series.{Parsed, accepted, refused}
use Rattle.packed.specs.declared.table.Table.{Table as Terms}
use Rattle.packed.specs.Machine.Table.{Holds, table_blocks}

pub record Table (rows : Terms) : Type 0 where
  pub holds : Holds rows (table_blocks rows)
  pub allowed : Allowed (table_blocks rows)

-- The table of a series.
pub record TableOf (rows : Terms) (blocks : List (List Term)) : Type 0 where
  pub table : Table rows
  pub same : table_blocks rows ≡ blocks

-- The table after a packed series was read into it. After a refusal nothing is said of it.
unfoldable pub filled : Parsed → Terms → Type 0
filled (accepted blocks) rows = TableOf rows blocks
filled (refused r) rows = Unit
