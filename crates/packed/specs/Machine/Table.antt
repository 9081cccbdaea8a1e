-- A term table: the terms, as they are packed, a and c folded; and for each block the place where it ends.
use Rattle.std.specs.Prelude.{◌≡◌, List, [], ◌∷◌, ℕ, zero, suc, ◌+◌, ◌-◌, length, get_or}
use Rattle.packed_numbers.specs.declared.quick.PackedTerm.{PackedTerm}
use Rattle.packed_numbers.specs.Numbers.{unfolded}
use Rattle.limits.specs.declared.Term.{Term}
use Rattle.packed.specs.Series.{Parsed, accepted, refused}
use Rattle.packed.specs.declared.table.Table.{Table}

-- What is at place k of the terms.
abbrev pub packed_at : Table → ℕ → PackedTerm
packed_at table k = get_or table.terms k (record { a = 0; b = 0; c = 0 })

-- The term at place k.
unfoldable pub term_at : Table → ℕ → Term
term_at table k = record { a = unfolded (packed_at table k).a; b = (packed_at table k).b; c = unfolded (packed_at table k).c }

-- n terms from place k.
unfoldable pub terms_at : Table → ℕ → ℕ → List Term
terms_at table k zero = []
terms_at table k (suc n) = term_at table k ∷ terms_at table (k + 1) n

-- The blocks that end at these places, the first of which starts at place k.
unfoldable pub blocks_at : Table → ℕ → List ℕ → List (List Term)
blocks_at table k [] = []
blocks_at table k (e ∷ es) = terms_at table k (e - k) ∷ blocks_at table e es

-- The places where the blocks end.
abbrev pub ends : Table → List ℕ
ends table = table.ends

unfoldable pub table_blocks : Table → List (List Term)
table_blocks table = blocks_at table 0 (ends table)

-- Where the blocks of a series end, the first of which starts at place k.
unfoldable pub block_ends : ℕ → List (List Term) → List ℕ
block_ends k [] = []
block_ends k (ts ∷ blocks) = (k + length ts) ∷ block_ends (k + length ts) blocks

-- A table holds the blocks of a series.
pub record Holds (rows : Table) (blocks : List (List Term)) : Type 0 where
  pub table : table_blocks rows ≡ blocks
  pub places : ends rows ≡ block_ends 0 blocks

-- The table after a packed series was read into it. After a refusal nothing is said of it.
unfoldable pub unpacked : Parsed → Table → Type 0
unpacked (accepted blocks) table = Holds table blocks
unpacked (refused r) table = Unit
