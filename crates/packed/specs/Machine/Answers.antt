-- What the functions of this crate answer for what the definitions of Series read: the offset past it stands for the bytes from
-- there.
use Rattle.std.specs.Prelude.{◌≡◌, List, map, ℕ, ◌≤◌, set, nat_abs}
use Rattle.std.proofs.lemmas.List.Edits.{sets}
use Rattle.units.specs.Units.{series_limit}
use Rattle.packed_numbers.specs.declared.quick.PackedTerm.{PackedTerm}
use Rattle.packed_numbers.specs.Numbers.{Read, got, bad, folded, unfolded}
use Rattle.limits.specs.declared.Term.{Term}
use Rattle.limits.specs.declared.Sizes.{Sizes}
use Rattle.limits.specs.declared.Tally.{Tally}
use Rattle.limits.specs.Machine.Magnitudes.{factor_limit}

-- A term as it is packed, the term that it is, and the sizes of its numbers.
abbrev pub packed_term : Term → PackedTerm
packed_term t = record { a = folded t.a; b = t.b; c = folded t.c }

abbrev pub term_of : ℕ → ℕ → ℕ → Term
term_of a b c = record { a = unfolded a; b = b; c = unfolded c }

abbrev pub packed_sizes : PackedTerm → Sizes
packed_sizes t = record { a = nat_abs (unfolded t.a); b = t.b; c = nat_abs (unfolded t.c) }

-- The terms of a table with the term that was read at place k.
unfoldable pub stored : ℕ → Read Term → List PackedTerm → List PackedTerm
stored k (got t at rest) rows = set rows k (packed_term t)
stored k (bad r) rows = rows

-- What reading the terms of a block asks: they go from place from up to the number of terms declared, within the table.
pub record Begun (f : ℕ) (tally : Tally) (from : ℕ) : Type 0 where
  pub small : f ≤ factor_limit
  pub from_there : from ≤ tally.terms
  pub few : tally.terms ≤ series_limit

-- After terms that were read the table holds them from place k on, and else what it held. After a refusal nothing is said of its terms.
unfoldable pub filled : ℕ → Read (List Term) → List PackedTerm → List PackedTerm → Type 0
filled k (got ts at rest) before after = after ≡ sets before k (map packed_term ts)
filled k (bad r) before after = Unit
