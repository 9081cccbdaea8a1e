-- The number that the list has for what is done to a byte. Held by the code, no part of the rules.
use Rattle.std.specs.Prelude.{ℕ}
use Rattle.mending.specs.declared.writing.Kind.{Kind}
use Rattle.mending.specs.declared.writing.Kind.TheVariants.{Dropped, Spaced}
use Rattle.mending.specs.Rule.{drop_kind, space_kind}

abbrev pub kind_number : Kind → ℕ
kind_number Dropped = drop_kind
kind_number Spaced = space_kind
