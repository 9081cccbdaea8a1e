-- The tallies after the blocks of a series, and what they say of the wide range.
use Rattle.std.specs.Prelude.{◌≡◌, Bool, List, [], ◌∷◌, ℕ, ◌+◌, Option, is_some}
use Rattle.limits.specs.declared.Term.{Term}
use Rattle.limits.specs.declared.Tally.{Tally}
use Rattle.limits.specs.Limits.{no_tally, after_block}
use Rattle.limits.specs.Allowed.{Allowed}
use Rattle.limits.specs.Machine.Widened.{widened}

-- The tallies after each of some blocks, the first of which is block k after the tally s.
unfoldable pub tally_rows : ℕ → Tally → List (List Term) → List Tally
tally_rows k s [] = []
tally_rows k s (ts ∷ blocks) = after_block k s ts ∷ tally_rows (k + 1) (after_block k s ts) blocks

-- The wide rule from block k on, after the tally s, judged by the tallies.
unfoldable pub wide_rows : ℕ → Option ℕ → Tally → List Tally → Bool
wide_rows k w s [] = is_some w
wide_rows k w s (after ∷ tallies) = wide_rows (k + 1) (widened k w s after) after tallies

-- They are the tallies of a series within the limits.
pub record Tallied (tallies : List Tally) : Type 0 where
  pub blocks : List (List Term)
  pub allowed : Allowed blocks
  pub are : tallies ≡ tally_rows 0 no_tally blocks
