-- RULES, "Series, as text and packed", "Not too coarse": a packed series under the coarseness rule with any share, so that what was accepted
-- with another share can be said.
use Rattle.std.specs.Prelude.{◌≡◌, List, ℕ}
use Rattle.limits.specs.declared.Term.{Term}
use Rattle.limits.specs.Allowed.{AllowedBy}
use Rattle.packed.specs.Series.{pack}

-- The bytes are a series with these blocks, under the coarseness rule with that share.
pub record SeriesBy (share : ℕ) (bytes : List ℕ) (blocks : List (List Term)) : Type 0 where
  pub form : bytes ≡ pack blocks
  pub allowed : AllowedBy share blocks

-- The share when the turn had three figures fewer and the cosine's promise was 7/U: twice 7.
abbrev pub former_share : ℕ
former_share = 14
