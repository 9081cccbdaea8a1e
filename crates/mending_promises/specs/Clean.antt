-- Texts that need no mending.
use Rattle.std.specs.Prelude.{◌≡◌, List, [], ◌∷◌, ◌++◌, ℕ}
use Rattle.series_lines.specs.Grammar.{feed}
use Rattle.mending_promises.specs.Bytes.{Blank}

-- Bytes that end with one that is neither a blank nor a line feed.
pub record EndsPlain (bytes : List ℕ) : Type 0 where
  pub start : List ℕ
  pub last : ℕ
  pub is : bytes ≡ start ++ (last ∷ [])
  pub no_blank : Blank last → ⊥
  pub no_feed : last ≡ feed → ⊥

-- No tab stands in it, and before each line feed such a byte.
pub record CleanText (text : List ℕ) : Type 0 where
  pub no_tab : (before after : List ℕ) → text ≡ before ++ (9 ∷ after) → ⊥
  pub feeds : (before after : List ℕ) → text ≡ before ++ (feed ∷ after) → EndsPlain before
