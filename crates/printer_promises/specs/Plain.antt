-- RULES, "Series, as text and packed": which texts are plain, as to their spaces.
use Rattle.std.specs.Prelude.{◌≡◌, List, [], ◌∷◌, ℕ}
use Rattle.series_lines.specs.Grammar.{feed, space}

-- No space follows a space or a line feed, where the byte before the first is given.
unfoldable pub Spaced : ℕ → List ℕ → Type 0
Spaced before [] = Unit {0}
Spaced before (b ∷ bs) = (b ≡ space → (before ≡ space → ⊥) × (before ≡ feed → ⊥)) × Spaced b bs

-- Of a whole text: its first byte stands at the start of a line, as those after a line feed do.
abbrev pub PlainText : List ℕ → Type 0
PlainText text = Spaced feed text
