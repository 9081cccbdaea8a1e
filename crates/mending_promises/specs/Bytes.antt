-- RULES, "Mending", of one byte of a text, in words of lines: before are the bytes before it, after those after it. The three blanks stand here by
-- their own numbers, and not by those of mending/specs/Rule.antt, which is held against this.
use Rattle.std.specs.Prelude.{◌≡◌, List, [], ◌∷◌, ◌++◌, ℕ}
use Rattle.series_lines.specs.Grammar.{feed}
use Rattle.mending.specs.Rule.{Fate, stays, dropped, spaced}

-- A carriage return, a tab or a space.
pub data Blank : ℕ → Type 0 where
  is_carriage_return : Blank 13
  is_tab : Blank 9
  is_space : Blank 32

-- Nothing but blanks.
unfoldable pub AllBlank : List ℕ → Type 0
AllBlank [] = Unit {0}
AllBlank (byte ∷ bytes) = Blank byte × AllBlank bytes

-- After the byte come only blanks, or nothing, before a line feed: a blank there belongs to the run before the line feed.
pub record RunToFeed (after : List ℕ) : Type 0 where
  pub blanks : List ℕ
  pub rest : List ℕ
  pub blank : AllBlank blanks
  pub is : after ≡ blanks ++ (feed ∷ rest)

-- The line, up to the byte, has only blanks, or nothing: a line feed there ends a line of which nothing is left.
pub data NothingLeft : List ℕ → Type 0 where
  first_line : {blanks : List ℕ} → AllBlank blanks → NothingLeft blanks
  later_line : (lines blanks : List ℕ) → AllBlank blanks → NothingLeft (lines ++ (feed ∷ blanks))

-- What becomes of the byte.
pub data Right (before : List ℕ) (byte : ℕ) (after : List ℕ) : Fate → Type 0 where
  -- Blanks that lead up to a line feed go, and so does the feed of a line of blanks.
  in_run : Blank byte → RunToFeed after → Right before byte after dropped
  blank_line : byte ≡ feed → NothingLeft before → Right before byte after dropped
  -- A tab anywhere else is a space afterwards.
  other_tab : byte ≡ 9 → (RunToFeed after → ⊥) → Right before byte after spaced
  -- All that is left stays: other carriage returns and spaces, other line feeds, other bytes.
  other_blank : Blank byte → (byte ≡ 9 → ⊥) → (RunToFeed after → ⊥) → Right before byte after stays
  other_feed : byte ≡ feed → (NothingLeft before → ⊥) → Right before byte after stays
  other_byte : (Blank byte → ⊥) → (byte ≡ feed → ⊥) → Right before byte after stays
