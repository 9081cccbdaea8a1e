-- RULES, "Mending": what becomes of each byte of a text, the mended text, and the list of changes. mending_promises says the same of each byte
-- in words of lines (specs/Bytes.antt), says anew what a change means (specs/Made.antt), and proves both.
use Rattle.std.specs.Prelude.{Bool, true, false, cond, List, [], ◌∷◌, ◌++◌, ℕ, ◌+◌, eqb}
use Rattle.series_lines.specs.Grammar.{feed, space}

-- A tab, and a carriage return; `feed` and `space` are those of the grammar.
abbrev pub tab : ℕ
tab = 9

abbrev pub carriage_return : ℕ
carriage_return = 13

-- The three bytes that are dropped before a line feed.
unfoldable pub blank : ℕ → Bool
blank byte = cond (eqb byte tab) true (cond (eqb byte carriage_return) true (eqb byte space))

-- A line feed comes next, or after nothing but blanks.
unfoldable pub blank_to_feed : List ℕ → Bool
blank_to_feed [] = false
blank_to_feed (byte ∷ after) = cond (eqb byte feed) true (cond (blank byte) (blank_to_feed after) false)

-- What becomes of a byte.
pub data Fate : Type 0 where
  stays : Fate
  dropped : Fate
  spaced : Fate

-- Of a byte of the input, by the bytes after it; begun: its line holds a byte before it that is not dropped.
unfoldable pub fate : Bool → ℕ → List ℕ → Fate
fate begun byte after =
    cond (eqb byte feed) (cond begun stays dropped)
    (cond (blank byte) (cond (blank_to_feed after) dropped (cond (eqb byte tab) spaced stays))
    stays)

-- The line goes on, and is begun now or was before.
unfoldable pub begins : Fate → Bool → Bool
begins stays begun = true
begins dropped begun = begun
begins spaced begun = true

unfoldable pub begun_after : Bool → ℕ → List ℕ → Bool
begun_after begun byte after = cond (eqb byte feed) false (begins (fate begun byte after) begun)

-- What a byte leaves in the output.
unfoldable pub left : Fate → ℕ → List ℕ
left stays byte = byte ∷ []
left dropped byte = []
left spaced byte = space ∷ []

-- The mended text: of some bytes, then of a whole text.
unfoldable pub mended_from : Bool → List ℕ → List ℕ
mended_from begun [] = []
mended_from begun (byte ∷ after) = left (fate begun byte after) byte ++ mended_from (begun_after begun byte after) after

abbrev pub mended : List ℕ → List ℕ
mended text = mended_from false text

-- A change: the offset of a byte in the input, and what is done to it.
pub record Change : Type 0 where
  pub offset : ℕ
  pub kind : ℕ

abbrev pub drop_kind : ℕ
drop_kind = 0

abbrev pub space_kind : ℕ
space_kind = 1

-- What is listed of a byte.
unfoldable pub listed : ℕ → Fate → List Change
listed at stays = []
listed at dropped = record { offset = at; kind = drop_kind } ∷ []
listed at spaced = record { offset = at; kind = space_kind } ∷ []

-- The changes, in order: of some bytes from an offset on, then of a whole text.
unfoldable pub changes_from : Bool → ℕ → List ℕ → List Change
changes_from begun at [] = []
changes_from begun at (byte ∷ after) = listed at (fate begun byte after) ++ changes_from (begun_after begun byte after) (at + 1) after

abbrev pub changes : List ℕ → List Change
changes text = changes_from false 0 text

-- The list as it is lent has so many numbers for each change: its offset, then its kind.
abbrev pub change_numbers : ℕ
change_numbers = 2

unfoldable pub numbers : List Change → List ℕ
numbers [] = []
numbers (c ∷ cs) = c.offset ∷ (c.kind ∷ numbers cs)
