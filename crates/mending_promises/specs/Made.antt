-- The listed changes made to a text, from the numbers of a list as a caller finds them. All that a change means is said here anew, and nothing of it
-- taken from mending/specs/Rule.antt. The list may come from anywhere: what is said of an offset is what the first change with that offset says.
use Rattle.std.specs.Prelude.{cond, List, [], ◌∷◌, ◌++◌, ℕ, ◌+◌, ◌≤◌, ◌<◌, eqb}
use Rattle.mending.specs.Rule.{Fate, stays, dropped, spaced, Change}

-- The numbers of a list, two for each change: its offset, then its kind.
unfoldable pub read_off : List ℕ → List Change
read_off [] = []
read_off (n ∷ []) = []
read_off (offset ∷ (kind ∷ rest)) = record { offset = offset; kind = kind } ∷ read_off rest

-- What a list says of the byte at an offset: that it stays, where it does not name it; kind 0 drops it, any other makes it a space.
unfoldable pub said : List Change → ℕ → Fate
said [] at = stays
said (c ∷ cs) at = cond (eqb c.offset at) (cond (eqb c.kind 0) dropped spaced) (said cs at)

-- What is made of a byte: itself, nothing, or a space.
unfoldable pub made_of : Fate → ℕ → List ℕ
made_of stays byte = byte ∷ []
made_of dropped byte = []
made_of spaced byte = 32 ∷ []

-- Bytes, the first of them at an offset, with the changes made.
unfoldable pub made_from : List Change → ℕ → List ℕ → List ℕ
made_from cs at [] = []
made_from cs at (byte ∷ bytes) = made_of (said cs at) byte ++ made_from cs (at + 1) bytes

-- A whole text.
abbrev pub made : List Change → List ℕ → List ℕ
made cs text = made_from cs 0 text

-- The offsets rise, from at least at and below end: so each is named once, and is that of a byte. Each kind is 0 or 1.
unfoldable pub Rising : ℕ → ℕ → List Change → Type 0
Rising at end [] = Unit {0}
Rising at end (c ∷ cs) = (at ≤ c.offset) × (c.offset < end) × (c.kind < 2) × Rising (c.offset + 1) end cs
