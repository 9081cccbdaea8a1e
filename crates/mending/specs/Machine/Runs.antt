-- Runs of blanks, which the code holds back until it knows what follows them, and what was written of a buffer.
use Rattle.std.specs.Prelude.{◌≡◌, true, cond, List, [], ◌∷◌, ◌++◌, ℕ, zero, suc, ◌+◌, ◌≤◌, eqb, length}
use Rattle.std.proofs.lemmas.List.Edits.{sets}
use Rattle.std.proofs.Math.Seq.{slice}
use Rattle.mending.specs.Rule.{tab, blank, Fate, stays, spaced, left, Change, drop_kind, listed, numbers}

pub data Blanks : List ℕ → Type 0 where
  none : Blanks []
  more : {byte : ℕ} {after : List ℕ} → blank byte ≡ true → Blanks after → Blanks (byte ∷ after)

-- The bytes from from up to i are blanks that are held back.
pub record Pending (text : List ℕ) (from i : ℕ) : Type 0 where
  pub onward : from ≤ i
  pub within : i ≤ length text
  pub blanks : Blanks (slice from i text)

-- What becomes of a blank that no line feed follows; then a run of such blanks, its tabs made spaces, and the changes that this takes.
unfoldable pub spared : ℕ → Fate
spared byte = cond (eqb byte tab) spaced stays

unfoldable pub spared_run : List ℕ → List ℕ
spared_run [] = []
spared_run (byte ∷ after) = left (spared byte) byte ++ spared_run after

unfoldable pub tab_changes : ℕ → List ℕ → List Change
tab_changes at [] = []
tab_changes at (byte ∷ after) = listed at (spared byte) ++ tab_changes (at + 1) after

-- So many bytes dropped, one after the other.
unfoldable pub drops : ℕ → ℕ → List Change
drops at zero = []
drops at (suc n) = record { offset = at; kind = drop_kind } ∷ drops (at + 1) n

-- There is room for some numbers from at.
abbrev pub Room : List ℕ → ℕ → List ℕ → Type 0
Room xs at out = at + length xs ≤ length out

-- Numbers were written from at: the index past them, and the buffer after it.
pub record Wrote (xs : List ℕ) (at : ℕ) (out : List ℕ) (to : ℕ) (after : List ℕ) : Type 0 where
  pub end : to ≡ at + length xs
  pub holds : after ≡ sets out at xs

-- A run that stays, in both buffers.
abbrev pub run_bytes : List ℕ → ℕ → ℕ → List ℕ
run_bytes text from end = spared_run (slice from end text)

abbrev pub run_numbers : List ℕ → ℕ → ℕ → List ℕ
run_numbers text from end = numbers (tab_changes from (slice from end text))
