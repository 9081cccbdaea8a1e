-- What is promised of mending, for every text.
use Rattle.std.specs.Prelude.{◌≡◌, List, [], ◌∷◌, ◌++◌, ℕ, ◌≤◌, length}
use Rattle.series_lines.specs.declared.Outcome.TheVariants.{Accepted}
use Rattle.series_lines.specs.Reader.{told}
use Rattle.text.specs.Reader.{whole}
use Rattle.mending.specs.Rule.{Fate, mended, changes}
use Rattle.mending_promises.specs.Bytes.{Right}
use Rattle.mending_promises.specs.Made.{said, made, Rising}
use Rattle.mending_promises.specs.Clean.{CleanText}

-- Proved for every text in proofs/Theorems.antt.
pub record Mends (text : List ℕ) : Type 0 where
  -- Who makes the changes of the list to the input has the output, byte for byte.
  pub exact : made (changes text) text ≡ mended text
  -- Their offsets rise, each that of a byte of the input; so each is named once.
  pub rising : Rising 0 (length text) (changes text)
  -- The output has at most as many bytes, and the list at most as many changes, as the input has bytes.
  pub shorter : length (mended text) ≤ length text
  pub few : length (changes text) ≤ length text
  -- Wherever the text is parted, the list says of the byte there what is right for it, and nothing else is.
  pub each : (before : List ℕ) (byte : ℕ) (after : List ℕ) → text ≡ before ++ (byte ∷ after) → Right before byte after (said (changes text) (length before))
  pub alone : (before : List ℕ) (byte : ℕ) (after : List ℕ) (f : Fate) → text ≡ before ++ (byte ∷ after)
      → Right before byte after f → f ≡ said (changes text) (length before)
  -- The output is clean; a clean text is not changed, and its list has no change; so a second mending does nothing.
  pub clean : CleanText (mended text)
  pub same : CleanText text → (mended text ≡ text) × (changes text ≡ [])
  pub twice : (mended (mended text) ≡ mended text) × (changes (mended text) ≡ [])
  -- A text that the reader accepts, with any output, is clean, and so it is not changed either.
  pub accepted_clean : (out : List ℕ) (n : ℕ) → told (whole text out).reader ≡ Accepted n → CleanText text
  pub accepted_same : (out : List ℕ) (n : ℕ) → told (whole text out).reader ≡ Accepted n → (mended text ≡ text) × (changes text ≡ [])
