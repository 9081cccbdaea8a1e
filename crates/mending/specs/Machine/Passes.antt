-- What each of the two passes keeps from byte to byte: what it has done and what the rest of the text gives are the whole.
use Rattle.std.specs.Prelude.{◌≡◌, Bool, true, false, cond, List, ◌++◌, ℕ, ◌+◌, ◌-◌, ◌≤◌, ◌<◌, ltb, length, get_or, take, drop}
use Rattle.std.proofs.lemmas.List.Edits.{sets}
use Rattle.std.proofs.Math.Seq.{slice}
use Rattle.series_lines.specs.Grammar.{feed}
use Rattle.mending.specs.declared.counting.Counting.{Counting}
use Rattle.mending.specs.declared.writing.Writing.{Writing}
use Rattle.mending.specs.Rule.{blank, mended_from, mended, changes_from, changes, numbers}
use Rattle.mending.specs.Machine.Runs.{Pending, tab_changes, Room}

-- The counts where no blanks are held back.
abbrev pub no_run : Bool → ℕ → ℕ → ℕ → Counting
no_run begun from bytes changes = record { begun = begun; from = from; tabs = 0; length = bytes; changes = changes }

-- The bytes before i are counted; those of a run that is held back are not, but its tabs are known.
pub record Counted (text : List ℕ) (c : Counting) (i : ℕ) : Type 0 where
  pub run : Pending text c.from i
  pub tabs_are : c.tabs ≡ length (tab_changes c.from (slice c.from i text))
  pub few_tabs : c.tabs ≤ i - c.from
  pub few_bytes : c.length ≤ c.from
  pub few_changes : c.changes ≤ c.from
  pub all_bytes : c.length + length (mended_from c.begun (drop c.from text)) ≡ length (mended text)
  pub all_changes : c.changes + length (changes_from c.begun c.from (drop c.from text)) ≡ length (changes text)

-- What is still to be written: bytes, and numbers of the list.
abbrev pub bytes_left : List ℕ → Writing → List ℕ
bytes_left text w = mended_from w.begun (drop w.from text)

abbrev pub numbers_left : List ℕ → Writing → List ℕ
numbers_left text w = numbers (changes_from w.begun w.from (drop w.from text))

-- The bytes before i are written, and there is room for what is left.
pub record Ready (text : List ℕ) (w : Writing) (i : ℕ) (out list : List ℕ) : Type 0 where
  pub run : Pending text w.from i
  pub room : Room (bytes_left text w) w.place.at out
  pub list_room : Room (numbers_left text w) w.place.slot list

-- Of numbers xs from at in a buffer start, the numbers ys are left to write, from p in the buffer out.
pub record Rest (xs : List ℕ) (at : ℕ) (start ys : List ℕ) (p : ℕ) (out : List ℕ) : Type 0 where
  pub count : p + length ys ≡ at + length xs
  pub written : sets out p ys ≡ sets start at xs
  pub same : length out ≡ length start

-- Byte i is neither a blank nor a line feed; byte i is a line feed.
pub record Stays (text : List ℕ) (i : ℕ) : Type 0 where
  pub inside : i < length text
  pub no_blank : blank (get_or text i 0) ≡ false
  pub no_feed : get_or text i 0 ≡ feed → ⊥

pub record Feeds (text : List ℕ) (i : ℕ) : Type 0 where
  pub inside : i < length text
  pub is_feed : get_or text i 0 ≡ feed

-- What is still to be written of a line that is begun, with no blanks held back.
abbrev pub plain_left : List ℕ → ℕ → List ℕ
plain_left text i = mended_from true (drop i text)

-- The bytes from i up to j stay as they are, in such a line.
pub record Plain (text : List ℕ) (i j : ℕ) : Type 0 where
  pub onward : i ≤ j
  pub within : j ≤ length text
  pub bytes : plain_left text i ≡ take (j - i) (drop i text) ++ plain_left text j
  pub changes : changes_from true i (drop i text) ≡ changes_from true j (drop j text)

-- They are written as they are.
pub record Copied (text : List ℕ) (i at : ℕ) (out : List ℕ) (j to : ℕ) (after : List ℕ) : Type 0 where
  pub plain : Plain text i j
  pub bytes : Rest (plain_left text i) at out (plain_left text j) to after

-- The byte after byte i that is looked at next: those before from are done.
unfoldable pub next_byte : ℕ → ℕ → ℕ
next_byte from i = cond (ltb i from) from (i + 1)

-- From w one has come to v before the byte i.
pub record Came (text : List ℕ) (w : Writing) (out list : List ℕ) (v : Writing) (i : ℕ) (out_after list_after : List ℕ) : Type 0 where
  pub run : Pending text v.from i
  pub bytes : Rest (bytes_left text w) w.place.at out (bytes_left text v) v.place.at out_after
  pub changes : Rest (numbers_left text w) w.place.slot list (numbers_left text v) v.place.slot list_after
