-- What the code asks of the bytes of a record that are taken in a run. Held by the code, no part of the rules.
use Rattle.std.specs.Prelude.{false, List, ◌≡◌, ℕ, ◌+◌, ◌≤◌, drop}
use Rattle.series_lines.specs.Reader.{reading, last_offset}
use Rattle.published.specs.declared.Published.{Published}
use Rattle.published.specs.Reader.{complete, run}

-- A reader that reads on and can count so many bytes.
pub record Counts (p : Published) (n : ℕ) : Type 0 where
  pub reads : p.reader.status ≡ reading
  pub unplaced : p.reader.place ≡ 0
  pub goes_on : complete p ≡ false
  pub counts : p.reader.at + n ≤ last_offset

-- A reader q that goes on from next as p does from an index before it.
pub record GoesOn (p : Published) (text : List ℕ) (from : ℕ) (q : Published) (next : ℕ) : Type 0 where
  pub onward : from ≤ next
  pub same : (out : List ℕ) → run q out (drop next text) ≡ run p out (drop from text)
