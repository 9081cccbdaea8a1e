-- What the code asks of a reader that takes digits after a decimal's point in a run. Held by the code, no part of the rules.
use Rattle.std.specs.Prelude.{Bool, List, ◌≡◌, ℕ, ◌+◌, ◌≤◌, drop}
use Rattle.series_lines.specs.declared.Reader.{Reader}
use Rattle.series_lines.specs.Grammar.{part_digits}
use Rattle.series_lines.specs.Lexer.{spot_point}
use Rattle.series_lines.specs.Reader.{reading, last_offset}
use Rattle.text.specs.Machine.Modes.{passed}

-- A reader that stands after a point and can count all the parts.
pub record AfterPoint (r : Reader) : Type 0 where
  pub reads : r.status ≡ reading
  pub unplaced : r.place ≡ 0
  pub counts : r.at + part_digits ≤ last_offset
  pub begun : spot_point ≤ r.line.spot

-- A reader s that goes on from next as r does from an index before it.
pub record GoesOn (r : Reader) (text : List ℕ) (from : ℕ) (s : Reader) (next : ℕ) : Type 0 where
  pub onward : from ≤ next
  pub same : (writes : Bool) (out : List ℕ) → passed writes s out (drop next text) ≡ passed writes r out (drop from text)
