-- What the code asks of a run of digits after a decimal's point. Held by the code, no part of the rules.
use Rattle.std.specs.Prelude.{cond, List, ℕ, ◌+◌, ◌*◌, ◌-◌, ◌≤◌, ◌<◌, eqb, length, get_or}
use Rattle.series_lines.specs.Grammar.{digit_0}
use Rattle.series_lines.specs.Lexer.{spot_done, value_limit}

-- How far a run of parts may go: with a minus the last part may be refused.
unfoldable pub run_end : ℕ → ℕ
run_end minus = cond (eqb minus 0) spot_done (spot_done - 1)

-- An index up to which digits of a run from an index on may go, from a spot: within the text, and no further than the run.
pub record RunStop (text : List ℕ) (from spot minus stop : ℕ) : Type 0 where
  pub within : stop ≤ length text
  pub short : stop - from ≤ run_end minus - spot

-- The byte at i is a digit before that index, and goes on after a value.
pub record PartAt (text : List ℕ) (i stop value : ℕ) : Type 0 where
  pub early : i < stop
  pub small : value < value_limit
  pub least : digit_0 ≤ get_or text i 0
  pub most : get_or text i 0 < digit_0 + 10

-- Digits from an index on, each of which goes on after those before it: the index after them, and the value with them.
pub data Digits (text : List ℕ) (stop from value : ℕ) : ℕ → ℕ → Type 0 where
  none : Digits text stop from value from value
  more : {i v : ℕ} → Digits text stop from value i v → PartAt text i stop v → Digits text stop from value (i + 1) (10 * v + (get_or text i 0 - digit_0))

-- Those of a run that goes on from a spot.
pub record DigitRun (text : List ℕ) (from spot minus value next after : ℕ) : Type 0 where
  pub stop : ℕ
  pub ends : RunStop text from spot minus stop
  pub digits : Digits text stop from value next after
