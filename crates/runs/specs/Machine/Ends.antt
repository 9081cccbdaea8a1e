-- What the loops over a window take of each minute.
use Rattle.std.specs.Prelude.{Bool, false, List, ℕ, zero, suc, ◌+◌, drop}
use Rattle.runs.specs.Runs.{first_listed, run_ends}

-- Whether the minute before minute i is listed; before minute 0 there is none.
unfoldable pub listed_before : List Bool → ℕ → Bool
listed_before flags zero = false
listed_before flags (suc i) = first_listed (drop i flags)

-- The ends of runs that minute i of a window is.
unfoldable pub ends_at : List Bool → ℕ → List ℕ
ends_at flags i = run_ends i (listed_before flags i) (first_listed (drop i flags)) (first_listed (drop (i + 1) flags))
