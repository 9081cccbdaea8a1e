-- RULES, "Sun list": for each maximal run of listed minutes its first and its last minute, ascending.
use Rattle.std.specs.Prelude.{Bool, true, false, List, [], ◌∷◌, ◌++◌, ℕ, suc}

-- Whether the first of these minutes is listed; there is none past the window's end.
unfoldable pub first_listed : List Bool → Bool
first_listed [] = false
first_listed (f ∷ fs) = f

-- The ends of runs that minute j is: a listed minute begins a run where the minute before is not listed, and ends one where the minute after is not.
unfoldable pub run_ends : ℕ → Bool → Bool → Bool → List ℕ
run_ends j before false after = []
run_ends j true true true = []
run_ends j true true false = j ∷ []
run_ends j false true true = j ∷ []
run_ends j false true false = j ∷ j ∷ []

-- The ends of all runs from minute j on: the flags tell whether j and the minutes after it are listed, and before whether the minute before is.
unfoldable pub runs : ℕ → Bool → List Bool → List ℕ
runs j before [] = []
runs j before (f ∷ fs) = run_ends j before f (first_listed fs) ++ runs (suc j) f fs

-- The numbers of a window, whose flags tell of each minute whether it is listed.
unfoldable pub run_numbers : List Bool → List ℕ
run_numbers flags = runs 0 false flags

-- The minutes of a window are at most those of a day.
abbrev pub most_minutes : ℕ
most_minutes = 1440
