-- RULES, "Programs": what the program `list` prints for two packed series, a time, how many minutes, and a keep-out.
use Rattle.std.specs.Prelude.{List, [], ◌++◌, ℕ, zero, suc, ◌*◌, ◌/◌, ℤ, length, replicate}
use Rattle.std.specs.Prelude.{Err, Ok, Result}
use Rattle.units.specs.declared.Instant.{Instant}
use Rattle.units.specs.declared.Refusal.{Refusal}
use Rattle.decimals.specs.Texts.{text}
use Rattle.runs.specs.Runs.{most_minutes}
use Rattle.refusal_words.specs.Words.{refusal_text}
use Rattle.sunlist.specs.Demand.{first_minute, last_minute}
use Rattle.sunlist.specs.SunList.{sun_list, sun_list_out}
use Rattle.list_lines.specs.Lines.{run_text, run_most}

-- A line for each of n runs, from run i of these numbers on, where minute 0 is at minute `start` of the day.
unfoldable pub run_lines : ℕ → List ℕ → ℕ → ℕ → List ℕ
run_lines start numbers i zero = []
run_lines start numbers i (suc n) = run_text start (first_minute numbers i) (last_minute numbers i) ++ run_lines start numbers (suc i) n

-- All n runs.
unfoldable pub runs_text : ℕ → List ℕ → ℕ → List ℕ
runs_text start numbers zero = text "no minute\n"
runs_text start numbers (suc n) = run_lines start numbers 0 (suc n)

-- A list, which has two numbers for each run, or its refusal.
unfoldable pub answer_text : ℕ → List ℕ → Result ℕ Refusal → List ℕ
answer_text start numbers (Ok count) = runs_text start numbers (count / 2)
answer_text start numbers (Err r) = refusal_text r

-- The room that is lent for the numbers, a place for each minute of the longest window, all 0.
abbrev pub lent_numbers : List ℕ
lent_numbers = replicate most_minutes 0

-- The list of the planet from the instant on, seen from Earth; or the refusal of the instant.
unfoldable pub list_text : (planet earth : List ℕ) → Result Instant Refusal → (start : ℕ) → (minutes keep_out : ℤ) → List ℕ
list_text planet earth (Ok t0) start minutes keep_out =
    answer_text start (sun_list_out planet earth t0 minutes keep_out lent_numbers) (sun_list planet earth t0 minutes keep_out (length lent_numbers))
list_text planet earth (Err r) start minutes keep_out = refusal_text r

-- No window has more runs, and no list is longer: two runs have a minute or more between them.
abbrev pub most_runs : ℕ
most_runs = most_minutes / 2

abbrev pub list_most : ℕ
list_most = most_runs * run_most
