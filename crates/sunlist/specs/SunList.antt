-- The Sun list (RULES, "Sun list", "The wide range" and "Refusals and what they leave"): the minutes, the window, and what the call answers and
-- leaves in the output. The refusals in their order: 12, 2 for the first minute, 2 for the last, the planet's series, Earth's, 17, 11, 7.
use Rattle.std.specs.Prelude.{Bool, true, false, cond, ◌&&◌, List, [], ◌∷◌, ℕ, zero, suc, ◌*◌, ◌-◌, leb, ltb, ℤ, pos, nat_abs, ◌+ℤ◌, length}
use Rattle.std.proofs.lemmas.List.Edits.{sets}
use Rattle.std.specs.Int.Signed.{le_z}
use Rattle.units.specs.Units.{minute_ms}
use Rattle.units.specs.declared.Instant.{Instant}
use Rattle.units.specs.declared.Refusal.{Refusal}
use Rattle.units.specs.declared.Refusal.TheVariants.{PastLimit, NoRoom, NotUsable, BadWindow, TooFar}
use Rattle.limits.specs.declared.Term.{Term}
use Rattle.limits.specs.Wide.{Range, four_millennia, both_asked}
use Rattle.packed.specs.Series.{Parsed, accepted, refused, parse}
use Rattle.series.specs.Sums.{coordinates}
use Rattle.separation.specs.Arcminutes.{least_keep_out, greatest_keep_out}
use Rattle.runs.specs.Runs.{run_numbers, most_minutes}
use Rattle.sunlist.specs.declared.Decision.{Decision}
use Rattle.sunlist.specs.declared.Decision.TheVariants.{Listed, Clear, Unusable}
use Rattle.std.specs.Prelude.{Err, Ok, Result}
use Rattle.sunlist.specs.Minute.{decide}

-- Minute j of a window that begins at t0.
abbrev pub minute : Instant → ℕ → Instant
minute t0 j = record { ms = t0.ms +ℤ pos (minute_ms * j) }

-- The keep-out in arcminutes and the number of minutes are in their ranges; else the refusal is 12.
unfoldable pub window_fits : (minutes keep_out : ℤ) → Bool
window_fits minutes keep_out =
    (le_z (pos least_keep_out) keep_out && le_z keep_out (pos greatest_keep_out)) && (le_z (pos 1) minutes && le_z minutes (pos most_minutes))

-- Minute j decided, from the blocks of the two series.
unfoldable pub decision_at : (planet earth : List (List Term)) → Instant → ℕ → ℕ → Decision
decision_at planet earth t0 k j = decide k (coordinates (minute t0 j).ms planet) (coordinates (minute t0 j).ms earth)

-- Whether places are usable at a minute so decided.
unfoldable pub good : Decision → Bool
good (Listed f) = true
good (Clear f) = true
good Unusable = false

-- The flag of a minute so decided: whether it is listed.
abbrev pub flag_of : Decision → Bool
flag_of (Listed f) = true
flag_of (Clear f) = false
flag_of Unusable = false

-- Of n minutes from j on: the first at which a test fails, or the minute after them.
unfoldable pub first_failing : (ℕ → Bool) → ℕ → ℕ → ℕ
first_failing test j zero = j
first_failing test j (suc n) = cond (test j) (first_failing test (suc j) n) j

-- Of n minutes from j on: the first bad one, or the minute after them; and their flags.
abbrev pub first_bad : (ℕ → Decision) → ℕ → ℕ → ℕ
first_bad at j n = first_failing (λ (i : ℕ). good (at i)) j n

unfoldable pub window_flags : (ℕ → Decision) → ℕ → ℕ → List Bool
window_flags at j zero = []
window_flags at j (suc n) = flag_of (at j) ∷ window_flags at (suc j) n

-- The numbers of the list, or why there are none.
pub data Outcome : Type 0 where
  numbers : List ℕ → Outcome
  no_numbers : Refusal → Outcome

-- Refusal 11 at the first bad minute; else the first and the last minute of each maximal run of listed ones.
unfoldable pub of_minutes : (ℕ → Decision) → ℕ → Outcome
of_minutes at n = cond (ltb (first_bad at 0 n) n) (no_numbers (NotUsable (first_bad at 0 n))) (numbers (run_numbers (window_flags at 0 n)))

-- Of n minutes: the first at which the two series may not both be asked over a range of time, or n. In the rule that is the first far minute,
-- where either series is not good for the wide range.
abbrev pub first_unasked : Range → (planet earth : List (List Term)) → Instant → ℕ → ℕ
first_unasked range planet earth t0 n = first_failing (λ (j : ℕ). both_asked range planet earth (minute t0 j).ms) 0 n

-- From the blocks of both: 17 at that minute, with its instant, before 11 at any minute.
unfoldable pub of_blocks : Range → (planet earth : List (List Term)) → Instant → ℕ → ℕ → Outcome
of_blocks range planet earth t0 n k =
    cond (ltb (first_unasked range planet earth t0 n) n)
    (no_numbers (TooFar (minute t0 (first_unasked range planet earth t0 n))))
    (of_minutes (decision_at planet earth t0 k) n)

-- The planet's series is judged, then Earth's.
unfoldable pub of_series : Range → (planet earth : Parsed) → Instant → ℕ → ℕ → Outcome
of_series range (refused r) earth t0 n k = no_numbers r
of_series range (accepted planet) (refused r) t0 n k = no_numbers r
of_series range (accepted planet) (accepted earth) t0 n k = of_blocks range planet earth t0 n k

-- Before them 12, then 2 for the first minute and for the last.
unfoldable pub outcome_by : Range → (planet earth : List ℕ) → Instant → (minutes keep_out : ℤ) → Outcome
outcome_by range planet earth t0 minutes keep_out =
    cond (window_fits minutes keep_out)
    (cond (range.taken t0.ms)
    (cond (range.taken (minute t0 (nat_abs minutes - 1)).ms)
    (of_series range (parse planet) (parse earth) t0 (nat_abs minutes) (nat_abs keep_out))
    (no_numbers (PastLimit (minute t0 (nat_abs minutes - 1)))))
    (no_numbers (PastLimit t0)))
    (no_numbers BadWindow)

-- Last, 7. Both counts are of numbers. A refusal leaves the output untouched, a success what lies past the numbers.
unfoldable pub answered : ℕ → Outcome → Result ℕ Refusal
answered room (numbers xs) = cond (leb (length xs) room) (Ok (length xs)) (Err (NoRoom (length xs)))
answered room (no_numbers r) = Err r

unfoldable pub written : List ℕ → Outcome → List ℕ
written out (numbers xs) = cond (leb (length xs) (length out)) (sets out 0 xs) out
written out (no_numbers r) = out

-- Over a range of time: what the call answers with an output of this many places, and what an output then holds.
unfoldable pub sun_list_by : Range → (planet earth : List ℕ) → Instant → (minutes keep_out : ℤ) → (room : ℕ) → Result ℕ Refusal
sun_list_by range planet earth t0 minutes keep_out room = answered room (outcome_by range planet earth t0 minutes keep_out)

unfoldable pub sun_list_out_by : Range → (planet earth : List ℕ) → Instant → (minutes keep_out : ℤ) → (out : List ℕ) → List ℕ
sun_list_out_by range planet earth t0 minutes keep_out out = written out (outcome_by range planet earth t0 minutes keep_out)

-- The rule is the one over four millennia. Over two it is the one that was before (`as_before`, proofs/Former).
abbrev pub outcome : (planet earth : List ℕ) → Instant → (minutes keep_out : ℤ) → Outcome
outcome planet earth t0 minutes keep_out = outcome_by four_millennia planet earth t0 minutes keep_out

abbrev pub sun_list : (planet earth : List ℕ) → Instant → (minutes keep_out : ℤ) → (room : ℕ) → Result ℕ Refusal
sun_list planet earth t0 minutes keep_out room = sun_list_by four_millennia planet earth t0 minutes keep_out room

abbrev pub sun_list_out : (planet earth : List ℕ) → Instant → (minutes keep_out : ℤ) → (out : List ℕ) → List ℕ
sun_list_out planet earth t0 minutes keep_out out = sun_list_out_by four_millennia planet earth t0 minutes keep_out out
