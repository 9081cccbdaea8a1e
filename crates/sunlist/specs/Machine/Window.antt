-- What the code of the list answers of a window's minutes.
use Rattle.std.specs.Prelude.{◌≡◌, Bool, ◌||◌, List, ℕ, ◌≤◌, ◌<◌, ℤ, Option, Result, MatchOption, MatchResult}
use Rattle.limits.specs.Wide.{four_millennia}
use Rattle.packed.specs.Series.{parse}
use Rattle.units.specs.Units.{near}
use Rattle.units.specs.declared.Instant.{Instant}
use Rattle.units.specs.declared.Refusal.{Refusal}
use Rattle.units.specs.declared.Refusal.TheVariants.{NotUsable}
use Rattle.sunlist.specs.declared.Decision.{Decision}
use Rattle.sunlist.specs.SunList.{minute, first_failing, first_bad, window_flags, no_numbers, of_series, outcome}

-- A window asked for is that of n minutes from t and a keep-out of k arcminutes, and what the list is, is left to the two series.
abbrev pub LeftToSeries : Instant → (minutes keep_out : ℤ) → Instant → (n k : ℕ) → Type 0
LeftToSeries t0 minutes keep_out t n k =
    (planet earth : List ℕ) → outcome planet earth t0 minutes keep_out ≡ of_series four_millennia (parse planet) (parse earth) t n k

-- It is refused, whatever the series are.
abbrev pub RefusedBefore : Instant → (minutes keep_out : ℤ) → Refusal → Type 0
RefusedBefore t0 minutes keep_out r = (planet earth : List ℕ) → outcome planet earth t0 minutes keep_out ≡ no_numbers r

-- At minute j two series may both be asked, by whether both are good for the wide range.
abbrev pub asked_at : Instant → Bool → ℕ → Bool
asked_at t0 wide j = near (minute t0 j).ms || wide

-- Of n minutes from t0 on, the first at which a test fails; none, where all pass.
abbrev pub FoundFar : (test : ℕ → Bool) → Instant → ℕ → Option Instant → Type 0
FoundFar test t0 n found =
    MatchOption found (n ≤ first_failing test 0 n) (λ t. (first_failing test 0 n < n) × (t ≡ minute t0 (first_failing test 0 n)))

-- The flags of all n minutes; or 11 at the first bad one.
abbrev pub Flagged : (ℕ → Decision) → ℕ → Result Unit Refusal → List Bool → Type 0
Flagged at n answer flags =
    MatchResult answer (λ _. (n ≤ first_bad at 0 n) × (flags ≡ window_flags at 0 n))
    (λ r. (first_bad at 0 n < n) × (r ≡ NotUsable (first_bad at 0 n)))
