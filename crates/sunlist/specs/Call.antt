-- What the call for a list promises of its answer and of the output.
use Rattle.std.specs.Prelude.{◌≡◌, List, ℕ, ◌≤◌, ℤ, length}
use Rattle.units.specs.declared.Instant.{Instant}
use Rattle.std.specs.Prelude.{Ok, Result}
use Rattle.units.specs.declared.Refusal.{Refusal}
use Rattle.runs.specs.Runs.{most_minutes}
use Rattle.sunlist.specs.SunList.{sun_list, sun_list_out}
use Rattle.sunlist.specs.Demand.{Demand3}

-- Of the call's arguments, the output before the call, the answer r, and the output after it.
pub record SunListPromised (planet earth : List ℕ) (t0 : Instant) (minutes keep_out : ℤ) (before : List ℕ) (r : Result ℕ Refusal) (after : List ℕ)
    : Type 0 where
  pub answer : r ≡ sun_list planet earth t0 minutes keep_out (length before)
  pub output : after ≡ sun_list_out planet earth t0 minutes keep_out before
  -- A list that is answered keeps demand 3 (none missing, none farther out than two arcminutes more), and its numbers are no more than a day's minutes.
  pub demand : (count : ℕ) → r ≡ Ok count → Demand3 planet earth t0 minutes keep_out count after
  pub few : (count : ℕ) → r ≡ Ok count → count ≤ most_minutes
