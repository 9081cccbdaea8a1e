-- What the functions of the list ask of the term tables of the two series, and what they answer from them.
use Rattle.std.specs.Prelude.{◌≡◌, true, List, ℕ, ◌<◌, length}
use Rattle.units.specs.declared.Instant.{Instant}
use Rattle.limits.specs.Wide.{four_millennia, both_asked}
use Rattle.packed.specs.declared.table.Table.{Table as Terms}
use Rattle.packed.specs.Machine.Table.{table_blocks}
use Rattle.series.specs.Machine.Table.{Table}
use Rattle.sunlist.specs.declared.Decision.{Decision}
use Rattle.std.specs.Prelude.{Result}
use Rattle.units.specs.declared.Refusal.{Refusal}
use Rattle.sunlist.specs.SunList.{minute, decision_at, Outcome, answered, written}

-- Two tables whose series may be asked at each of n minutes.
pub record Tables (planet earth : Terms) (t0 : Instant) (n : ℕ) : Type 0 where
  pub planet_table : Table planet
  pub earth_table : Table earth
  pub asked : (j : ℕ) → j < n → both_asked four_millennia (table_blocks planet) (table_blocks earth) (minute t0 j).ms ≡ true

-- Minute j decided, from the two tables.
abbrev pub decided_at : (planet earth : Terms) → Instant → ℕ → ℕ → Decision
decided_at planet earth t0 k j = decision_at (table_blocks planet) (table_blocks earth) t0 k j

-- An outcome is answered, and the output, which held `before`, holds `after`.
abbrev pub Answers : Outcome → (before : List ℕ) → Result ℕ Refusal → (after : List ℕ) → Type 0
Answers o before r after = (r ≡ answered (length before) o) × (after ≡ written before o)
