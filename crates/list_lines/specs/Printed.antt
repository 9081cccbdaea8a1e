-- What demand 3 says of all that the program `list` prints.
use Rattle.std.specs.Prelude.{◌≡◌, List, ℕ, ◌*◌, ℤ}
use Rattle.units.specs.declared.Instant.{Instant}
use Rattle.std.specs.Prelude.{Ok}
use Rattle.sunlist.specs.Demand.{Demand3}
use Rattle.list_lines.specs.List.{runs_text, list_text}

-- For a list that is answered: a line for each of its runs, in their order, or `no minute`, and nothing else; and the runs keep demand 3.
pub record Printed (planet earth : List ℕ) (t0 : Instant) (start : ℕ) (minutes keep_out : ℤ) : Type 0 where
  pub numbers : List ℕ
  pub runs : ℕ
  pub demand : Demand3 planet earth t0 minutes keep_out (2 * runs) numbers
  pub told : list_text planet earth (Ok t0) start minutes keep_out ≡ runs_text start numbers runs
