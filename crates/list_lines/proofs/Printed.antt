-- Where a list is answered, what the program `list` prints is its runs, and these keep demand 3. Assumes nothing.
use mathlib.Core.Path.{◌≡◌, ap, subst}
use mathlib.Core.List.{List}
use Prim.Native.Nat.{ℕ, ◌*◌, ◌/◌}
use native.Mathlib.Omega.{arith}
use lib.IntN.{ℤ}
use Rattle.units.specs.declared.Instant.{Instant}
use Rattle.runs.specs.Runs.{most_minutes}
use Rattle.sunlist.specs.Demand.{Demand3}
use Rattle.sunlist.specs.SunList.{sun_list, sun_list_out}
use Rattle.std.specs.Prelude.{Ok, Result}
use Rattle.units.specs.declared.Refusal.{Refusal}
use Rattle.sunlist.proofs.Demand.{demand_3}
use Rattle.list_lines.specs.List.{answer_text, lent_numbers, list_text}
use Rattle.list_lines.specs.Printed.{Printed}

pub printed : (planet earth : List ℕ) (t0 : Instant) (start : ℕ) (minutes keep_out : ℤ) (count : ℕ)
    → sun_list planet earth t0 minutes keep_out most_minutes ≡ Ok count → Printed planet earth t0 start minutes keep_out
unfolding answer_text list_text
printed planet earth t0 start minutes keep_out count e =
    let out : List ℕ = sun_list_out planet earth t0 minutes keep_out lent_numbers in
    let d : Demand3 planet earth t0 minutes keep_out count out = demand_3 planet earth t0 minutes keep_out lent_numbers count e in
    let even : count ≡ 2 * (count / 2) = omega (arith, d.count_is) in
    record {
      numbers = out;
      runs = count / 2;
      demand = subst (λ (n : ℕ). Demand3 planet earth t0 minutes keep_out n out) even d;
      told = ap (λ (a : Result ℕ Refusal). answer_text start out a) e;
    }
