-- An answer and an output that are the definitions' keep all that the call promises, by demand 3. Assumes nothing.
use mathlib.Core.Path.{◌≡◌, refl, sym, ap, ◌∙◌, subst}
use mathlib.Core.List.{List}
use Prim.Native.Nat.{ℕ, zero, suc, ◌+◌, ◌*◌, ◌≤◌, ◌<◌}
use native.Mathlib.Omega.{arith}
use lib.IntN.{ℤ, nat_abs}
use lib.ListN.{length}
use Rattle.units.specs.declared.Instant.{Instant}
use Rattle.std.specs.Prelude.{Ok, Result}
use Rattle.units.specs.declared.Refusal.{Refusal}
use Rattle.runs.specs.Runs.{most_minutes}
use Rattle.sunlist.specs.SunList.{sun_list, sun_list_out}
use Rattle.sunlist.specs.Demand.{first_minute, Demand3}
use Rattle.sunlist.specs.Call.{SunListPromised}
use Rattle.sunlist.proofs.Limits.{fits_is}
use Rattle.sunlist.proofs.Answered.{answered_is}
use Rattle.sunlist.proofs.Demand.{demand_3}

module _ (planet earth : List ℕ) (t0 : Instant) (minutes keep_out : ℤ) (count : ℕ) (out : List ℕ)
    (d : Demand3 planet earth t0 minutes keep_out count out) where
  -- Two runs are two minutes or more apart, so that run i begins at minute 2i or later.
  begins : (i : ℕ) → i < d.runs → 2 * i ≤ first_minute out i
  begins zero l = omega arith
  begins (suc i) l =
      let h = begins i (omega arith) in
      let w = (d.in_window i (omega arith)).0 in
      let r = d.rising i l in
      omega arith

  -- All runs lie within the window: a number for each minute at the most, and one more.
  within : (runs : ℕ) → runs ≡ d.runs → 2 * runs ≤ d.n + 1
  within zero e = omega arith
  within (suc i) e =
      let h = begins i (omega arith) in
      let w = d.in_window i (omega arith) in
      omega arith

  few : nat_abs minutes ≤ most_minutes → count ≤ most_minutes
  few h =
      let w = within d.runs refl in
      let c = d.count_is in
      let n = ap nat_abs d.window in
      omega arith

pub sun_list_promised : (planet earth : List ℕ) (t0 : Instant) (minutes keep_out : ℤ) (before : List ℕ) (r : Result ℕ Refusal) (after : List ℕ)
    → r ≡ sun_list planet earth t0 minutes keep_out (length before)
    → after ≡ sun_list_out planet earth t0 minutes keep_out before
    → SunListPromised planet earth t0 minutes keep_out before r after
sun_list_promised planet earth t0 minutes keep_out before r after e o = record {
  answer = e;
  output = o;
  demand = λ count h. demand count h;
  few = λ count h.
      let w = (answered_is planet earth t0 minutes keep_out before count (sym e ∙ h)).window in
      few planet earth t0 minutes keep_out count after (demand count h) (fits_is minutes keep_out w).minutes_in.most;
}
  where
    demand : (count : ℕ) → r ≡ Ok count → Demand3 planet earth t0 minutes keep_out count after
    demand count h =
        subst (λ (s : List ℕ). Demand3 planet earth t0 minutes keep_out count s) (sym o)
        (demand_3 planet earth t0 minutes keep_out before count (sym e ∙ h))
