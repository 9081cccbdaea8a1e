-- What a call's window decides: a refusal, or that the two series are asked. Assumes nothing.
use mathlib.Core.Path.{◌≡◌, refl, sym, ap, ◌∙◌}
use mathlib.Core.Bool.{true, false}
use mathlib.Core.List.{List}
use Prim.Native.Nat.{ℕ, ◌-◌, ◌≤◌, ◌<◌}
use lib.IntN.{ℤ, nat_abs}
use lib.ListN.{length}
use Rattle.units.specs.Units.{t_limit, in_limit}
use Rattle.units.specs.declared.Instant.{Instant}
use Rattle.units.specs.declared.Refusal.{Refusal}
use Rattle.units.specs.declared.Refusal.TheVariants.{PastLimit, BadWindow}
use Rattle.std.specs.Prelude.{Err, Result}
use Rattle.sunlist.specs.SunList.{minute, window_fits, Outcome, no_numbers, outcome_by, outcome, answered, written, sun_list_by, sun_list_out_by}
use Rattle.sunlist.specs.Call.{SunListPromised}
use Rattle.sunlist.specs.Machine.Window.{LeftToSeries, RefusedBefore}
use Rattle.sunlist.proofs.Limits.{minute_in}
use Rattle.sunlist.proofs.Call.{sun_list_promised}

module _ (t0 : Instant) (minutes keep_out : ℤ) where
  pub bad_window : window_fits minutes keep_out ≡ false → RefusedBefore t0 minutes keep_out BadWindow
  unfolding outcome_by
  bad_window e planet earth = rw e

  module _ (e : window_fits minutes keep_out ≡ true) where
    pub first_refused : in_limit t0.ms ≡ false → RefusedBefore t0 minutes keep_out (PastLimit t0)
    unfolding outcome_by
    first_refused h planet earth = rw (e, h)

    module _ (h : in_limit t0.ms ≡ true) (last : Instant) (hl : last ≡ minute t0 (nat_abs minutes - 1)) where
      pub last_refused : in_limit last.ms ≡ false → RefusedBefore t0 minutes keep_out (PastLimit last)
      unfolding outcome_by
      last_refused g planet earth =
          let f : in_limit (minute t0 (nat_abs minutes - 1)).ms ≡ false = ap (λ (t : Instant). in_limit t.ms) (sym hl) ∙ g in
          rw (e, h, f) (ap (λ (t : Instant). no_numbers (PastLimit t)) (sym hl))

      module _ (g : in_limit last.ms ≡ true) where
        last_in : in_limit (minute t0 (nat_abs minutes - 1)).ms ≡ true
        last_in = ap (λ (t : Instant). in_limit t.ms) (sym hl) ∙ g

        pub minutes_in : (j : ℕ) → j < nat_abs minutes → nat_abs (minute t0 j).ms ≤ t_limit
        minutes_in j l = minute_in t_limit t0 (nat_abs minutes) j h last_in l

        pub left_to_series : LeftToSeries t0 minutes keep_out t0 (nat_abs minutes) (nat_abs keep_out)
        unfolding outcome_by
        left_to_series planet earth = let f = last_in in rw (e, h, f)

-- An answer and an output that are those of the outcome are what the call promises.
module _ (planet earth : List ℕ) (t0 : Instant) (minutes keep_out : ℤ) (out : List ℕ) where
  pub told : (o : Outcome) (r : Result ℕ Refusal) (now : List ℕ) → outcome planet earth t0 minutes keep_out ≡ o → r ≡ answered (length out) o → now ≡ written out o
      → SunListPromised planet earth t0 minutes keep_out out r now
  unfolding sun_list_by sun_list_out_by
  told o r now e p q =
      sun_list_promised planet earth t0 minutes keep_out out r now (p ∙ ap (answered (length out)) (sym e)) (q ∙ ap (written out) (sym e))

  pub refused_told : (r : Refusal) → RefusedBefore t0 minutes keep_out r → SunListPromised planet earth t0 minutes keep_out out (Err r) out
  unfolding answered written
  refused_told r e = told (no_numbers r) (Err r) out (e planet earth) refl refl
