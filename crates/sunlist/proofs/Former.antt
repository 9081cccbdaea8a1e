-- Where every minute of the window is within two millennia, the answer and the output are those of the rule that was before, whether the series are
-- good for the wide range or not. Assumes nothing.
use mathlib.Core.Path.{◌≡◌, refl, sym, ap, ◌∙◌}
use mathlib.Core.Bool.{true}
use mathlib.Core.List.{List}
use Prim.Native.Nat.{ℕ, ◌-◌, ◌<◌}
use native.Mathlib.Omega.{arith}
use borrow.Author.Tests.{le-ltb}
use lib.IntN.{ℤ, nat_abs}
use Rattle.integers.proofs.Tests.{by_cases}
use Rattle.units.specs.Units.{near_limit, near}
use Rattle.units.proofs.Limit.{within_size}
use Rattle.units.specs.declared.Instant.{Instant}
use Rattle.limits.specs.declared.Term.{Term}
use Rattle.limits.specs.Wide.{Range, four_millennia, two_millennia, both_asked}
use Rattle.limits.proofs.Reach.{near_taken, near_both}
use Rattle.packed.specs.Series.{Parsed, accepted, refused, parse}
use Rattle.sunlist.specs.SunList.{minute, window_fits, decision_at, of_minutes, first_unasked, of_blocks, of_series, outcome_by, outcome}
use Rattle.sunlist.specs.SunList.{answered, written, sun_list_by, sun_list_out_by, sun_list, sun_list_out}
use Rattle.sunlist.proofs.Limits.{minute_in}
use Rattle.sunlist.proofs.Failing.{none_fails}

-- Where a range has both series asked at every minute, 17 is not given.
never_far : (range : Range) (planet earth : List (List Term)) (t0 : Instant) (n k : ℕ)
    → ((j : ℕ) → j < n → both_asked range planet earth (minute t0 j).ms ≡ true)
    → of_blocks range planet earth t0 n k ≡ of_minutes (decision_at planet earth t0 k) n
unfolding of_blocks
never_far range planet earth t0 n k h =
    let e = none_fails (λ (j : ℕ). both_asked range planet earth (minute t0 j).ms) 0 n (λ j l. h j (omega arith)) in
    rw (le-ltb (first_unasked range planet earth t0 n) n (omega arith))

module _ (t0 : Instant) (n : ℕ) (h : near t0.ms ≡ true) (g : near (minute t0 (n - 1)).ms ≡ true) where
  -- A minute between two that are near is near.
  each_near : (j : ℕ) → j < n → near (minute t0 j).ms ≡ true
  each_near j l = within_size near_limit _ (minute_in near_limit t0 n j h g l)

  same_series : (p e : Parsed) (k : ℕ) → of_series four_millennia p e t0 n k ≡ of_series two_millennia p e t0 n k
  unfolding of_series both_asked
  same_series (refused r) e k = refl
  same_series (accepted planet) (refused r) k = refl
  same_series (accepted planet) (accepted earth) k =
      never_far four_millennia planet earth t0 n k (λ j l. near_both planet earth (minute t0 j).ms (each_near j l))
      ∙ sym (never_far two_millennia planet earth t0 n k (λ j l. refl))

-- Every minute of the window is near: its first and its last are. Of a window that is refused 12 no minute is used, and nothing is asked.
abbrev pub WindowNear : Instant → (minutes keep_out : ℤ) → Type 0
WindowNear t0 minutes keep_out =
    window_fits minutes keep_out ≡ true → (near t0.ms ≡ true) × (near (minute t0 (nat_abs minutes - 1)).ms ≡ true)

same_outcome : (planet earth : List ℕ) (t0 : Instant) (minutes keep_out : ℤ) → WindowNear t0 minutes keep_out
    → outcome planet earth t0 minutes keep_out ≡ outcome_by two_millennia planet earth t0 minutes keep_out
unfolding outcome_by
same_outcome planet earth t0 minutes keep_out h = by_cases (window_fits minutes keep_out) (λ w. fits w (h w).0 (h w).1) (λ w. rw w)
  where
    fits : window_fits minutes keep_out ≡ true → near t0.ms ≡ true → near (minute t0 (nat_abs minutes - 1)).ms ≡ true
        → outcome planet earth t0 minutes keep_out ≡ outcome_by two_millennia planet earth t0 minutes keep_out
    fits w h g = rw (w, near_taken _ h, near_taken _ g, h, g, same_series t0 (nat_abs minutes) h g (parse planet) (parse earth) (nat_abs keep_out))

pub as_before : (planet earth : List ℕ) (t0 : Instant) (minutes keep_out : ℤ) (room : ℕ) (out : List ℕ) → WindowNear t0 minutes keep_out
    → (sun_list planet earth t0 minutes keep_out room ≡ sun_list_by two_millennia planet earth t0 minutes keep_out room)
    × (sun_list_out planet earth t0 minutes keep_out out ≡ sun_list_out_by two_millennia planet earth t0 minutes keep_out out)
unfolding sun_list_by sun_list_out_by
as_before planet earth t0 minutes keep_out room out h =
    let e = same_outcome planet earth t0 minutes keep_out h in
    (ap (answered room) e, ap (written out) e)
