-- The clock rule as the code counts it, in naturals; a clock time that does not exist is refused 1, field 4. Assumes nothing.
use mathlib.Core.Path.{◌≡◌, refl, ◌∙◌}
use mathlib.Core.Bool.{true, false}
use Prim.Native.Nat.{ℕ, ◌+◌, ◌*◌, ◌≤◌, ◌<◌}
use native.Mathlib.Omega.{arith}
use lib.IntN.{ℤ, pos, negsuc, ◌+ℤ◌, ◌*ℤ◌}
use mir.Syntax.{w64}
use mir.Val.{to_z}
use mir.ValLaws.{to_z_pos}
use borrow.Author.Tests.{le-ltb, lt-ltb}
use Rattle.arith.specs.Naturals.{natural_or}
use Rattle.units.specs.Units.{minute_ms}
use Rattle.units.specs.declared.Refusal.TheVariants.{NoSuchDate}
use Rattle.calendar.specs.Calendar.{first_bad, first_bad_of_four, instant_of_date}
use Rattle.std.specs.Prelude.{Err}
use Rattle.command_line.specs.Clock.{hours, minutes, seconds, hour_ms, second_ms, below, on_clock, ms_of_day, instant_of_clock}

out_of : (x : ℤ) (k : ℕ) → k ≤ natural_or x k → below x k ≡ false
unfolding below natural_or
out_of (pos n) k h = le-ltb n k h
out_of (negsuc n) k h = refl

in_to : (x : ℤ) (k : ℕ) → natural_or x k < k → below x k ≡ true
unfolding below natural_or
in_to (pos n) k h = lt-ltb n k h
in_to (negsuc n) k h = absurd (omega arith)

sum : (h m s : ℤ) → natural_or h hours < hours → natural_or m minutes < minutes → natural_or s seconds < seconds
    → pos (hour_ms * natural_or h hours + minute_ms * natural_or m minutes + second_ms * natural_or s seconds)
    ≡ pos hour_ms *ℤ h +ℤ pos minute_ms *ℤ m +ℤ pos second_ms *ℤ s
unfolding natural_or
sum (pos h) (pos m) (pos s) a b d = refl
sum (pos h) (pos m) (negsuc s) a b d = absurd (omega arith)
sum (pos h) (negsuc m) s a b d = absurd (omega arith)
sum (negsuc h) m s a b d = absurd (omega arith)

-- The hour, minute and second as the code counts them: a is the hour, or `hours` where it is negative; so b and d.
module _ (h m s : ℤ) {a b d : ℕ} (ea : a ≡ natural_or h hours) (eb : b ≡ natural_or m minutes) (ed : d ≡ natural_or s seconds) where
  pub no_hour : hours ≤ a → negsuc 0 ≡ ms_of_day h m s
  unfolding ms_of_day on_clock
  no_hour p = rw (out_of h hours (omega arith)) refl

  pub no_minute : a < hours → minutes ≤ b → negsuc 0 ≡ ms_of_day h m s
  unfolding ms_of_day on_clock
  no_minute p q = rw (in_to h hours (omega arith), out_of m minutes (omega arith)) refl

  pub no_second : a < hours → b < minutes → seconds ≤ d → negsuc 0 ≡ ms_of_day h m s
  unfolding ms_of_day on_clock
  no_second p q r = rw (in_to h hours (omega arith), in_to m minutes (omega arith), out_of s seconds (omega arith)) refl

  pub at_clock : a < hours → b < minutes → d < seconds → to_z w64 (hour_ms * a + minute_ms * b + second_ms * d) ≡ ms_of_day h m s
  unfolding ms_of_day on_clock
  at_clock p q r =
      rw (in_to h hours (omega arith), in_to m minutes (omega arith), in_to s seconds (omega arith))
      (to_z_pos w64 (hour_ms * a + minute_ms * b + second_ms * d) (omega arith) ∙ rw (ea, eb, ed) (sum h m s (omega arith) (omega arith) (omega arith)))

-- A clock time that does not exist, on a date that does, is refused 1 at field 4.
pub no_such_time : (y mo d h m s : ℤ) → on_clock h m s ≡ false → first_bad y mo d ≡ 0 → instant_of_clock y mo d h m s ≡ Err (NoSuchDate 4)
unfolding ms_of_day instant_of_date first_bad_of_four
no_such_time y mo d h m s e f = rw (e, f) refl
