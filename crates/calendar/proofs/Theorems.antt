-- The calendar's theorems: a date's day number has that date, a day number's date has that number, every day number from 0 to 5,373,484 has
-- exactly one date; the same of instants within the limit; the marked figures of the rules. Assumes nothing.
use mathlib.Core.Path.{◌≡◌, refl, sym, ap, ◌∙◌}
use mathlib.Core.Bool.{true}
use Prim.Native.Nat.{ℕ, ◌/◌, ◌%◌, ◌≤◌}
use lib.IntN.{ℤ, pos}
use Rattle.integers.specs.Division.{floor, modulo}
use Rattle.units.specs.Units.{within, in_limit}
use Rattle.units.specs.declared.Instant.{Instant}
use Rattle.calendar.specs.Calendar.{leap, month_length, first_bad, first_bad_of_four, noon_number, day_of_date, date_of_day, instant, instant_of_date}
use Rattle.calendar.specs.Calendar.{date_of_instant}
use Rattle.calendar.specs.Promises.{day_of, instant_of, OneDate, OneMoment, marked, AllRight}
use Rattle.calendar.specs.Machine.Shifted.{date_at, plain}
use Rattle.calendar.specs.declared.Date.{Date}
use Rattle.std.specs.Prelude.{Ok}
use Rattle.calendar.specs.Constants.{last_day, day_ms}
use Rattle.calendar.proofs.DayToDate.{found}
use Rattle.calendar.proofs.DatesFound.{numbered_as, day_of_plain}
use Rattle.calendar.proofs.RoundTrips.{on_day, dated, same_date, since, timed, limit_of, instant_back, moment_back}
use Rattle.calendar.proofs.RoundTrips.{moment_of, same_moment}

-- A date, its day number, and back.
pub date_day_date : (w : Date) (n : ℤ) → day_of w ≡ Ok n → date_of_day n ≡ Ok w
date_day_date w n e =
    let p = numbered_as w.year w.month w.day n e in
    rw p.is (on_day p.k p.small ∙ ap Ok p.back)

-- A day number, its date, and back.
pub day_date_day : (n : ℤ) (w : Date) → date_of_day n ≡ Ok w → day_of w ≡ Ok n
day_date_day n w e =
    let p = dated n w e in
    let f = found p.k p.small in
    ap day_of (sym p.found) ∙ day_of_plain p.k (date_at p.k) f.sound f.number ∙ ap Ok (sym p.is)

-- Every day number has exactly one date.
pub one_date : (n : ℕ) → n ≤ last_day → OneDate (pos n)
one_date n h =
    let e = on_day n h in
    record { the = plain (date_at n); has = day_date_day (pos n) (plain (date_at n)) e; only = λ w p. same_date (sym (date_day_date w (pos n) p) ∙ e) }

-- A date with milliseconds, its instant, and back.
pub moment_instant_moment : (w : Date) (ms : ℤ) (t : Instant) → instant_of w ms ≡ Ok t → date_of_instant t ≡ Ok (record { date = w; ms = ms })
moment_instant_moment w ms t e = moment_back w.year w.month w.day ms t (timed w.year w.month w.day ms t e)

-- An instant, its date with milliseconds, and back.
pub instant_moment_instant : (t : Instant) (w : Date) (ms : ℤ) → date_of_instant t ≡ Ok (record { date = w; ms = ms }) → instant_of w ms ≡ Ok t
instant_moment_instant t w ms e =
    let l = limit_of t w ms e in
    let s = since t.ms l in
    instant_back t w ms s.u l s.is s.small e

-- Every instant within the limit has exactly one date with milliseconds.
pub one_moment : (t : Instant) → in_limit t.ms ≡ true → OneMoment t
one_moment t h =
    let s = since t.ms h in
    let e = moment_of t s.u h s.is s.small in
    record {
      the = plain (date_at (s.u / day_ms));
      ms = pos (s.u % day_ms);
      has = instant_moment_instant t _ _ e;
      only = λ w k p. same_moment (sym (moment_instant_moment w k t p) ∙ e);
    }

-- The marked figures.
pub figures : AllRight marked
unfolding day_of_date instant_of_date first_bad_of_four first_bad month_length leap noon_number floor modulo instant within
figures = (refl, (refl, (refl, (refl, (refl, (refl, (refl, (refl, (refl, tt)))))))))
