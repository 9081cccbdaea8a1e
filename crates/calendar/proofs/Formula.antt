-- The noon day number of a date that exists, by the rules' formula over whole numbers, is that of the count in naturals. Assumes nothing.
use mathlib.Core.Path.{◌≡◌, refl, ap, ◌∙◌}
use mathlib.Core.Bool.{true}
use Prim.Native.Nat.{ℕ, ◌+◌, ◌*◌, ◌/◌, ◌-◌, ◌≤◌, ◌<◌}
use native.Mathlib.Decide.{dec_le}
use native.Mathlib.Omega.{arith}
use borrow.Author.Tests.{lt-ltb, le-ltb, le-leb, lt-leb}
use lib.Dec.{leb}
use lib.IntN.{ℤ, pos, ◌+ℤ◌}
use Rattle.integers.specs.Division.{floor}
use Rattle.integers.proofs.Pairs.{Is, nat, same, ◌+ᵢ◌, ◌-ᵢ◌}
use Rattle.calendar.specs.Calendar.{counted_year, counted_month, gregorian, beta, formula, noon_number}
use Rattle.calendar.specs.Machine.Shifted.{key, Sound, march_year, march_month, julian, with_beta, noon}
use Rattle.calendar.specs.Constants.{first_gregorian, four_years, year_shift, month_rate, rate_scale, day_shift}
use Rattle.calendar.specs.Machine.Shifted.{reform_index, gregorian_key}
use Rattle.calendar.proofs.Compare.{leZ_is}
use Rattle.calendar.proofs.FirstBad.{is_same, written_is}
use Rattle.calendar.proofs.DateToDay.{Room, room}

-- The formula, where the year's index is a.
formula_old : (a m d : ℕ) (x : ℤ) → Is x a year_shift → day_shift ≤ four_years * a / 4 + month_rate * (m + 1) / rate_scale + d
    → formula x (pos m) (pos d) (pos 0) ≡ pos (julian a m d)
unfolding floor
formula_old a m d x i h =
    let e : x +ℤ pos year_shift ≡ pos a = same (i +ᵢ nat year_shift) (nat a) (omega arith) in
    rw e (same (nat (four_years * a / 4) +ᵢ nat (month_rate * (m + 1) / rate_scale) +ᵢ nat d +ᵢ nat 0 -ᵢ nat day_shift) (nat (julian a m d)) (omega arith))

big : (a x d : ℕ) → reform_index ≤ a → (a - year_shift) / 100 + day_shift ≤ four_years * a / 4 + x + d
big a x d h = omega arith

formula_new : (a m d : ℕ) (x : ℤ) → Is x a year_shift → reform_index ≤ a
    → formula x (pos m) (pos d) (beta true x) ≡ pos (with_beta ((a - year_shift) / 100) (julian a m d))
unfolding floor
formula_new a m d x i g =
    let e : x +ℤ pos year_shift ≡ pos a = same (i +ᵢ nat year_shift) (nat a) (omega arith) in
    let f : x ≡ pos (a - year_shift) = same i (nat (a - year_shift)) (omega arith) in
    let n = nat (four_years * a / 4) +ᵢ nat (month_rate * (m + 1) / rate_scale) +ᵢ nat d in
    let b = nat 2 -ᵢ nat ((a - year_shift) / 100) +ᵢ nat ((a - year_shift) / 100 / 4) in
    rw (e, f)
    (same (n +ᵢ b -ᵢ nat day_shift) (nat (with_beta ((a - year_shift) / 100) (julian a m d))) (omega (arith, big a (month_rate * (m + 1) / rate_scale) d g)))

-- January and February are counted to the year before.
module _ (y : ℤ) (c m d : ℕ) (i : Is y c year_shift) (o : Room c m d) where
  counted : Dec (3 ≤ m) → Is (counted_year y (pos m)) (march_year c m) year_shift × (counted_month (pos m) ≡ pos (march_month m))
  counted (yes h) = rw (lt-leb m 2 h, le-ltb m 3 h) (i, refl)
  counted (no h) = rw (le-leb m 2 (omega arith), lt-ltb m 3 (omega arith)) (is_same (i -ᵢ nat 1) (omega (arith, o.index)), refl)

  gregorian_is : gregorian y (pos m) (pos d) ≡ leb gregorian_key (key c m d)
  gregorian_is = let e : key c m d + 0 ≡ key c m d = omega arith in leZ_is (nat first_gregorian) (written_is y c m d i) ∙ ap (leb gregorian_key) e

  by_style : Dec (gregorian_key ≤ key c m d) → noon_number y (pos m) (pos d) ≡ pos (noon c m d)
  unfolding noon_number noon
  by_style (yes h) =
      let p = counted (dec_le 3 m) in
      rw (gregorian_is, p.1, le-leb gregorian_key (key c m d) h, le-ltb (key c m d) gregorian_key h)
      (formula_new (march_year c m) (march_month m) d (counted_year y (pos m)) p.0 (o.modern h))
  by_style (no h) =
      let p = counted (dec_le 3 m) in
      let l : key c m d < gregorian_key = omega (arith, h) in
      rw (gregorian_is, p.1, lt-leb gregorian_key (key c m d) l, lt-ltb (key c m d) gregorian_key l)
      (formula_old (march_year c m) (march_month m) d (counted_year y (pos m)) p.0 o.low)

pub literal : (y : ℤ) (c m d : ℕ) → Is y c year_shift → Sound c m d → noon_number y (pos m) (pos d) ≡ pos (noon c m d)
literal y c m d i s = by_style y c m d i (room c m d s) (dec_le gregorian_key (key c m d))
