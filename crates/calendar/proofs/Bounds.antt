-- Bounds of the calendar's definitions. Assumes nothing.
use mathlib.Core.Bool.{Bool, true, false, cond}
use Prim.Native.Nat.{ℕ, ◌+◌, ◌%◌, ◌-◌, ◌≤◌}
use native.Mathlib.Omega.{arith}
use lib.Dec.{leb, eqb, lit≤}
use mathlib.Core.Path.{◌≡◌, refl}
use native.Mathlib.Decide.{dec_le}
use borrow.Author.Tests.{le-leb, lt-leb, eqb-false}
use lib.IntN.{ℤ, pos, negsuc}
use Rattle.calendar.specs.Machine.Shifted.{leap_day, month_days, year_index, bad_field, Index, Sound}
use Rattle.calendar.specs.Constants.{years_before_zero, last_year, year_shift}
use Rattle.calendar.specs.Machine.Shifted.{first_index, last_index, reform_index}

cond_le : (b : Bool) {x y k : ℕ} → x ≤ k → y ≤ k → cond b x y ≤ k
cond_le true p q = p
cond_le false p q = q

pub leap_le : (c : ℕ) → leap_day c ≤ 1
unfolding leap_day
leap_le c =
    cond_le (eqb (c % 4) 0)
    (cond_le (leb c reform_index) (lit≤ tt) (cond_le (eqb ((c - year_shift) % 100) 0) (cond_le (eqb ((c - year_shift) % 400) 0) (lit≤ tt) (lit≤ tt)) (lit≤ tt)))
    (lit≤ tt)

pub month_le : (c m : ℕ) → month_days c m ≤ 31
unfolding month_days
month_le c m = cond_le (eqb m 2) (omega (arith, leap_le c)) (omega arith)

year_le : (y : ℤ) → year_index y ≤ last_index
unfolding year_index
year_le (pos n) = go (dec_le n last_year)
  where
    go : Dec (n ≤ last_year) → cond (leb n last_year) (n + year_shift) 0 ≤ last_index
    go (yes h) = rw (le-leb n last_year h) (omega arith)
    go (no h) = rw (lt-leb n last_year (omega arith)) (omega arith)
year_le (negsuc n) = cond_le (leb n (years_before_zero - 1)) (omega arith) (omega arith)

year_least : (y : ℤ) → (year_index y ≡ 0 → ⊥) → first_index ≤ year_index y
unfolding year_index
year_least (pos n) = go (dec_le n last_year)
  where
    go : Dec (n ≤ last_year) → (cond (leb n last_year) (n + year_shift) 0 ≡ 0 → ⊥) → first_index ≤ cond (leb n last_year) (n + year_shift) 0
    go (yes h) f = rw (le-leb n last_year h) (omega arith)
    go (no h) f = absurd (f (rw (lt-leb n last_year (omega arith)) refl))
year_least (negsuc n) = go (dec_le n (years_before_zero - 1))
  where
    go : Dec (n ≤ years_before_zero - 1) → (cond (leb n (years_before_zero - 1)) (year_shift - 1 - n) 0 ≡ 0 → ⊥)
        → first_index ≤ cond (leb n (years_before_zero - 1)) (year_shift - 1 - n) 0
    go (yes h) f = rw (le-leb n (years_before_zero - 1) h) (omega arith)
    go (no h) f = absurd (f (rw (lt-leb n (years_before_zero - 1) (omega arith)) refl))

index_first : (b : Bool) (y : ℕ) → cond b 1 y ≡ 0 → b ≡ false
index_first true y e = absurd (omega arith)
index_first false y e = refl

pub year_known : (y : ℤ) (c : ℕ) → c ≡ year_index y → Index c
year_known y c e = rw e (record { small = year_le y; least = year_least y })

-- a date that has no bad field exists
pub exists : (c m d : ℕ) → Index c → bad_field c m d ≡ 0 → Sound c m d
unfolding bad_field
exists c m d k f =
    record {
      least = k.least (eqb-false c 0 (index_first (eqb c 0) _ f));
      small = k.small;
      exists = f;
    }
