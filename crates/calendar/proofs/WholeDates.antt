-- The fields of a date, whole numbers, brought to the count in naturals and back, as the code does it. Assumes nothing.
use mathlib.Core.Path.{◌≡◌, refl, sym, ap, ◌∙◌}
use mathlib.Core.Bool.{true, false, false≢true, true≢false}
use Prim.Native.Nat.{ℕ, ◌+◌, ◌-◌, ◌≤◌, ◌<◌, ◌^◌}
use native.Mathlib.Decide.{dec_le}
use native.Mathlib.Omega.{arith}
use borrow.Author.Tests.{lt-leb, le-leb}
use lib.Dec.{lit<}
use lib.IntN.{ℤ, pos, negsuc, nat_abs, ◌-ℤ◌}
use mir.Syntax.{w64}
use mir.Val.{SFits, to_z, of_z}
use Rattle.integers.specs.Signs.{negative}
use Rattle.integers.proofs.Pairs.{Is}
use Rattle.integers.proofs.Order.{fits, nat_difference_fits}
use Rattle.std.proofs.lemmas.Int.{ints}
use Rattle.arith.specs.Naturals.{natural_or}
use Rattle.arith.proofs.Signs.{back}
use Rattle.calendar.specs.Calendar.{between, first_bad, noon_number}
use Rattle.calendar.specs.Machine.Shifted.{year_index, Sound, noon, date_at, plain}
use Rattle.calendar.specs.declared.Date.{Date}
use Rattle.calendar.specs.declared.Field.{Field as BadField}
use Rattle.calendar.specs.Machine.Fields.{Counted, bad_number}
use Rattle.std.proofs.Common.{Result, Ok as Given, Err, IfOk}
use Rattle.calendar.specs.declared.Shifted.{Shifted}
use Rattle.calendar.specs.Constants.{years_before_zero, last_year, year_shift, last_day}
use Rattle.calendar.specs.Machine.Shifted.{last_index}
use Rattle.calendar.proofs.DayToDate.{found}
use Rattle.calendar.proofs.Bounds.{month_le, exists, year_known}
use Rattle.calendar.proofs.Existing.{Exists, ok}
use Rattle.calendar.proofs.FirstBad.{Year, year, missing, year_of_index, Field, low, good, high, field, bad_law}
use Rattle.calendar.proofs.Formula.{literal}
use Rattle.calendar.proofs.DateToDay.{numbered}

-- ---- the date of a day number
pub record Small (s : Shifted) : Type 0 where
  pub index : s.index ≤ last_index
  pub month : s.month ≤ 12
  pub day : s.day ≤ 31

small_of : (s : Shifted) → Sound s.index s.month s.day → Small s
small_of s p =
    let o = ok _ _ _ p in
    record { index = o.small; month = o.month_small; day = omega (arith, month_le s.index s.month, o.day_small) }

pub date_small : (n : ℕ) (s : Shifted) → n ≤ last_day → s ≡ date_at n → Small s
date_small n s h e = rw e (small_of (date_at n) (found n h).sound)

pub plain_law : (s : Shifted) → Small s
    → ◌≡◌ {A = Date} (record { year = to_z w64 (of_z w64 (to_z w64 s.index -ℤ pos year_shift)); month = to_z w64 s.month; day = to_z w64 s.day }) (plain s)
plain_law s b =
    let py : to_z w64 (of_z w64 (to_z w64 s.index -ℤ pos year_shift)) ≡ pos s.index -ℤ pos year_shift = omega (arith, ints, b.index) in
    let pm : to_z w64 s.month ≡ pos s.month = omega (arith, ints, b.month) in
    let pd : to_z w64 s.day ≡ pos s.day = omega (arith, ints, b.day) in
    λ t. record { year = py t; month = pm t; day = pd t }

-- ---- a number that has to be from 0 to l
pub data Upto (x : ℤ) (l : ℕ) : Type 0 where
  inside : (k : ℕ) → x ≡ pos k → k ≤ l → ((o : ℕ) → natural_or x o ≡ k) → between (pos 0) x (pos l) ≡ true → Upto x l
  outside : ((o : ℕ) → l < o → l < natural_or x o) → between (pos 0) x (pos l) ≡ false → Upto x l

pub upto : (x : ℤ) (l : ℕ) → Upto x l
unfolding natural_or
upto (negsuc n) l = outside (λ o h. h) refl
upto (pos n) l = go (dec_le n l)
  where
    go : Dec (n ≤ l) → Upto (pos n) l
    go (yes h) = inside n refl h (λ o. refl) (rw (le-leb 0 n (omega arith), le-leb n l h))
    go (no h) = outside (λ o p. omega arith) (rw (le-leb 0 n (omega arith), lt-leb n l (omega arith)))

-- ---- a date that exists, as naturals
module _ (y m d : ℤ) (e : first_bad y m d ≡ 0) where
  pub sound_of : Sound (year_index y) (natural_or m 0) (natural_or d 0)
  sound_of = exists _ _ _ (year_known y _ refl) (bad_law y m d ∙ e)

  pub noon_law : pos (noon (year_index y) (natural_or m 0) (natural_or d 0)) ≡ noon_number y m d
  noon_law = go (year_of_index y) (field m 12) (field d 31)
    where
      o : Exists (year_index y) (natural_or m 0) (natural_or d 0)
      o = ok _ _ _ sound_of

      by_parts : (c k j : ℕ) → Is y c year_shift → year_index y ≡ c → m ≡ pos k → natural_or m 0 ≡ k → d ≡ pos j → natural_or d 0 ≡ j
          → pos (noon (year_index y) (natural_or m 0) (natural_or d 0)) ≡ noon_number y m d
      by_parts c k j i f z p t q = rw (f, p, q, z, t) (sym (literal y c k j i (rw (f, p, q) at sound_of)))

      go : Year y → Field m 12 → Field d 31 → pos (noon (year_index y) (natural_or m 0) (natural_or d 0)) ≡ noon_number y m d
      go (missing f g) p q = absurd (omega (arith, o.least))
      go (year c f a b i g) (low p x) q = absurd (omega (arith, o.month_least))
      go (year c f a b i g) (high k z p u v x) q = absurd (omega (arith, o.month_small))
      go (year c f a b i g) (good k z p u v x) (low q w) = absurd (omega (arith, o.day_least))
      go (year c f a b i g) (good k z p u v x) (good j t q r s w) = by_parts c k j i f z p t q
      go (year c f a b i g) (good k z p u v x) (high j t q r s w) = by_parts c k j i f z p t q

  pub noon_small : noon (year_index y) (natural_or m 0) (natural_or d 0) ≤ last_day
  noon_small = (numbered _ _ _ sound_of).small

  pub counted_is : Counted y m d (record { index = year_index y; month = natural_or m 0; day = natural_or d 0 })
  counted_is = record { sound = sound_of; number = noon_law; small = noon_small }

-- ---- a date of three fields, counted
pub counted_of : (y m d : ℤ) (i k j : ℕ) → i ≡ year_index y → k ≡ natural_or m 0 → j ≡ natural_or d 0 → first_bad y m d ≡ 0
    → Counted y m d (record { index = i; month = k; day = j })
counted_of y m d i k j p q r e = rw (p, q, r) (counted_is y m d e)

pub counted_where : (y m d : ℤ) (s : Shifted) (r : Result Shifted BadField) → IfOk r (λ t. t ≡ s) → bad_number r ≡ first_bad y m d
    → (first_bad y m d ≡ 0 → Counted y m d s) → IfOk r (Counted y m d)
counted_where y m d s (Given t) h e f = rw h (f (sym e))
counted_where y m d s (Err k) h e f = tt
