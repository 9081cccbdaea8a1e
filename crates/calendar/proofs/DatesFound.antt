-- A date that exists is the date of its day number, and the date that specs/Calendar looks for is the one that the code works out.
-- Assumes nothing.
use mathlib.Core.Path.{◌≡◌, refl, sym, ap, ◌∙◌}
use mathlib.Core.Bool.{Bool, true, false, ◌&&◌, cond, false≢true, true≢false}
use Prim.Native.Nat.{ℕ, zero, suc, ◌+◌, ◌*◌, ◌/◌, ◌%◌, ◌-◌, ◌≤◌, ◌<◌}
use native.Mathlib.Decide.{ℕ_discrete}
use native.Mathlib.Omega.{arith}
use borrow.Author.Tests.{le-leb, leb-true, eqb-true, ltb-false}
use lib.Dec.{eqb, leb, lit<}
use lib.IntN.{ℤ, pos, negsuc, nat_abs, ◌-ℤ◌}
use Rattle.integers.proofs.Pairs.{Is, nat, same, ◌-ᵢ◌}
use Rattle.units.specs.declared.Refusal.{Refusal}
use Rattle.units.specs.declared.Refusal.TheVariants.{NoSuchDate}
use Rattle.arith.specs.Naturals.{natural_or}
use Rattle.arith.proofs.Naturals.{natural_back as field_back}
use lib.Signed.{lt_z}
use Rattle.calendar.proofs.Compare.{between_in}
use Rattle.calendar.specs.Calendar.{between, first_bad, noon_number, day_of_date, is_day, has_number, written_as, date_below, date_numbered, date_of_day}
use Rattle.calendar.specs.Machine.Shifted.{first_index, year_index, bad_field, Sound, noon, date_at, plain}
use Rattle.calendar.specs.declared.Date.{Date}
use Rattle.calendar.specs.declared.Shifted.{Shifted}
use Rattle.std.specs.Prelude.{Err, Ok, Result}
use Rattle.calendar.specs.Constants.{years_before_zero, last_year, year_shift, last_day}
use Rattle.calendar.proofs.DayToDate.{found}
use Rattle.calendar.proofs.Bounds.{month_le}
use Rattle.calendar.proofs.WholeDates.{Upto, inside, outside, upto, sound_of, noon_law, noon_small}
use Rattle.calendar.proofs.Existing.{Exists, ok}
use Rattle.calendar.proofs.FirstBad.{Year, year, missing, year_of_index, index_of, is_same, bad_law}
use Rattle.calendar.proofs.Formula.{literal}
use Rattle.calendar.proofs.DateToDay.{numbered}

abbrev pub date : ℤ → ℤ → ℤ → Date
date y m d = record { year = y; month = m; day = d }

pick_day : (b : Bool) (z n : ℤ) (r : Refusal) → cond b (Ok z) (Err r) ≡ Ok n → (b ≡ true) × (z ≡ n)
pick_day true z n r e = (refl, cc)
pick_day false z n r e = let x : ◌≡◌ {A = ℕ} 0 1 = cc in absurd (omega arith)

-- ---- a date that exists is the date of its day number
module _ (y m d : ℤ) (e : first_bad y m d ≡ 0) where
  year_back : pos (year_index y) -ℤ pos year_shift ≡ y
  year_back = go (year_of_index y)
    where
      o : Exists (year_index y) (natural_or m 0) (natural_or d 0)
      o = ok _ _ _ (sound_of y m d e)

      go : Year y → pos (year_index y) -ℤ pos year_shift ≡ y
      go (year c f p q i k) = rw f (same (nat c -ᵢ nat year_shift) i (omega arith))
      go (missing f k) = absurd (omega (arith, o.least))

  pub plain_back : plain (date_at (noon (year_index y) (natural_or m 0) (natural_or d 0))) ≡ date y m d
  plain_back =
      let s = sound_of y m d e in
      let o = ok _ _ _ s in
      let q = year_back in
      let r = field_back m 0 (λ x. omega (arith, o.month_least)) in
      let t = field_back d 0 (λ x. omega (arith, o.day_least)) in
      ap plain (numbered _ _ _ s).back ∙ (λ i. date (q i) (r i) (t i))

-- ---- a day number's date exists and has that number
module _ (s : Shifted) (p : Sound s.index s.month s.day) where
  year_is : Is (pos s.index -ℤ pos year_shift) s.index year_shift
  year_is = is_same (nat s.index -ᵢ nat year_shift) (omega arith)

  pub plain_exists : first_bad (plain s).year (plain s).month (plain s).day ≡ 0
  unfolding natural_or
  plain_exists =
      sym (bad_law (plain s).year (pos s.month) (pos s.day))
      ∙ ap (λ (c : ℕ). bad_field c s.month s.day) (index_of (plain s).year s.index p.least p.small year_is)
      ∙ p.exists

  pub plain_noon : noon_number (plain s).year (plain s).month (plain s).day ≡ pos (noon s.index s.month s.day)
  plain_noon = literal _ _ _ _ year_is p

pub day_of_plain : (n : ℕ) (s : Shifted) → Sound s.index s.month s.day → noon s.index s.month s.day ≡ n
    → day_of_date (plain s).year (plain s).month (plain s).day ≡ Ok (pos n)
unfolding day_of_date
day_of_plain n s p e = rw (plain_exists s p) (ap Ok (plain_noon s p ∙ ap pos e))

pub record NumberedAs (y m d n : ℤ) : Type 0 where
  pub k : ℕ
  pub is : n ≡ pos k
  pub small : k ≤ last_day
  pub back : plain (date_at k) ≡ date y m d

pub numbered_as : (y m d n : ℤ) → day_of_date y m d ≡ Ok n → NumberedAs y m d n
unfolding day_of_date
numbered_as y m d n e =
    let p = pick_day (eqb (first_bad y m d) 0) (noon_number y m d) n (NoSuchDate (first_bad y m d)) e in
    let b : first_bad y m d ≡ 0 = eqb-true _ _ p.0 in
    record {
      k = noon (year_index y) (natural_or m 0) (natural_or d 0);
      is = sym p.1 ∙ sym (noon_law y m d b);
      small = noon_small y m d b;
      back = plain_back y m d b;
    }

-- ---- the date that is looked for
is_day_self : (n : ℕ) → is_day (pos n) (Ok (pos n)) ≡ true
unfolding is_day
is_day_self n = rw (le-leb n n (omega arith))

is_day_only : (n : ℕ) (a : Result ℤ Refusal) → is_day (pos n) a ≡ true → a ≡ Ok (pos n)
unfolding is_day
is_day_only n (Err r) e = absurd (false≢true e)
is_day_only n (Ok (negsuc k)) e = absurd (false≢true e)
is_day_only n (Ok (pos k)) e = go (leb n k) refl e
  where
    go : (b : Bool) → leb n k ≡ b → b && leb k n ≡ true → ◌≡◌ {A = Result ℤ Refusal} (Ok (pos k)) (Ok (pos n))
    go false p e = absurd (false≢true e)
    go true p e = ap (λ (x : ℕ). Ok (pos x)) (omega (arith, leb-true n k p, leb-true k n e))

-- a search among written numbers finds the one date that has the number
below : (n : ℤ) (w : Date) (c : ℕ) → written_as c ≡ w → has_number n w ≡ true → ((v : Date) → has_number n v ≡ true → v ≡ w)
    → (k : ℕ) → c < k → date_below k n ≡ w
unfolding date_below
below n w c e has only zero h = absurd (omega arith)
below n w c e has only (suc k) h = go (has_number n (written_as k)) refl (below n w c e has only k)
  where
    go : (b : Bool) → has_number n (written_as k) ≡ b → (c < k → date_below k n ≡ w) → cond b (written_as k) (date_below k n) ≡ w
    go true p more = only (written_as k) p
    go false p more = more (last (ℕ_discrete c k))
      where
        last : Dec (c ≡ k) → c < k
        last (no f) = omega (arith, h, f)
        last (yes f) = absurd (false≢true (sym p ∙ ap (λ (x : ℕ). has_number n (written_as x)) (sym f) ∙ ap (has_number n) e ∙ has))

-- the number as which the date is written
abbrev code : Shifted → ℕ
code s = 10000 * (s.index - first_index) + 100 * s.month + s.day

written_code : (s : Shifted) → Sound s.index s.month s.day → written_as (code s) ≡ plain s
written_code s p =
    let o = ok _ _ _ p in
    let d : s.day ≤ 31 = omega (arith, month_le s.index s.month, o.day_small) in
    let ey : code s / 10000 ≡ s.index - first_index = omega (arith, o.month_small) in
    let em : code s / 100 % 100 ≡ s.month = omega (arith, o.month_small) in
    let ed : code s % 100 ≡ s.day = omega (arith, o.month_small) in
    let y : pos (s.index - first_index) -ℤ pos years_before_zero ≡ pos s.index -ℤ pos year_shift =
    same (nat (s.index - first_index) -ᵢ nat years_before_zero) (nat s.index -ᵢ nat year_shift) (omega (arith, o.least)) in
    (λ i. date (pos (ey i) -ℤ pos years_before_zero) (pos (em i)) (pos (ed i))) ∙ (λ i. date (y i) (pos s.month) (pos s.day))

code_small : (s : Shifted) → Sound s.index s.month s.day → code s < 10000 * (years_before_zero + last_year + 1)
code_small s p = let o = ok _ _ _ p in omega (arith, month_le s.index s.month, o.day_small, o.month_small, o.small)

pub looked_for : (n : ℕ) → n ≤ last_day → date_numbered (pos n) ≡ plain (date_at n)
unfolding date_numbered
looked_for n h =
    let f = found n h in
    let s = date_at n in
    below (pos n) (plain s) (code s) (written_code s f.sound)
    (ap (is_day (pos n)) (day_of_plain n s f.sound f.number) ∙ is_day_self n)
    (λ v p. only v (numbered_as v.year v.month v.day (pos n) (is_day_only n _ p)))
    _ (code_small s f.sound)
  where
    only : (v : Date) → NumberedAs v.year v.month v.day (pos n) → v ≡ plain (date_at n)
    only v q = sym q.back ∙ ap (λ (x : ℕ). plain (date_at x)) (sym (ap nat_abs q.is))

-- ---- what date_of_day answers
pub no_date : (x : ℤ) → between (pos 0) x (pos last_day) ≡ false → Err (NoSuchDate 5) ≡ date_of_day x
unfolding date_of_day
no_date x e = rw e

pub on_date : (x : ℤ) (d : Date) → lt_z x (pos 0) ≡ false → lt_z (pos last_day) x ≡ false → d ≡ plain (date_at (nat_abs x)) → Ok d ≡ date_of_day x
unfolding date_of_day
on_date (pos n) d h l f = let g : n ≤ last_day = ltb-false last_day n l in rw (between_in (pos n) last_day h l) (ap Ok (f ∙ sym (looked_for n g)))
on_date (negsuc n) d h l f = absurd (true≢false h)
