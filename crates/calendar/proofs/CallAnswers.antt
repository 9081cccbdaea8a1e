-- Each way through a public call ends in the answer that specs/Calendar defines, given what the calls within it gave. Assumes nothing.
use mathlib.Core.Path.{◌≡◌, refl, sym, ap, ◌∙◌}
use mathlib.Core.Bool.{true, false, cond, false≢true, true≢false}
use Prim.Native.Nat.{ℕ, zero, suc, ◌+◌, ◌*◌, ◌/◌, ◌%◌, ◌-◌, ◌≤◌, ◌<◌}
use native.Mathlib.Omega.{arith}
use borrow.Author.Tests.{eq-eqb, ne_eqb}
use lib.Dec.{lit<, eqb-suc-zero}
use lib.IntN.{ℤ, pos, negsuc, nat_abs, ◌+ℤ◌, ◌-ℤ◌}
use mir.Syntax.{w64}
use mir.Val.{to_z, of_z}
use Rattle.integers.specs.Signs.{negative}
use Rattle.integers.proofs.Pairs.{Is, nat, int, same, same⁻¹, less, suc-<ℤ, ◌+ᵢ◌, ◌-ᵢ◌, ◌*ᵢ◌}
use Rattle.integers.proofs.Division.{floor_is, modulo_is}
use Rattle.units.specs.Units.{t_limit, in_limit}
use Rattle.units.specs.declared.Instant.{Instant}
use Rattle.units.specs.declared.Refusal.TheVariants.{NoSuchDate, PastLimit}
use Rattle.arith.specs.Naturals.{natural_or}
use Rattle.calendar.specs.Calendar.{between, first_bad, first_bad_of_four, noon_number, day_of_date, instant, instant_of_date, day_of_instant}
use Rattle.calendar.specs.Calendar.{ms_of_instant, date_of_instant}
use Rattle.calendar.specs.Machine.Shifted.{date_at, plain}
use Rattle.calendar.specs.declared.Date.{Date}
use Rattle.std.specs.Prelude.{Err, Ok, Result, IsErr, IsErrAnd}
use lib.Signed.{lt_z}
use mir.ValLaws.{to_z_pos}
use Rattle.units.specs.declared.Refusal.{Refusal}
use Rattle.calendar.specs.Constants.{last_day, day_ms, last_ms, half_day_ms, epoch_day}
use Rattle.calendar.specs.Machine.Shifted.{epoch_ms}
use Rattle.calendar.proofs.FirstBad.{is_same}
use Rattle.calendar.proofs.DatesFound.{looked_for}
use Rattle.calendar.proofs.Compare.{between_in, natural_is}
use Rattle.calendar.proofs.WholeDates.{Upto, inside, outside, upto}
use Rattle.calendar.specs.declared.Field.{Field}
use Rattle.calendar.specs.declared.Field.TheVariants.{Year, Month, Day, Ms, Number}
use Rattle.calendar.specs.Machine.Fields.{field_number}

-- ---- a field that is refused
pub field_positive : (f : Field) → field_number f ≡ 0 → ⊥
field_positive Year e = omega arith
field_positive Month e = omega arith
field_positive Day e = omega arith
field_positive Ms e = omega arith
field_positive Number e = omega arith

pub refused : {A : Type 0} (r : Result A Refusal) (k : ℕ) → (IsErr r) × (IsErrAnd r (λ x. x ≡ NoSuchDate k)) → r ≡ Err (NoSuchDate k)
refused (Ok x) k h = absurd h.1
refused (Err x) k h = ap Err h.1

-- ---- date to day number
module _ (y m d : ℤ) where
  pub day_refused : (f : Field) → field_number f ≡ first_bad y m d → Err (NoSuchDate (field_number f)) ≡ day_of_date y m d
  unfolding day_of_date
  day_refused f e = rw (← e, ne_eqb (field_number f) 0 (field_positive f))

  pub day_given : 0 ≡ first_bad y m d → (n : ℕ) → pos n ≡ noon_number y m d → n ≤ last_day → Ok (to_z w64 n) ≡ day_of_date y m d
  unfolding day_of_date
  day_given e n g l = rw (← e) (ap Ok (to_z_pos w64 n (omega arith) ∙ g))

-- what the first bad of four fields says where it is 0
pub record Fields (y m d ms : ℤ) : Type 0 where
  pub date : first_bad y m d ≡ 0
  pub k : ℕ
  pub ms_is : ms ≡ pos k
  pub small : k < day_ms
  pub natural : (o : ℕ) → natural_or ms o ≡ k

pub fields : (y m d ms : ℤ) → first_bad_of_four y m d ms ≡ 0 → Fields y m d ms
unfolding first_bad_of_four
fields y m d ms e = go (first_bad y m d) refl (upto ms last_ms)
  where
    go : (f : ℕ) → first_bad y m d ≡ f → Upto ms last_ms → Fields y m d ms
    go zero p (inside k a b r t) = record { date = p; k = k; ms_is = a; small = omega arith; natural = r }
    go zero p (outside g t) = absurd (let z : ◌≡◌ {A = ℕ} 4 0 = rw (p, t) at e in omega arith)
    go (suc f) p u = absurd (let z : suc f ≡ 0 = rw (p, eqb-suc-zero f) at e in omega arith)

-- ---- instants
pub instant_is : (n ms : ℕ) → instant (pos n) (pos ms) ≡ pos (day_ms * n + ms) -ℤ pos epoch_ms
unfolding instant
instant_is n ms =
    same (nat day_ms *ᵢ (nat n -ᵢ nat epoch_day) +ᵢ nat ms -ᵢ nat half_day_ms) (nat (day_ms * n + ms) -ᵢ nat epoch_ms) (omega arith)

module _ (y m d ms : ℤ) where
  pub instant_refused : (f : Field) → field_number f ≡ first_bad y m d → Err (NoSuchDate (field_number f)) ≡ instant_of_date y m d ms
  unfolding instant_of_date first_bad_of_four
  instant_refused f e = let g = ne_eqb (field_number f) 0 (field_positive f) in rw (← e, g, g)

  module _ (e : 0 ≡ first_bad y m d) where
    pub ms_refused : between (pos 0) ms (pos last_ms) ≡ false → Err (NoSuchDate 4) ≡ instant_of_date y m d ms
    unfolding instant_of_date first_bad_of_four
    ms_refused f = rw (← e, f)

    module _ (low : lt_z ms (pos 0) ≡ false) (high : lt_z (pos last_ms) ms ≡ false) (n : ℕ) (f : pos n ≡ noon_number y m d) (t : ℤ) (i : t ≡ instant (pos n) (pos (nat_abs ms))) where
      known : t ≡ instant (noon_number y m d) ms
      known = let z = natural_is ms low in i ∙ (λ x. instant (f x) (z x))

      none : first_bad_of_four y m d ms ≡ 0
      unfolding first_bad_of_four
      none = rw (← e, between_in ms last_ms low high)

      pub instant_past : in_limit t ≡ false → Err (PastLimit (record { ms = t })) ≡ instant_of_date y m d ms
      unfolding instant_of_date
      instant_past l = rw (none, ← known, l)

      pub instant_given : in_limit t ≡ true → Ok (record { ms = t }) ≡ instant_of_date y m d ms
      unfolding instant_of_date
      instant_given l = rw (none, ← known, l)

-- ---- instant to date: u is the milliseconds from 0h of day number 0
module _ (t : ℤ) (u : ℕ) (e : pos u ≡ t +ℤ pos epoch_ms) where
  since_noon : Is (t +ℤ pos half_day_ms) u 211813488000000
  since_noon = is_same (int t +ᵢ nat half_day_ms) (omega (arith, same⁻¹ (nat u) (int t +ᵢ nat epoch_ms) e))

  pub day_is : day_of_instant t ≡ pos (u / day_ms)
  day_is =
      ap (λ (z : ℤ). z +ℤ pos epoch_day)
      (floor_is (t +ℤ pos half_day_ms) (pos (u / day_ms) -ℤ pos epoch_day) day_ms (lit< tt)
      (less (nat day_ms *ᵢ (nat (u / day_ms) -ᵢ nat epoch_day)) since_noon (omega arith))
      (suc-<ℤ _ _ (less (since_noon +ᵢ nat 1) (nat day_ms *ᵢ (nat (u / day_ms) -ᵢ nat epoch_day +ᵢ nat 1)) (omega arith))))
      ∙ same (nat (u / day_ms) -ᵢ nat epoch_day +ᵢ nat epoch_day) (nat (u / day_ms)) (omega arith)

  pub ms_is : ms_of_instant t ≡ pos (u % day_ms)
  ms_is =
      ap pos
      (modulo_is (t +ℤ pos half_day_ms) (pos (u / day_ms) -ℤ pos epoch_day) day_ms (u % day_ms) (omega arith)
      (same since_noon (nat day_ms *ᵢ (nat (u / day_ms) -ᵢ nat epoch_day) +ᵢ nat (u % day_ms)) (omega arith)))

pub moment_past : (t : Instant) → in_limit t.ms ≡ false → Err (PastLimit t) ≡ date_of_instant t
unfolding date_of_instant
moment_past t l = rw l

pub moment_given : (t : Instant) (u : ℕ) (d : Date) → in_limit t.ms ≡ true → pos u ≡ t.ms +ℤ pos epoch_ms → u ≤ epoch_ms + t_limit
    → d ≡ plain (date_at (u / day_ms)) → Ok (record { date = d; ms = to_z w64 (u % day_ms) }) ≡ date_of_instant t
unfolding date_of_instant
moment_given t u d l f b g =
    rw (l, day_is t.ms u f)
    (λ i. Ok (record { date = (g ∙ sym (looked_for (u / day_ms) (omega arith))) i; ms = (to_z_pos w64 (u % day_ms) (omega arith) ∙ sym (ms_is t.ms u f)) i }))
