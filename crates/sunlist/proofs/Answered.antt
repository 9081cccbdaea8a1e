-- Where the list is answered, the window fits, both are series and may be asked at every minute, every place is usable, and the numbers are
-- written. Assumes nothing.
use mathlib.Core.Path.{◌≡◌, refl, ap, ◌∙◌, subst}
use mathlib.Core.Bool.{Bool, true, false, cond}
use mathlib.Core.List.{List}
use Prim.Native.Nat.{ℕ, ◌-◌, ◌≤◌}
use native.Mathlib.Omega.{arith}
use borrow.Author.Tests.{leb-true, le-leb, ltb-false}
use lib.Dec.{leb, ltb}
use lib.IntN.{ℤ, nat_abs}
use lib.ListN.{length}
use lib.Seq.{sets}
use Rattle.units.specs.Units.{in_limit}
use Rattle.units.specs.declared.Instant.{Instant}
use Rattle.units.specs.declared.Refusal.{Refusal}
use Rattle.units.specs.declared.Refusal.TheVariants.{PastLimit, NoRoom, NotUsable, BadWindow, TooFar}
use Rattle.limits.specs.declared.Term.{Term}
use Rattle.limits.specs.Wide.{four_millennia}
use Rattle.packed.specs.Series.{Parsed, accepted, refused, parse}
use Rattle.runs.specs.Runs.{run_numbers}
use Rattle.std.specs.Prelude.{Err, Ok}
use Rattle.sunlist.specs.SunList.{minute, window_fits, decision_at, first_bad, window_flags, Outcome, numbers, no_numbers, of_minutes}
use Rattle.sunlist.specs.SunList.{first_unasked, of_blocks, of_series, outcome_by, outcome, answered, written}
use Rattle.sunlist.specs.SunList.{sun_list_by, sun_list_out_by, sun_list, sun_list_out}

-- The numbers of n minutes.
abbrev pub list_of : (planet earth : List (List Term)) → Instant → ℕ → ℕ → List ℕ
list_of planet earth t0 n k = run_numbers (window_flags (decision_at planet earth t0 k) 0 n)

pub record Answered (planet_bytes earth_bytes : List ℕ) (t0 : Instant) (minutes keep_out : ℤ) (out : List ℕ) (count : ℕ) : Type 0 where
  pub window : window_fits minutes keep_out ≡ true
  pub first : in_limit t0.ms ≡ true
  pub last : in_limit (minute t0 (nat_abs minutes - 1)).ms ≡ true
  pub planet : List (List Term)
  pub earth : List (List Term)
  pub planet_series : parse planet_bytes ≡ accepted planet
  pub earth_series : parse earth_bytes ≡ accepted earth
  pub asked : nat_abs minutes ≤ first_unasked four_millennia planet earth t0 (nat_abs minutes)
  pub usable : nat_abs minutes ≤ first_bad (decision_at planet earth t0 (nat_abs keep_out)) 0 (nat_abs minutes)
  pub fits : length (list_of planet earth t0 (nat_abs minutes) (nat_abs keep_out)) ≤ length out
  pub count_is : count ≡ length (list_of planet earth t0 (nat_abs minutes) (nat_abs keep_out))
  pub holds : sun_list_out planet_bytes earth_bytes t0 minutes keep_out out ≡ sets out 0 (list_of planet earth t0 (nat_abs minutes) (nat_abs keep_out))

-- Each test on the way.
refused_not : {A : Type 0} (r : Refusal) (xs : List ℕ) → no_numbers r ≡ numbers xs → A
refused_not r xs e = let z : ◌≡◌ {A = ℕ} 0 1 = cc in absurd (omega arith)

chosen : (b : Bool) (o : Outcome) (r : Refusal) (xs : List ℕ) → cond b o (no_numbers r) ≡ numbers xs → (b ≡ true) × (o ≡ numbers xs)
chosen true o r xs e = (refl, e)
chosen false o r xs e = refused_not r xs e

passed : (b : Bool) (r : Refusal) (o : Outcome) (xs : List ℕ) → cond b (no_numbers r) o ≡ numbers xs → (b ≡ false) × (o ≡ numbers xs)
passed true r o xs e = refused_not r xs e
passed false r o xs e = (refl, e)

fitted : (b : Bool) (n count : ℕ) → cond b (Ok n) (Err (NoRoom n)) ≡ Ok count → (b ≡ true) × (count ≡ n)
fitted true n count e = (refl, cc)
fitted false n count e = let z : ◌≡◌ {A = ℕ} 0 1 = cc in absurd (omega arith)

ran : (room : ℕ) (o : Outcome) (count : ℕ) → answered room o ≡ Ok count → (xs : List ℕ) × (o ≡ numbers xs) × (length xs ≤ room) × (count ≡ length xs)
unfolding answered
ran room (numbers xs) count e = let h = fitted (leb (length xs) room) (length xs) count e in (xs, refl, leb-true _ _ h.0, h.1)
ran room (no_numbers r) count e = let z : ◌≡◌ {A = ℕ} 0 1 = cc in absurd (omega arith)

record Series (p e : Parsed) (t0 : Instant) (n k : ℕ) (xs : List ℕ) : Type 0 where
  planet : List (List Term)
  earth : List (List Term)
  planet_is : p ≡ accepted planet
  earth_is : e ≡ accepted earth
  blocks_are : of_blocks four_millennia planet earth t0 n k ≡ numbers xs

series : (p e : Parsed) (t0 : Instant) (n k : ℕ) (xs : List ℕ) → of_series four_millennia p e t0 n k ≡ numbers xs → Series p e t0 n k xs
unfolding of_series
series (refused r) e t0 n k xs h = refused_not r xs h
series (accepted p) (refused r) t0 n k xs h = refused_not r xs h
series (accepted p) (accepted e) t0 n k xs h = record { planet = p; earth = e; planet_is = refl; earth_is = refl; blocks_are = h }

-- Neither 17 nor 11 at any minute.
record Minutes (planet earth : List (List Term)) (t0 : Instant) (n k : ℕ) (xs : List ℕ) : Type 0 where
  asked : n ≤ first_unasked four_millennia planet earth t0 n
  usable : n ≤ first_bad (decision_at planet earth t0 k) 0 n
  numbers_are : xs ≡ list_of planet earth t0 n k

minutes_are : (planet earth : List (List Term)) (t0 : Instant) (n k : ℕ) (xs : List ℕ) → of_blocks four_millennia planet earth t0 n k ≡ numbers xs
    → Minutes planet earth t0 n k xs
unfolding of_blocks of_minutes
minutes_are planet earth t0 n k xs h =
    let at = decision_at planet earth t0 k in
    let far = first_unasked four_millennia planet earth t0 n in
    let f = passed (ltb far n) (TooFar (minute t0 far)) (of_minutes at n) xs h in
    let u = passed (ltb (first_bad at 0 n) n) (NotUsable (first_bad at 0 n)) (numbers (list_of planet earth t0 n k)) xs f.1 in
    let e = u.1 in
    record { asked = ltb-false _ _ f.0; usable = ltb-false _ _ u.0; numbers_are = cc }

put : (out : List ℕ) (o : Outcome) (xs : List ℕ) → o ≡ numbers xs → length xs ≤ length out → written out o ≡ sets out 0 xs
unfolding written
put out o xs e h = ap (written out) e ∙ ap (λ (b : Bool). cond b (sets out 0 xs) out) (le-leb _ _ h)

pub answered_is : (planet earth : List ℕ) (t0 : Instant) (minutes keep_out : ℤ) (out : List ℕ) (count : ℕ)
    → sun_list planet earth t0 minutes keep_out (length out) ≡ Ok count → Answered planet earth t0 minutes keep_out out count
unfolding sun_list_by sun_list_out_by outcome_by
answered_is planet earth t0 minutes keep_out out count e =
    let r = ran (length out) (outcome planet earth t0 minutes keep_out) count e in
    let w = chosen (window_fits minutes keep_out) _ BadWindow r.0 r.1 in
    let f = chosen (in_limit t0.ms) _ (PastLimit t0) r.0 w.1 in
    let l = chosen (in_limit (minute t0 (nat_abs minutes - 1)).ms) _ (PastLimit (minute t0 (nat_abs minutes - 1))) r.0 f.1 in
    let s = series (parse planet) (parse earth) t0 (nat_abs minutes) (nat_abs keep_out) r.0 l.1 in
    let m = minutes_are s.planet s.earth t0 (nat_abs minutes) (nat_abs keep_out) r.0 s.blocks_are in
    record {
      window = w.0;
      first = f.0;
      last = l.0;
      planet = s.planet;
      earth = s.earth;
      planet_series = s.planet_is;
      earth_series = s.earth_is;
      asked = m.asked;
      usable = m.usable;
      fits = subst (λ (xs : List ℕ). length xs ≤ length out) m.numbers_are r.2;
      count_is = r.3 ∙ ap length m.numbers_are;
      holds = put out (outcome planet earth t0 minutes keep_out) r.0 r.1 r.2 ∙ ap (λ (xs : List ℕ). sets out 0 xs) m.numbers_are;
    }
