-- A date that exists and its day number, an instant and its date, each found from the other. Assumes nothing.
use mathlib.Core.Path.{◌≡◌, refl, sym, ap, ◌∙◌}
use mathlib.Core.Bool.{Bool, true, false, cond, false≢true}
use Prim.Native.Nat.{ℕ, suc, ◌+◌, ◌*◌, ◌/◌, ◌%◌, ◌-◌, ◌≤◌, ◌<◌}
use native.Mathlib.Omega.{arith}
use borrow.Author.Tests.{le-leb, eqb-true}
use lib.Dec.{eqb}
use lib.IntN.{ℤ, pos, negsuc, ◌+ℤ◌}
use Rattle.integers.proofs.Pairs.{nat, int, same, same⁻¹, ◌+ᵢ◌, ◌-ᵢ◌}
use Rattle.units.specs.Units.{t_limit, in_limit}
use Rattle.units.proofs.Limit.{size_within}
use Rattle.units.specs.declared.Instant.{Instant}
use Rattle.units.specs.declared.Refusal.{Refusal}
use Rattle.units.specs.declared.Refusal.TheVariants.{NoSuchDate, PastLimit}
use Rattle.arith.specs.Naturals.{natural_or}
use Rattle.calendar.specs.Calendar.{between, first_bad_of_four, noon_number, date_of_day, instant, limited, instant_of_date}
use Rattle.calendar.specs.Calendar.{day_of_instant, ms_of_instant, date_numbered, date_of_instant}
use Rattle.calendar.specs.Machine.Shifted.{year_index, Sound, noon, date_at, plain}
use Rattle.calendar.specs.declared.Date.{Date}
use Rattle.calendar.specs.declared.Shifted.{Shifted}
use Rattle.std.specs.Prelude.{Err, Ok, Result}
use Rattle.calendar.specs.declared.Moment.{Moment}
use Rattle.calendar.specs.Constants.{last_day, day_ms, last_ms}
use Rattle.calendar.specs.Machine.Shifted.{epoch_ms}
use Rattle.calendar.proofs.CallAnswers.{Fields, fields, instant_is, day_is, ms_is}
use Rattle.calendar.proofs.DatesFound.{date, plain_back, plain_exists, plain_noon, looked_for}
use Rattle.calendar.proofs.DayToDate.{found}
use Rattle.calendar.proofs.WholeDates.{Upto, inside, outside, upto, noon_law, noon_small}

-- ---- answers taken apart
pick_date : (b : Bool) (z w : Date) (r : Refusal) → cond b (Ok z) (Err r) ≡ Ok w → (b ≡ true) × (z ≡ w)
pick_date true z w r e = (refl, cc)
pick_date false z w r e = let x : ◌≡◌ {A = ℕ} 0 1 = cc in absurd (omega arith)

pick_instant : (b l : Bool) (z t : Instant) (q r : Refusal) → cond b (cond l (Ok z) (Err q)) (Err r) ≡ Ok t → (b ≡ true) × (l ≡ true) × (z ≡ t)
pick_instant true true z t q r e = (refl, refl, cc)
pick_instant true false z t q r e = let x : ◌≡◌ {A = ℕ} 0 1 = cc in absurd (omega arith)
pick_instant false l z t q r e = let x : ◌≡◌ {A = ℕ} 0 1 = cc in absurd (omega arith)

abbrev the_moment : Moment → Result Moment Refusal → Moment
the_moment m (Ok x) = x
the_moment m (Err r) = m

pick_moment : (b : Bool) (z w : Date) (j k : ℤ) (r : Refusal) → cond {A = Result Moment Refusal} b (Ok (record { date = z; ms = j })) (Err r) ≡ Ok (record { date = w; ms = k }) → (b ≡ true) × (z ≡ w) × (j ≡ k)
pick_moment true z w j k r e =
    let m : Moment = record { date = z; ms = j } in
    (refl, ap (λ (x : Result Moment Refusal). (the_moment m x).date) e, ap (λ (x : Result Moment Refusal). (the_moment m x).ms) e)
pick_moment false z w j k r e = let x : ◌≡◌ {A = ℕ} 0 1 = cc in absurd (omega arith)

-- ---- instants
-- the milliseconds from 0h of day number 0
pub record Since (t : ℤ) : Type 0 where
  pub u : ℕ
  pub is : pos u ≡ t +ℤ pos epoch_ms
  pub small : u ≤ epoch_ms + t_limit

pub since : (t : ℤ) → in_limit t ≡ true → Since t
since (pos k) h =
    let l : k ≤ t_limit = size_within t_limit (pos k) h in
    record { u = epoch_ms + k; is = same (nat (epoch_ms + k)) (int (pos k) +ᵢ nat epoch_ms) (omega arith); small = omega arith }
since (negsuc k) h =
    let l : suc k ≤ t_limit = size_within t_limit (negsuc k) h in
    record { u = epoch_ms - suc k; is = same (nat (epoch_ms - suc k)) (int (negsuc k) +ᵢ nat epoch_ms) (omega arith); small = omega arith }

days_of : (n k : ℕ) → k < day_ms → ((day_ms * n + k) / day_ms ≡ n) × ((day_ms * n + k) % day_ms ≡ k)
days_of n k h = omega arith

-- the instant of a day number and milliseconds has these again
module _ (n k : ℕ) (h : k < day_ms) where
  u_is : pos (day_ms * n + k) ≡ instant (pos n) (pos k) +ℤ pos epoch_ms
  u_is = rw (instant_is n k) (same (nat (day_ms * n + k)) (nat (day_ms * n + k) -ᵢ nat epoch_ms +ᵢ nat epoch_ms) (omega arith))

  day_again : day_of_instant (instant (pos n) (pos k)) ≡ pos n
  day_again = day_is (instant (pos n) (pos k)) (day_ms * n + k) u_is ∙ ap pos (days_of n k h).0

  ms_again : ms_of_instant (instant (pos n) (pos k)) ≡ pos k
  ms_again = ms_is (instant (pos n) (pos k)) (day_ms * n + k) u_is ∙ ap pos (days_of n k h).1

-- the day number and milliseconds of an instant have that instant again
instant_again : (t : ℤ) (u : ℕ) → pos u ≡ t +ℤ pos epoch_ms → instant (pos (u / day_ms)) (pos (u % day_ms)) ≡ t
instant_again t u e =
    instant_is (u / day_ms) (u % day_ms)
    ∙ same (nat (day_ms * (u / day_ms) + u % day_ms) -ᵢ nat epoch_ms) (int t) (omega (arith, same⁻¹ (nat u) (int t +ᵢ nat epoch_ms) e))

instant_of_plain : (n k : ℕ) (s : Shifted) → Sound s.index s.month s.day → noon s.index s.month s.day ≡ n → k < day_ms
    → instant_of_date (plain s).year (plain s).month (plain s).day (pos k) ≡ limited (instant (pos n) (pos k))
unfolding instant_of_date first_bad_of_four
instant_of_plain n k s p e h =
    rw (plain_exists s p, le-leb 0 k (omega arith), le-leb k last_ms (omega arith)) (ap (λ (z : ℤ). limited (instant z (pos k))) (plain_noon s p ∙ ap pos e))

-- ---- what an answer that is no refusal says
pub on_day : (k : ℕ) → k ≤ last_day → date_of_day (pos k) ≡ Ok (plain (date_at k))
unfolding date_of_day
on_day k h = rw (le-leb 0 k (omega arith), le-leb k last_day h) (ap Ok (looked_for k h))

pub same_date : {z w : Date} → ◌≡◌ {A = Result Date Refusal} (Ok z) (Ok w) → z ≡ w
same_date e = cc

pub record Dated (n : ℤ) (w : Date) : Type 0 where
  pub k : ℕ
  pub is : n ≡ pos k
  pub small : k ≤ last_day
  pub found : plain (date_at k) ≡ w

pub dated : (n : ℤ) (w : Date) → date_of_day n ≡ Ok w → Dated n w
unfolding date_of_day
dated n w e = go (upto n last_day)
  where
    p : (between (pos 0) n (pos last_day) ≡ true) × (date_numbered n ≡ w)
    p = pick_date (between (pos 0) n (pos last_day)) (date_numbered n) w (NoSuchDate 5) e

    go : Upto n last_day → Dated n w
    go (inside k i l r b) = record { k = k; is = i; small = l; found = sym (looked_for k l) ∙ ap date_numbered (sym i) ∙ p.1 }
    go (outside g b) = absurd (false≢true (sym b ∙ p.0))

limited_is : (t : Instant) → in_limit t.ms ≡ true → limited t.ms ≡ Ok t
limited_is t h = rw h

-- the instant of a date
pub record Timed (y m d ms : ℤ) (t : Instant) : Type 0 where
  pub all : Fields y m d ms
  pub limit : in_limit t.ms ≡ true
  pub is : instant (noon_number y m d) ms ≡ t.ms

pub timed : (y m d ms : ℤ) (t : Instant) → instant_of_date y m d ms ≡ Ok t → Timed y m d ms t
unfolding instant_of_date
timed y m d ms t e =
    let i = instant (noon_number y m d) ms in
    let p = pick_instant (eqb (first_bad_of_four y m d ms) 0) (in_limit i) (record { ms = i }) t _ _ e in
    let q : i ≡ t.ms = ap (λ (x : Instant). x.ms) p.2 in
    record { all = fields y m d ms (eqb-true _ _ p.0); limit = ap in_limit (sym q) ∙ p.1; is = q }

-- the date of an instant
pub moment_of : (t : Instant) (u : ℕ) → in_limit t.ms ≡ true → pos u ≡ t.ms +ℤ pos epoch_ms → u ≤ epoch_ms + t_limit
    → date_of_instant t ≡ Ok (record { date = plain (date_at (u / day_ms)); ms = pos (u % day_ms) })
unfolding date_of_instant
moment_of t u h e l =
    let d : date_numbered (day_of_instant t.ms) ≡ plain (date_at (u / day_ms)) =
    ap date_numbered (day_is t.ms u e) ∙ looked_for (u / day_ms) (omega arith) in
    rw h (λ i. Ok (record { date = d i; ms = ms_is t.ms u e i }))

pub limit_of : (t : Instant) (w : Date) (k : ℤ) → date_of_instant t ≡ Ok (record { date = w; ms = k }) → in_limit t.ms ≡ true
unfolding date_of_instant
limit_of t w k e = (pick_moment (in_limit t.ms) _ w _ k (PastLimit t) e).0

pub same_moment : {z w : Date} {j k : ℤ} → ◌≡◌ {A = Result Moment Refusal} (Ok (record { date = z; ms = j })) (Ok (record { date = w; ms = k })) → (z ≡ w) × (j ≡ k)
same_moment {z} {w} {j} {k} e =
    let m : Moment = record { date = z; ms = j } in
    (ap (λ (x : Result Moment Refusal). (the_moment m x).date) e, ap (λ (x : Result Moment Refusal). (the_moment m x).ms) e)

pub instant_back : (t : Instant) (w : Date) (k : ℤ) (u : ℕ) → in_limit t.ms ≡ true → pos u ≡ t.ms +ℤ pos epoch_ms → u ≤ epoch_ms + t_limit
    → date_of_instant t ≡ Ok (record { date = w; ms = k }) → instant_of_date w.year w.month w.day k ≡ Ok t
instant_back t w k u h e l p =
    let q = same_moment (sym (moment_of t u h e l) ∙ p) in
    let f = found (u / day_ms) (omega arith) in
    rw (← q.0, ← q.1) (instant_of_plain (u / day_ms) (u % day_ms) (date_at (u / day_ms)) f.sound f.number (omega arith)
    ∙ ap limited (instant_again t.ms u e) ∙ limited_is t h)

pub moment_back : (y m d ms : ℤ) (t : Instant) → Timed y m d ms t → date_of_instant t ≡ Ok (record { date = date y m d; ms = ms })
unfolding date_of_instant
moment_back y m d ms t i =
    let a = i.all in
    let n = noon (year_index y) (natural_or m 0) (natural_or d 0) in
    let r : ms ≡ pos a.k = a.ms_is in
    let v = sym r in
    let q = sym ((λ x. instant (noon_law y m d a.date x) (v x)) ∙ i.is) in
    rw i.limit
    ((λ x. Ok (record { date = date_numbered (day_of_instant (q x)); ms = ms_of_instant (q x) }))
    ∙ (λ x. Ok (record { date = date_numbered (day_again n a.k a.small x); ms = ms_again n a.k a.small x }))
    ∙ (λ x. Ok (record { date = looked_for n (noon_small y m d a.date) x; ms = pos a.k }))
    ∙ (λ x. Ok (record { date = plain_back y m d a.date x; ms = v x })))
