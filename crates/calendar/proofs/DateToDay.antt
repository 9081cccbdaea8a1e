-- Over naturals, a date's day number exists and gives the date back; what the code of `Shifted::noon` asks. Assumes nothing.
use mathlib.Core.Path.{◌≡◌, refl, ap, ◌∙◌, subst}
use mathlib.Core.Logic.{◌⊎◌, inl, inr}
use mathlib.Core.Bool.{Bool}
use Prim.Native.Nat.{ℕ, ◌+◌, ◌*◌, ◌/◌, ◌%◌, ◌-◌, ◌≤◌, ◌<◌}
use native.Mathlib.Decide.{dec_le, ℕ_discrete}
use native.Mathlib.Omega.{arith}
use borrow.Author.Tests.{lt-ltb, le-ltb}
use lib.Dec.{eqb, eqb→eq}
use Rattle.integers.proofs.Tests.{every_below}
use Rattle.calendar.proofs.Bounds.{leap_le, month_le}
use Rattle.calendar.specs.declared.Shifted.{Shifted}
use Rattle.calendar.specs.Machine.Shifted.{leap_day, month_days, key, Sound, march_year, march_month, julian, with_beta, noon, century, julian_count}
use Rattle.calendar.specs.Machine.Shifted.{year_of, day_of, month_of, before_month, from_march, in_year, of_count, date_at}
use Rattle.calendar.specs.Constants.{four_years, year_shift, month_rate, rate_scale, day_shift, last_day}
use Rattle.calendar.specs.Machine.Shifted.{last_index, reform_index, skipped_key, gregorian_key, reform_day, march_shift, year_zero, four_centuries}
use Rattle.calendar.proofs.Existing.{Leap, not4, old, plain, cent, quad, leap, february, other, Exists, ok}

-- the days before the month k of the year that begins in March
abbrev pub F : ℕ → ℕ
F k = before_month k

-- the days before the year a, and before the century A
abbrev pub Y : ℕ → ℕ
Y a = four_years * a / 4

abbrev pub C : ℕ → ℕ
C A = four_centuries * A / 4

pub Y_is : (a : ℕ) → Y a ≡ 365 * a + a / 4
Y_is a = omega arith

pub C_is : (A : ℕ) → C A ≡ 36524 * A + A / 4
C_is A = omega arith

pub month_part : (k : ℕ) → k < 12 → month_rate * (k + 4) / rate_scale ≡ F k + 122
month_part k h = omega arith

month_back : (k d : ℕ) → k < 12 → 0 < d → F k + d ≤ F (k + 1) → month_of (F k + d - 1) ≡ k
month_back k d h p q = omega arith

year_back : (a r j : ℕ) → r < Y (a + 1) - Y a → j + march_shift ≡ Y a + r → year_of j ≡ a
unfolding year_of
year_back a r j h e = omega arith

century_back : (A g n : ℕ) → g < C (A + 1) - C A → n - year_zero ≡ C A + g → century n ≡ A
century_back A g n h e = omega arith

shifted : {c c' m m' d d' : ℕ} → c ≡ c' → m ≡ m' → d ≡ d' → ◌≡◌ {A = Shifted} (record { index = c; month = m; day = d })
    (record { index = c'; month = m'; day = d' })
shifted p q r = λ i. record { index = p i; month = q i; day = r i }

-- a date that exists, in the year that begins in March
record March (c m d a k : ℕ) : Type 0 where
  year : march_year c m ≡ a
  month : march_month m ≡ k + 3
  twelve : k < 12
  slot : F k + d ≤ F (k + 1)
  within : F k + d ≤ Y (a + 1) - Y a
  back : from_march a k (F k + d - 1) ≡ record { index = c; month = m; day = d }
  low : 1402 ≤ Y a + F k + d
  small : a ≤ last_index
  high : a ≡ last_index → F k + d ≤ 306
  early : key c m d < skipped_key → Y a + F k + d - 1402 < reform_day
  modern : gregorian_key ≤ key c m d → reform_index ≤ a
  late : gregorian_key ≤ key c m d → reform_day ≤ with_beta ((a - year_shift) / 100) (Y a + F k + d - 1402)
  last : reform_index ≤ a → (a - year_shift) % 100 ≡ 99 → F k + d ≤ 365 + (((a - year_shift) / 100 + 1) / 4 - (a - year_shift) / 100 / 4)

-- the length of a year that begins in March
leap_year : (a : ℕ) → (a + 1) % 4 ≡ 0 → Y (a + 1) ≡ Y a + 366
leap_year a h = omega (arith, Y_is a, Y_is (a + 1))

year_long : (a : ℕ) → Y a + 365 ≤ Y (a + 1)
year_long a = omega arith

feb : (c a d : ℕ) → a + 1 ≡ c → d ≤ 28 + leap_day c → Leap c → 337 + d ≤ Y (a + 1) - Y a
feb c a d e h (not4 p l) = omega (arith, year_long a)
feb c a d e h (old p q l) = omega (arith, leap_year a (omega arith))
feb c a d e h (plain p q r l) = omega (arith, leap_year a (omega arith))
feb c a d e h (cent p q r s l) = omega (arith, year_long a)
feb c a d e h (quad p q r s l) = omega (arith, leap_year a (omega arith))

quarter : (x q : ℕ) → x + 1 ≡ 4 * q → (x + 1) / 4 ≡ x / 4 + 1
quarter x q e = omega arith

-- the last February of a century
feb_last : (c a d : ℕ) → a + 1 ≡ c → d ≤ 28 + leap_day c → reform_index ≤ a → (a - year_shift) % 100 ≡ 99 → Leap c
    → 337 + d ≤ 365 + (((a - year_shift) / 100 + 1) / 4 - (a - year_shift) / 100 / 4)
feb_last c a d e h g n (not4 p l) = omega arith
feb_last c a d e h g n (old p q l) = omega arith
feb_last c a d e h g n (plain p q r l) = absurd (r (omega arith))
feb_last c a d e h g n (cent p q r s l) = omega arith
feb_last c a d e h g n (quad p q r s l) =
    let f : c - year_shift ≡ 100 * ((a - year_shift) / 100 + 1) = omega arith in
    omega (arith, quarter ((a - year_shift) / 100) ((c - year_shift) / 400) (omega arith))

late_high : (a f d : ℕ) → 2300649 ≤ Y a + f → reform_index ≤ a → 0 < d → reform_day ≤ with_beta ((a - year_shift) / 100) (Y a + f + d - 1402)
late_high a f d h p q = omega (arith, Y_is a)

slot_test : ℕ → Bool
slot_test k = eqb (F k + (30 + (k + 3 + (k + 3) / 8) % 2)) (F (k + 1))

pub slot_len : (m : ℕ) → 3 ≤ m → m ≤ 12 → F (m - 3) + (30 + (m + m / 8) % 2) ≡ F (m - 3 + 1)
unfolding slot_test
slot_len m h l =
    let e : m - 3 + 3 ≡ m = omega arith in
    subst (λ (x : ℕ). F (m - 3) + (30 + (x + x / 8) % 2) ≡ F (m - 3 + 1)) e (eqb→eq _ _ (every_below 10 slot_test tt (m - 3) (omega arith)))

early_rest : (c m d : ℕ) → 3 ≤ m → m ≤ 12 → d ≤ 31 → key c m d < skipped_key → Y c + F (m - 3) + d - 1402 < reform_day
early_rest c m d p q r h = go (dec_le c 6297)
  where
    f : F (m - 3) ≤ 275
    f = omega arith

    g : 100 * m + d < 1005 → F (m - 3) + d ≤ 218
    g e = omega arith

    go : Dec (c ≤ 6297) → Y c + F (m - 3) + d - 1402 < reform_day
    go (yes l) = let y : Y c ≤ 2299979 = omega arith in omega (arith, y, f)
    go (no l) =
        let e : c ≡ reform_index = omega arith in
        let y : Y c ≡ 2300344 = ap Y e in
        omega (arith, y, g (omega arith))

late_rest : (c m d : ℕ) → 3 ≤ m → m ≤ 12 → 0 < d → gregorian_key ≤ key c m d → d ≤ 31
    → reform_day ≤ with_beta ((c - year_shift) / 100) (Y c + F (m - 3) + d - 1402)
late_rest c m d p q r h w = go (dec_le c reform_index)
  where
    g : 1015 ≤ 100 * m + d → Dec (11 ≤ m) → 229 ≤ F (m - 3) + d
    g e (yes l) = omega arith
    g e (no l) = let f : m ≡ 10 = omega arith in let y : F (m - 3) ≡ 214 = ap (λ (x : ℕ). F (x - 3)) f in omega arith

    go : Dec (c ≤ reform_index) → reform_day ≤ with_beta ((c - year_shift) / 100) (Y c + F (m - 3) + d - 1402)
    go (yes l) =
        let e : c ≡ reform_index = omega arith in
        let y : Y c ≡ 2300344 = ap Y e in
        let z : (c - year_shift) / 100 ≡ 15 = ap (λ (x : ℕ). (x - year_shift) / 100) e in
        let k = g (omega arith) (dec_le 11 m) in
        rw (y, z) (omega (arith, k))
    go (no l) = late_high c (F (m - 3)) d (let y : 2300649 ≤ Y c = omega arith in omega (arith, y)) (omega arith) r

march_rest : (c m d : ℕ) → Exists c m d → 3 ≤ m → March c m d c (m - 3)
march_rest c m d o h =
    let l : month_days c m ≡ 30 + (m + m / 8) % 2 = other c m (omega arith) in
    let s : F (m - 3) + d ≤ F (m - 3 + 1) = omega (arith, slot_len m h o.month_small) in
    record {
      year = rw (le-ltb m 3 h);
      month = rw (le-ltb m 3 h) (omega arith);
      twelve = omega arith;
      slot = s;
      within = omega (arith, year_long c);
      back = rw (lt-ltb (m - 3) 10 (omega arith)) (shifted refl (omega arith) (omega arith));
      low = omega arith;
      small = omega arith;
      high = λ e. omega arith;
      early = λ e. early_rest c m d h o.month_small (omega arith) e;
      modern = λ e. omega arith;
      late = λ e. late_rest c m d h o.month_small o.day_least e (omega arith);
      last = λ e f. omega arith;
    }

march_jan : (c d : ℕ) → Exists c 1 d → March c 1 d (c - 1) 10
march_jan c d o =
    let l : month_days c 1 ≡ 31 = other c 1 (λ e. omega (arith, e)) in
    record {
      year = refl;
      month = refl;
      twelve = omega arith;
      slot = omega arith;
      within = omega (arith, year_long (c - 1));
      back = (shifted (omega arith) (omega arith) (omega arith));
      low = omega arith;
      small = omega arith;
      high = λ e. omega arith;
      early = λ e. omega arith;
      modern = λ e. omega arith;
      late = λ e. late_high (c - 1) (F 10) d (omega arith) (omega arith) o.day_least;
      last = λ e f. omega arith;
    }

march_feb : (c d : ℕ) → Exists c 2 d → March c 2 d (c - 1) 11
march_feb c d o =
    let l : month_days c 2 ≡ 28 + leap_day c = february c 2 refl in
    record {
      year = refl;
      month = refl;
      twelve = omega arith;
      slot = omega (arith, leap_le c);
      within = omega (arith, feb c (c - 1) d (omega arith) (omega arith) (leap c));
      back = (shifted (omega arith) (omega arith) (omega arith));
      low = omega arith;
      small = omega arith;
      high = λ e. omega arith;
      early = λ e. omega (arith, leap_le c);
      modern = λ e. omega (arith, leap_le c);
      late = λ e. let h : 6299 ≤ c = omega (arith, leap_le c) in late_high (c - 1) (F 11) d (omega arith) (omega arith) o.day_least;
      last = λ e f. omega (arith, feb_last c (c - 1) d (omega arith) (omega arith) e f (leap c));
    }

-- the century of a day: f is the day of the year that begins in March, from 1
century_law : (a f : ℕ) → reform_index ≤ a → 0 < f → f ≤ 366 → ((a - year_shift) % 100 ≡ 99
    → f ≤ 365 + (((a - year_shift) / 100 + 1) / 4 - (a - year_shift) / 100 / 4)) → (n : ℕ) → n ≡ with_beta ((a - year_shift) / 100) (Y a + f - 1402)
    → century n ≡ (a - year_shift) / 100
century_law a f h p q l n e = go (ℕ_discrete b 99)
  where
    A : ℕ
    A = (a - year_shift) / 100

    b : ℕ
    b = (a - year_shift) % 100

    x : a ≡ 100 * A + b + year_shift
    x = omega arith

    y : b < 100
    y = omega arith

    z : Y a ≡ 36525 * A + 1722519 + 365 * b + b / 4
    z = omega (arith, Y_is a)

    w : n - year_zero ≡ C A + (365 * b + b / 4 + f - 1)
    w = omega (arith, C_is A)

    go : Dec (b ≡ 99) → century n ≡ (a - year_shift) / 100
    go (yes t) = century_back A (365 * b + b / 4 + f - 1) n (omega (arith, l t, C_is A, C_is (A + 1))) w
    go (no t) = century_back A (365 * b + b / 4 + f - 1) n (omega (arith, C_is A, C_is (A + 1))) w

in_march : (c m d : ℕ) → Exists c m d → (a : ℕ) × (k : ℕ) × March c m d a k
in_march c m d o = go (dec_le 3 m) (ℕ_discrete m 1)
  where
    go : Dec (3 ≤ m) → Dec (m ≡ 1) → (a : ℕ) × (k : ℕ) × March c m d a k
    go (yes h) e = (c, m - 3, march_rest c m d o h)
    go (no h) (yes e) = (c - 1, 10, rw e (march_jan c d (rw e at o)))
    go (no h) (no e) = let f : m ≡ 2 = omega arith in (c - 1, 11, rw f (march_feb c d (rw f at o)))

module _ (c m d a k : ℕ) (r : March c m d a k) (pos_d : 0 < d) where
  julian_is : julian (march_year c m) (march_month m) d ≡ Y a + F k + d - 1402
  julian_is = rw (r.year, r.month) (omega (arith, month_part k r.twelve))

  count_back : of_count (Y a + F k + d - 1402) ≡ record { index = c; month = m; day = d }
  count_back =
      let j : ℕ = Y a + F k + d - 1402 in
      let low = r.low in
      let y : year_of j ≡ a = year_back a (F k + d - 1) j (omega (arith, r.within, pos_d)) (omega (arith, low, pos_d)) in
      let e : day_of j a ≡ F k + d - 1 = omega (arith, low, pos_d) in
      ap (λ (x : ℕ). in_year x (day_of j x)) y ∙ ap (in_year a) e ∙ ap (λ (x : ℕ). from_march a x (F k + d - 1)) (month_back k d r.twelve pos_d r.slot)
      ∙ r.back

  century_is : gregorian_key ≤ key c m d → century (with_beta ((a - year_shift) / 100) (Y a + F k + d - 1402)) ≡ (a - year_shift) / 100
  century_is h =
      century_law a (F k + d) (r.modern h) (omega (arith, pos_d)) (omega (arith, r.twelve, r.slot, r.within)) (r.last (r.modern h)) _
      (omega (arith, pos_d))

-- the day number of a date that exists
pub record Numbered (c m d : ℕ) : Type 0 where
  pub small : noon c m d ≤ last_day
  pub back : date_at (noon c m d) ≡ record { index = c; month = m; day = d }

top_law : (a f d : ℕ) → reform_index ≤ a → a ≤ last_index → f + d ≤ 366 → (a ≡ last_index → f + d ≤ 306)
    → with_beta ((a - year_shift) / 100) (Y a + f + d - 1402) ≤ last_day
top_law a f d h l p q = go (ℕ_discrete a last_index)
  where
    go : Dec (a ≡ last_index) → with_beta ((a - year_shift) / 100) (Y a + f + d - 1402) ≤ last_day
    go (yes e) = rw (ap (λ (x : ℕ). (x - year_shift) / 100) e, ap Y e) (omega (arith, q e))
    go (no e) = omega (arith, Y_is a)

module _ (c m d a k : ℕ) (r : March c m d a k) (pos_d : 0 < d) where
  J : ℕ
  J = Y a + F k + d - 1402

  A : ℕ
  A = (a - year_shift) / 100

  days : F k + d ≤ 366
  days = omega (arith, r.twelve, r.slot, r.within)

  old_style : key c m d < skipped_key → Numbered c m d
  unfolding noon julian_count J
  old_style h =
      let e : noon c m d ≡ J = rw (lt-ltb (key c m d) gregorian_key (omega arith)) (julian_is c m d a k r pos_d) in
      let l : J < reform_day = r.early h in
      record {
        small = rw e (omega arith);
        back = rw (e, lt-ltb J reform_day l) (count_back c m d a k r pos_d);
      }

  new_style : gregorian_key ≤ key c m d → Numbered c m d
  unfolding noon julian_count J A
  new_style h =
      let e : noon c m d ≡ with_beta A J = rw (le-ltb (key c m d) gregorian_key h, julian_is c m d a k r pos_d, r.year) in
      let q : century (with_beta A J) ≡ A = century_is c m d a k r pos_d h in
      let t : with_beta A J + A - (2 + A / 4) ≡ J = omega (arith, r.late h) in
      record {
        small = rw e (top_law a (F k) d (r.modern h) r.small days r.high);
        back = rw (e, le-ltb (with_beta A J) reform_day (r.late h), q, t) (count_back c m d a k r pos_d);
      }

pub numbered : (c m d : ℕ) → Sound c m d → Numbered c m d
numbered c m d s = go o.gap
  where
    o : Exists c m d
    o = ok c m d s

    q : (a : ℕ) × (k : ℕ) × March c m d a k
    q = in_march c m d o

    go : (key c m d < skipped_key) ⊎ (gregorian_key ≤ key c m d) → Numbered c m d
    go (inl h) = old_style c m d q.0 q.1 q.2 o.day_least h
    go (inr h) = new_style c m d q.0 q.1 q.2 o.day_least h

-- what the code of `Shifted::noon` asks
pub record Room (c m d : ℕ) : Type 0 where
  pub index : 0 < c
  pub top : c ≤ last_index
  pub month : m ≤ 12
  pub day : d ≤ 31
  pub year : march_year c m ≤ last_index
  pub march : march_month m ≤ 14
  pub low : day_shift ≤ four_years * march_year c m / 4 + month_rate * (march_month m + 1) / rate_scale + d
  pub modern : gregorian_key ≤ key c m d → reform_index ≤ march_year c m

room_of : (c m d a k : ℕ) → Exists c m d → March c m d a k → Room c m d
room_of c m d a k o r =
    record {
      index = omega (arith, o.least);
      top = o.small;
      month = o.month_small;
      day = omega (arith, month_le c m, o.day_small);
      year = rw r.year r.small;
      march = rw r.month (omega (arith, r.twelve));
      low = rw (r.year, r.month) (omega (arith, month_part k r.twelve, r.low));
      modern = λ h. rw r.year (r.modern h);
    }

pub room : (c m d : ℕ) → Sound c m d → Room c m d
room c m d s =
    let o = ok c m d s in
    let q = in_march c m d o in
    room_of c m d q.0 q.1 o q.2
