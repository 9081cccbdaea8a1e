-- Over naturals, a day number's date exists and has that number; what the code of date_at asks. Assumes nothing.
use mathlib.Core.Path.{◌≡◌, refl, sym, ap, ◌∙◌, subst}
use mathlib.Core.Logic.{inl, inr}
use Prim.Native.Nat.{ℕ, ◌+◌, ◌*◌, ◌/◌, ◌%◌, ◌-◌, ◌≤◌, ◌<◌}
use native.Mathlib.Decide.{dec_le, ℕ_discrete}
use native.Mathlib.Omega.{arith}
use borrow.Author.Tests.{lt-ltb, le-ltb}
use Rattle.calendar.specs.Machine.Shifted.{leap_day, month_days, key, Sound, march_year, march_month, julian, with_beta, noon, century, julian_count}
use Rattle.calendar.specs.Machine.Shifted.{year_of, day_of, month_of, from_march, date_at}
use Rattle.calendar.specs.Constants.{four_years, year_shift, last_day}
use Rattle.calendar.specs.Machine.Shifted.{first_index, last_index, reform_index, skipped_key, gregorian_key, reform_day, march_shift, year_zero}
use Rattle.calendar.specs.Machine.Shifted.{four_centuries}
use Rattle.calendar.proofs.Existing.{Leap, not4, old, plain, cent, quad, leap, february, other, sound}
use Rattle.calendar.proofs.DateToDay.{F, Y, C, Y_is, C_is, month_part, slot_len}

-- what the count of a day number is
data Count (n : ℕ) : Type 0 where
  old_style : n < reform_day → julian_count n ≡ n → Count n
  new_style : reform_day ≤ n → (A : ℕ) → century n ≡ A → julian_count n ≡ n + A - (2 + A / 4) → Count n

count : (n : ℕ) → Count n
unfolding julian_count
count n = go (dec_le reform_day n)
  where
    go : Dec (reform_day ≤ n) → Count n
    go (yes h) = new_style h (century n) refl (rw (le-ltb n reform_day h))
    go (no h) = let l : n < reform_day = omega arith in old_style l (rw (lt-ltb n reform_day l))

-- the place of a day in the year that begins in March
record Place (j a r k : ℕ) : Type 0 where
  year : Y a + r ≡ j + march_shift
  within : r < Y (a + 1) - Y a
  month : F k ≤ r
  before : r < F (k + 1)
  twelve : k < 12

year_law : (x a : ℕ) → a ≡ (4 * x + 3) / four_years → (Y a ≤ x) × (x < Y (a + 1))
year_law x a e = omega arith

month_law : (r k : ℕ) → r ≤ 365 → k ≡ (5 * r + 2) / 153 → (F k ≤ r) × (r < F (k + 1)) × (k < 12)
month_law r k h e = omega arith

place : (j : ℕ) → Place j (year_of j) (day_of j (year_of j)) (month_of (day_of j (year_of j)))
unfolding year_of
place j =
    let a : ℕ = year_of j in
    let r : ℕ = day_of j a in
    let y = year_law (j + march_shift) a refl in
    let w : r < Y (a + 1) - Y a = omega (arith, y) in
    let l : Y (a + 1) ≤ Y a + 366 = omega (arith, Y_is a, Y_is (a + 1)) in
    let m = month_law r (month_of r) (omega (arith, w, l)) refl in
    record { year = omega (arith, y); within = w; month = m.0; before = m.1; twelve = m.2 }

century_law : (x A : ℕ) → A ≡ (4 * x + 3) / four_centuries → (C A ≤ x) × (x < C (A + 1))
century_law x A e = omega arith

last_law : (n j A r y : ℕ) → y ≡ 36525 * A + 1722519 + 36159 → n - year_zero < C (A + 1) → j ≡ n + A - (2 + A / 4) → y + r ≡ j + march_shift → reform_day ≤ n
    → r ≤ 364 + ((A + 1) / 4 - A / 4)
last_law n j A r y p q f g h = omega (arith, C_is (A + 1))

beta_law : (n j A y r : ℕ) → 15 ≤ A → reform_day ≤ n → j ≡ n + A - (2 + A / 4) → y + r ≡ j + march_shift → with_beta A (y + r - march_shift) ≡ n
beta_law n j A y r p h f g = omega arith

-- the century of the March year that was found
module _ (n j a r A : ℕ) (h : reform_day ≤ n) (l : n ≤ last_day) (e : A ≡ (4 * (n - year_zero) + 3) / four_centuries) (f : j ≡ n + A - (2 + A / 4))
    (g : Y a + r ≡ j + march_shift) (w : r < Y (a + 1) - Y a) where
  same_century : (a - year_shift) / 100 ≡ A
  same_century = omega (arith, century_law (n - year_zero) A e, C_is A, C_is (A + 1), Y_is a, Y_is (a + 1))

  modern : reform_index ≤ a
  modern = omega (arith, century_law (n - year_zero) A e, C_is A, C_is (A + 1), Y_is a, Y_is (a + 1))

  last_of_century : (a - year_shift) % 100 ≡ 99 → r ≤ 364 + ((A + 1) / 4 - A / 4)
  last_of_century t =
      let x : a ≡ 100 * A + 99 + year_shift = omega (arith, same_century, modern) in
      let y : Y a ≡ 36525 * A + 1722519 + 36159 = omega (arith, Y_is a, x) in
      last_law n j A r (Y a) y (century_law (n - year_zero) A e).1 f g h

big_century : (n A : ℕ) → reform_day ≤ n → A ≡ (4 * (n - year_zero) + 3) / four_centuries → 15 ≤ A
big_century n A h e = omega arith

later : (n j A y r : ℕ) → 15 ≤ A → reform_day ≤ n → j ≡ n + A - (2 + A / 4) → y + r ≡ j + march_shift → y ≡ 2300344 → 228 ≤ r
later n j A y r p h f g t = omega arith

-- how a day number stands to the March year and its day
data Style (n a r : ℕ) : Type 0 where
  before_gap : a ≤ reform_index → (a ≡ reform_index → r ≤ 217) → Y a + r - march_shift ≡ n → Style n a r
  after_gap : reform_index ≤ a → (a ≡ reform_index → 228 ≤ r) → with_beta ((a - year_shift) / 100) (Y a + r - march_shift) ≡ n
      → ((a - year_shift) % 100 ≡ 99 → r ≤ 364 + (((a - year_shift) / 100 + 1) / 4 - (a - year_shift) / 100 / 4)) → Style n a r

style : (n a r k : ℕ) → n ≤ last_day → Place (julian_count n) a r k → Count n → Style n a r
style n a r k l p (old_style h e) =
    let y : Y a + r ≡ n + march_shift = p.year ∙ ap (λ (x : ℕ). x + march_shift) e in
    before_gap (omega (arith, Y_is a)) (λ t. omega (arith, ap Y t)) (omega arith)
style n a r k l p (new_style h A e f) =
    let g = same_century n (julian_count n) a r A h l (sym e) f p.year p.within in
    let b = big_century n A h (sym e) in
    after_gap
    (modern n (julian_count n) a r A h l (sym e) f p.year p.within)
    (λ t. later n (julian_count n) A (Y a) r b h f p.year (ap Y t))
    (rw g (beta_law n (julian_count n) A (Y a) r b h f p.year))
    (λ t. rw g (last_of_century n (julian_count n) a r A h l (sym e) f p.year p.within t))

-- the first and the last year
record Frame (a r : ℕ) : Type 0 where
  least : 3 ≤ a
  first : a ≡ 3 → 306 ≤ r
  small : a ≤ last_index
  final : a ≡ last_index → r ≤ 305

top_year : (n a r : ℕ) → n ≤ last_day → Style n a r → (a ≤ last_index) × (a ≡ last_index → r ≤ 305)
top_year n a r l (before_gap h p e) = (omega arith, λ t. omega arith)
top_year n a r l (after_gap h p e q) = (
  omega (arith, Y_is a),
  λ t. let z : with_beta 99 (5374653 + r - march_shift) ≡ n = rw (ap (λ (x : ℕ). (x - year_shift) / 100) t, ap Y t) at e in
      omega (arith, z, l),
)

frame : (n j a r k : ℕ) → n ≤ last_day → Place j a r k → Style n a r → Frame a r
frame n j a r k l p s =
    let y = p.year in
    let w = p.within in
    let t = top_year n a r l s in
    record { least = omega (arith, y, w); first = λ e. omega (arith, y, ap Y e); small = t.0; final = t.1 }

-- the date that was found
pub record Found (n c m d : ℕ) : Type 0 where
  pub sound : Sound c m d
  pub number : noon c m d ≡ n

julian_is : (c m d a k r : ℕ) → march_year c m ≡ a → march_month m ≡ k + 3 → k < 12 → F k + d ≡ r + 1
    → julian (march_year c m) (march_month m) d ≡ Y a + r - march_shift
julian_is c m d a k r p q h e = rw (p, q) (omega (arith, month_part k h))

finish : (n c m d a k r : ℕ) → march_year c m ≡ a → march_month m ≡ k + 3 → k < 12 → F k + d ≡ r + 1
    → first_index ≤ c → c ≤ last_index → 0 < m → m ≤ 12 → d ≤ month_days c m
    → F k ≤ r
    → (a ≤ reform_index → (a ≡ reform_index → r ≤ 217) → key c m d < skipped_key)
    → (reform_index ≤ a → (a ≡ reform_index → 228 ≤ r) → gregorian_key ≤ key c m d)
    → Style n a r → Found n c m d
unfolding noon
finish n c m d a k r p q h e b1 b2 b3 b4 b5 b6 f g (before_gap u v w) =
    let x : key c m d < skipped_key = f u v in
    record {
      sound =
          sound c m d (record { least = b1; small = b2; month_least = b3; month_small = b4; day_least = omega (arith, e, b6); day_small = b5; gap = inl x });
      number = rw (lt-ltb (key c m d) gregorian_key (omega (arith, x))) (julian_is c m d a k r p q h e ∙ w);
    }
finish n c m d a k r p q h e b1 b2 b3 b4 b5 b6 f g (after_gap u v w z) =
    let x : gregorian_key ≤ key c m d = g u v in
    record {
      sound =
          sound c m d (record { least = b1; small = b2; month_least = b3; month_small = b4; day_least = omega (arith, e, b6); day_small = b5; gap = inr x });
      number = rw (le-ltb (key c m d) gregorian_key x, julian_is c m d a k r p q h e, p) w;
    }

-- where the gap falls: in the year with index 6298 by the day r, elsewhere by the year
least_rest : (a r k : ℕ) → 3 ≤ a → (a ≡ 3 → 306 ≤ r) → r < F (k + 1) → k < 10 → 4 ≤ a
least_rest a r k h f b l = go (ℕ_discrete a 3)
  where
    go : Dec (a ≡ 3) → 4 ≤ a
    go (yes e) = absurd (let z = f e in omega arith)
    go (no e) = omega (arith, h, e)

old_rest : (a r k : ℕ) → k < 10 → F k ≤ r → r < F (k + 1) → a ≤ reform_index → (a ≡ reform_index → r ≤ 217) → key a (k + 3) (r - F k + 1) < skipped_key
old_rest a r k l p q h f = go (ℕ_discrete a reform_index)
  where
    d : r - F k + 1 ≤ 31
    d = omega arith

    near : r ≤ 217 → Dec (k ≡ 7) → 100 * (k + 3) + (r - F k + 1) ≤ 1004
    near u (yes e) = let y : F k ≡ 214 = ap F e in omega (arith, e, y, u)
    near u (no e) = let z : k < 7 = omega arith in omega (arith, z, d)

    go : Dec (a ≡ reform_index) → key a (k + 3) (r - F k + 1) < skipped_key
    go (yes e) = omega (arith, e, near (f e) (ℕ_discrete k 7))
    go (no e) = omega (arith, e, d, l, h)

new_rest : (a r k : ℕ) → k < 10 → F k ≤ r → r < F (k + 1) → reform_index ≤ a → (a ≡ reform_index → 228 ≤ r) → gregorian_key ≤ key a (k + 3) (r - F k + 1)
new_rest a r k l p q h f = go (ℕ_discrete a reform_index)
  where
    near : 228 ≤ r → Dec (k ≡ 7) → 1015 ≤ 100 * (k + 3) + (r - F k + 1)
    near u (yes e) = let y : F k ≡ 214 = ap F e in omega (arith, e, y, u)
    near u (no e) = let z : 7 < k = omega arith in omega (arith, z)

    go : Dec (a ≡ reform_index) → gregorian_key ≤ key a (k + 3) (r - F k + 1)
    go (yes e) = omega (arith, e, near (f e) (ℕ_discrete k 7))
    go (no e) = omega (arith, e, h)

-- a date from March to December
rest : (n j a r k : ℕ) → Place j a r k → Frame a r → Style n a r → k < 10 → Found n a (k + 3) (r - F k + 1)
rest n j a r k p f s h =
    let pm = p.month in
    let pb = p.before in
    let l : month_days a (k + 3) ≡ 30 + (k + 3 + (k + 3) / 8) % 2 = other a (k + 3) (λ e. omega (arith, e)) in
    let t : F k + (30 + (k + 3 + (k + 3) / 8) % 2) ≡ F (k + 1) = subst (λ (x : ℕ). F x + (30 + (k + 3 + (k + 3) / 8) % 2) ≡ F (x + 1)) (omega arith)
    (slot_len (k + 3) (omega arith) (omega arith)) in
    finish n a (k + 3) (r - F k + 1) a k r
    (rw (le-ltb (k + 3) 3 (omega arith)))
    (rw (le-ltb (k + 3) 3 (omega arith)))
    p.twelve (omega (arith, pm))
    (least_rest a r k f.least f.first pb h) f.small (omega arith) (omega (arith, h)) (omega (arith, l, t, pm, pb))
    pm (old_rest a r k h pm pb) (new_rest a r k h pm pb) s

small_next : (a r : ℕ) → a ≤ last_index → (a ≡ last_index → r ≤ 305) → 306 ≤ r → a + 1 ≤ last_index
small_next a r h f p = go (ℕ_discrete a last_index)
  where
    go : Dec (a ≡ last_index) → a + 1 ≤ last_index
    go (yes e) = absurd (let z = f e in omega arith)
    go (no e) = omega arith

old_next : (a d m : ℕ) → a ≤ reform_index → (a ≡ reform_index → d + 305 ≤ 217) → 0 < d → m ≤ 2 → d ≤ 31 → key (a + 1) m d < skipped_key
old_next a d m h f p q l = go (ℕ_discrete a reform_index)
  where
    go : Dec (a ≡ reform_index) → key (a + 1) m d < skipped_key
    go (yes e) = absurd (let z = f e in omega arith)
    go (no e) = omega arith

-- January and February of the next year
january : (n j a r : ℕ) → Place j a r 10 → Frame a r → Style n a r → Found n (a + 1) 1 (r - 306 + 1)
january n j a r p f s =
    let pm = p.month in
    let pb = p.before in
    let l : month_days (a + 1) 1 ≡ 31 = other (a + 1) 1 (λ e. omega (arith, e)) in
    finish n (a + 1) 1 (r - 306 + 1) a 10 r (omega arith) refl p.twelve (omega (arith, pm))
    (omega (arith, f.least)) (small_next a r f.small f.final pm) (omega arith) (omega arith) (omega (arith, l, pb)) pm
    (λ u v. old_next a (r - 306 + 1) 1 u (λ e. let z = v e in omega (arith, z, pm)) (omega (arith, pm)) (omega arith) (omega (arith, pb)))
    (λ u v. omega (arith, u)) s

plain_year : (a : ℕ) → ((a + 1) % 4 ≡ 0 → ⊥) → Y (a + 1) ≡ Y a + 365
plain_year a h = omega (arith, Y_is a, Y_is (a + 1))

year_most : (a : ℕ) → Y (a + 1) ≤ Y a + 366
year_most a = omega (arith, Y_is a, Y_is (a + 1))

no_quarter : (x : ℕ) → ((x + 1) % 4 ≡ 0 → ⊥) → (x + 1) / 4 ≡ x / 4
no_quarter x h = omega arith

four_hundred : (x y : ℕ) → x ≡ 100 * y → y % 4 ≡ 0 → x % 400 ≡ 0
four_hundred x y e h = let f : y ≡ 4 * (y / 4) = omega arith in let g : x ≡ 400 * (y / 4) = omega (arith, e, f) in omega arith

end_law : (r x y l : ℕ) → r ≤ 364 + (x - y) → x ≡ y → r - 337 + 1 ≤ 28 + l
end_law r x y l h e = omega arith

february_law : (n a r : ℕ) → r < Y (a + 1) - Y a → Style n a r → Leap (a + 1) → 337 ≤ r → r - 337 + 1 ≤ 28 + leap_day (a + 1)
february_law n a r w s (not4 p l) h = let y = plain_year a p in omega (arith, y, l)
february_law n a r w s (old p q l) h = let y = year_most a in omega (arith, y, l)
february_law n a r w s (plain p q t l) h = let y = year_most a in omega (arith, y, l)
february_law n a r w (before_gap u v e) (cent p q t z l) h = absurd (let x : a ≡ reform_index = omega (arith, u, q) in let y = v x in omega (arith, y, h))
february_law n a r w (after_gap u v e f) (cent p q t z l) h =
    let x : a + 1 - year_shift ≡ 100 * ((a - year_shift) / 100 + 1) = omega (arith, u, t) in
    let b = no_quarter ((a - year_shift) / 100) (λ y. z (four_hundred (a + 1 - year_shift) ((a - year_shift) / 100 + 1) x y)) in
    end_law r _ _ (leap_day (a + 1)) (f (omega (arith, u, t))) b
february_law n a r w s (quad p q t z l) h = let y = year_most a in omega (arith, y, l)

february_date : (n j a r : ℕ) → Place j a r 11 → Frame a r → Style n a r → Found n (a + 1) 2 (r - 337 + 1)
february_date n j a r p f s =
    let pm = p.month in
    let pb = p.before in
    let l : month_days (a + 1) 2 ≡ 28 + leap_day (a + 1) = february (a + 1) 2 refl in
    finish n (a + 1) 2 (r - 337 + 1) a 11 r (omega arith) refl p.twelve (omega (arith, pm))
    (omega (arith, f.least)) (small_next a r f.small f.final (omega (arith, pm))) (omega arith) (omega arith)
    (rw l (february_law n a r p.within s (leap (a + 1)) pm)) pm
    (λ u v. old_next a (r - 337 + 1) 2 u (λ e. let z = v e in omega (arith, z, pm)) (omega (arith, pm)) (omega arith) (omega (arith, pb)))
    (λ u v. omega (arith, u)) s

module _ (n : ℕ) (small : n ≤ last_day) where
  by_month : (a r k : ℕ) → Place (julian_count n) a r k → Found n (from_march a k r).index (from_march a k r).month (from_march a k r).day
  by_month a r k p = go (dec_le 10 k) (ℕ_discrete k 10)
    where
      s : Style n a r
      s = style n a r k small p (count n)

      f : Frame a r
      f = frame n (julian_count n) a r k small p s

      go : Dec (10 ≤ k) → Dec (k ≡ 10) → Found n (from_march a k r).index (from_march a k r).month (from_march a k r).day
      go (no h) e = let l : k < 10 = omega arith in rw (lt-ltb k 10 l) (rest n (julian_count n) a r k p f s l)
      go (yes h) (yes e) = rw e (january n (julian_count n) a r (rw e at p) f s)
      go (yes h) (no e) = let t : k ≡ 11 = omega (arith, p.twelve) in rw t (february_date n (julian_count n) a r (rw t at p) f s)

  pub found : Found n (date_at n).index (date_at n).month (date_at n).day
  found = by_month _ _ _ (place (julian_count n))

  -- what the code of date_at asks
  pub count_small : julian_count n ≤ 5373600
  count_small = go (count n)
    where
      go : Count n → julian_count n ≤ 5373600
      go (old_style h e) = omega arith
      go (new_style h A e f) = let z : A ≡ (4 * (n - year_zero) + 3) / four_centuries = sym e in omega arith

  pub asked : (j : ℕ) → j ≡ julian_count n → (year_of j ≤ last_index) × (month_of (day_of j (year_of j)) ≤ 11) × (day_of j (year_of j) ≤ 365) ×
      (F (month_of (day_of j (year_of j))) ≤ day_of j (year_of j))
  asked j e = rw e (go (place (julian_count n)))
    where
      go : {a r k : ℕ} → Place (julian_count n) a r k → (a ≤ last_index) × (k ≤ 11) × (r ≤ 365) × (F k ≤ r)
      go {a} {r} {k} p =
          let f = frame n (julian_count n) a r k small p (style n a r k small p (count n)) in
          let y = year_most a in
          (f.small, omega (arith, p.twelve), omega (arith, y, p.within), p.month)
