-- A date exists in the count of naturals exactly where its fields keep their bounds; leap years and month lengths by cases. Assumes nothing.
use mathlib.Core.Path.{◌≡◌, refl}
use mathlib.Core.Logic.{◌⊎◌, inl, inr}
use mathlib.Core.Bool.{Bool, true, false, cond}
use Prim.Native.Nat.{ℕ, ◌+◌, ◌/◌, ◌%◌, ◌-◌, ◌≤◌, ◌<◌}
use native.Mathlib.Decide.{dec_le, ℕ_discrete}
use native.Mathlib.Omega.{arith}
use borrow.Author.Tests.{eq-eqb, ne_eqb, lt-ltb, le-ltb, lt-leb, le-leb, ltb-false, eqb-false}
use lib.Dec.{ltb, eqb, lit<}
use Rattle.calendar.specs.Machine.Shifted.{leap_day, month_days, bad_field, key, in_gap, Sound}
use Rattle.calendar.specs.Constants.{year_shift}
use Rattle.calendar.specs.Machine.Shifted.{first_index, last_index, reform_index, skipped_key, gregorian_key}

-- a test that is not known: both ways
by_lt : (P : Bool → Type 0) (a b : ℕ) → (a < b → P true) → (b ≤ a → P false) → P (ltb a b)
by_lt P a b f g = go (dec_le b a)
  where
    go : Dec (b ≤ a) → P (ltb a b)
    go (yes h) = rw (le-ltb a b h) (g h)
    go (no h) = let k : a < b = omega arith in rw (lt-ltb a b k) (f k)

pub data Leap (c : ℕ) : Type 0 where
  not4 : (c % 4 ≡ 0 → ⊥) → leap_day c ≡ 0 → Leap c
  old : c % 4 ≡ 0 → c ≤ reform_index → leap_day c ≡ 1 → Leap c
  plain : c % 4 ≡ 0 → reform_index < c → ((c - year_shift) % 100 ≡ 0 → ⊥) → leap_day c ≡ 1 → Leap c
  cent : c % 4 ≡ 0 → reform_index < c → (c - year_shift) % 100 ≡ 0 → ((c - year_shift) % 400 ≡ 0 → ⊥) → leap_day c ≡ 0 → Leap c
  quad : c % 4 ≡ 0 → reform_index < c → (c - year_shift) % 100 ≡ 0 → (c - year_shift) % 400 ≡ 0 → leap_day c ≡ 1 → Leap c

pub leap : (c : ℕ) → Leap c
unfolding leap_day
leap c = go (ℕ_discrete (c % 4) 0) (dec_le c reform_index) (ℕ_discrete ((c - year_shift) % 100) 0) (ℕ_discrete ((c - year_shift) % 400) 0)
  where
    go : Dec (c % 4 ≡ 0) → Dec (c ≤ reform_index) → Dec ((c - year_shift) % 100 ≡ 0) → Dec ((c - year_shift) % 400 ≡ 0) → Leap c
    go (no p) q r s = not4 p (simp (ne_eqb _ _ p))
    go (yes p) (yes q) r s = old p q (simp (eq-eqb _ _ p, le-leb _ _ q))
    go (yes p) (no q) (no r) s = let h : reform_index < c = omega arith in plain p h r (simp (eq-eqb _ _ p, lt-leb _ _ h, ne_eqb _ _ r))
    go (yes p) (no q) (yes r) (no s) =
        let h : reform_index < c = omega arith in
        cent p h r s (simp (eq-eqb _ _ p, lt-leb _ _ h, eq-eqb _ _ r, ne_eqb _ _ s))
    go (yes p) (no q) (yes r) (yes s) =
        let h : reform_index < c = omega arith in
        quad p h r s (simp (eq-eqb _ _ p, lt-leb _ _ h, eq-eqb _ _ r, eq-eqb _ _ s))

pub february : (c m : ℕ) → m ≡ 2 → month_days c m ≡ 28 + leap_day c
unfolding month_days
february c m e = simp (eq-eqb m 2 e)

pub other : (c m : ℕ) → (m ≡ 2 → ⊥) → month_days c m ≡ 30 + (m + m / 8) % 2
unfolding month_days
other c m e = simp (ne_eqb m 2 e)

-- a date that exists, as bounds
pub record Exists (c m d : ℕ) : Type 0 where
  pub least : first_index ≤ c
  pub small : c ≤ last_index
  pub month_least : 0 < m
  pub month_small : m ≤ 12
  pub day_least : 0 < d
  pub day_small : d ≤ month_days c m
  pub gap : (key c m d < skipped_key) ⊎ (gregorian_key ≤ key c m d)

none : (b : Bool) (x y : ℕ) → 0 < x → cond b x y ≡ 0 → (b ≡ false) × (y ≡ 0)
none true x y h e = absurd (omega arith)
none false x y h e = (refl, e)

gap_of : (k : ℕ) → in_gap k ≡ 0 → (k < skipped_key) ⊎ (gregorian_key ≤ k)
gap_of k = by_lt (λ (t : Bool). ◌≡◌ {A = ℕ} (cond t 0 (cond (ltb k gregorian_key) 3 0)) 0 → (k < skipped_key) ⊎ (gregorian_key ≤ k)) k skipped_key
    (λ h e. inl h)
    (λ h e. inr (ltb-false k gregorian_key (none (ltb k gregorian_key) 3 0 (lit< tt) e).0))

pub ok : (c m d : ℕ) → Sound c m d → Exists c m d
unfolding bad_field
ok c m d s =
    let a = none (eqb c 0) 1 _ (lit< tt) s.exists in
    let b = none (eqb m 0) 2 _ (lit< tt) a.1 in
    let e = none (ltb 12 m) 2 _ (lit< tt) b.1 in
    let f = none (eqb d 0) 3 _ (lit< tt) e.1 in
    let g = none (ltb (month_days c m) d) 3 _ (lit< tt) f.1 in
    record {
      least = s.least;
      small = s.small;
      month_least = omega (arith, eqb-false m 0 b.0);
      month_small = ltb-false 12 m e.0;
      day_least = omega (arith, eqb-false d 0 f.0);
      day_small = ltb-false (month_days c m) d g.0;
      gap = gap_of (key c m d) g.1;
    }

pub sound : (c m d : ℕ) → Exists c m d → Sound c m d
unfolding bad_field
sound c m d o =
    record {
      least = o.least;
      small = o.small;
      exists =
          rw (
            ne_eqb c 0 (λ e. omega (arith, o.least, e)),
            ne_eqb m 0 (λ e. omega (arith, o.month_least, e)),
            le-ltb 12 m o.month_small,
            ne_eqb d 0 (λ e. omega (arith, o.day_least, e)),
            le-ltb (month_days c m) d o.day_small,
          )
          (end o.gap);
    }
  where
    end : (key c m d < skipped_key) ⊎ (gregorian_key ≤ key c m d) → in_gap (key c m d) ≡ 0
    end (inl h) = rw (lt-ltb (key c m d) skipped_key h)
    end (inr h) = rw (le-ltb (key c m d) skipped_key (omega arith), le-ltb (key c m d) gregorian_key h)
