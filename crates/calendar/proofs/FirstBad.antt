-- The first bad field of a date, over whole numbers, is that of the count in naturals. Assumes nothing.
use mathlib.Core.Path.{◌≡◌, refl, sym, ap, ◌∙◌}
use mathlib.Core.Bool.{true, false, ◌&&◌, not, cond}
use mathlib.Core.List.{List, [], ◌∷◌}
use Prim.Native.Nat.{ℕ, zero, suc, ◌+◌, ◌/◌, ◌%◌, ◌-◌, ◌≤◌, ◌<◌}
use native.Mathlib.Decide.{dec_le, ℕ_discrete}
use native.Mathlib.Omega.{arith}
use borrow.Author.Tests.{eq-eqb, ne_eqb, lt-ltb, le-ltb, lt-leb, le-leb}
use lib.Dec.{leb, eqb, eqb→eq}
use lib.IntN.{ℤ, pos, negsuc}
use lib.ListN.{get_or}
use lib.Signed.{le_z}
use Rattle.integers.specs.Division.{modulo}
use Rattle.integers.proofs.Pairs.{Is, up, dn, same, same⁻¹, sub_cong, nat, int, sub_pos, sub_neg, ◌+ᵢ◌, ◌*ᵢ◌}
use Rattle.arith.specs.Naturals.{natural_or}
use Rattle.calendar.specs.Calendar.{between, in_years, written, skipped, leap, month_length, first_bad}
use Rattle.calendar.specs.Machine.Shifted.{year_index, key, leap_day, month_days, in_gap, bad_field}
use Rattle.calendar.specs.Constants.{years_before_zero, last_year, reform_year, first_skipped, last_skipped, year_shift}
use Rattle.calendar.specs.Machine.Shifted.{first_index, last_index, reform_index, key_shift, skipped_key, gregorian_key}
use Rattle.integers.proofs.Tests.{every_below}
use Rattle.calendar.proofs.Compare.{leZ_is}
use Rattle.calendar.proofs.Existing.{Leap, not4, old, plain, cent, quad, leap as leaps}

-- A year that exists has an index c; any other has the index 0.
pub data Year (y : ℤ) : Type 0 where
  year : (c : ℕ) → year_index y ≡ c → first_index ≤ c → c ≤ last_index → Is y c year_shift → in_years y ≡ true → Year y
  missing : year_index y ≡ 0 → in_years y ≡ false → Year y

pub year_of_index : (y : ℤ) → Year y
unfolding year_index
year_of_index (pos n) = go (dec_le n last_year)
  where
    go : Dec (n ≤ last_year) → Year (pos n)
    go (yes h) =
        year (n + year_shift) (rw (le-leb n last_year h)) (omega arith) (omega arith)
        (record { is = sym (sub_pos (n + year_shift) year_shift n (omega arith)) }) (le-leb n last_year h)
    go (no h) = missing (rw (lt-leb n last_year (omega arith))) (lt-leb n last_year (omega arith))
year_of_index (negsuc n) = go (dec_le n (years_before_zero - 1))
  where
    go : Dec (n ≤ years_before_zero - 1) → Year (negsuc n)
    go (yes h) =
        year (year_shift - 1 - n) (rw (le-leb n (years_before_zero - 1) h)) (omega arith) (omega arith)
        (record { is = sym (sub_neg (year_shift - 1 - n) year_shift n (omega arith)) })
        (rw (le-leb n (years_before_zero - 1) h))
    go (no h) = missing (rw (lt-leb n (years_before_zero - 1) (omega arith))) (rw (lt-leb n (years_before_zero - 1) (omega arith)))

-- A field that has to be from 1 to l.
pub data Field (x : ℤ) (l : ℕ) : Type 0 where
  low : natural_or x 0 ≡ 0 → between (pos 1) x (pos l) ≡ false → Field x l
  good : (k : ℕ) → x ≡ pos k → natural_or x 0 ≡ k → 0 < k → k ≤ l → between (pos 1) x (pos l) ≡ true → Field x l
  high : (k : ℕ) → x ≡ pos k → natural_or x 0 ≡ k → 0 < k → l < k → between (pos 1) x (pos l) ≡ false → Field x l

pub field : (x : ℤ) (l : ℕ) → Field x l
unfolding natural_or
field (negsuc n) l = low refl refl
field (pos zero) l = low refl refl
field (pos (suc k)) l = go (dec_le (suc k) l)
  where
    go : Dec (suc k ≤ l) → Field (pos (suc k)) l
    go (yes h) = good (suc k) refl refl (omega arith) h (rw (le-leb 1 (suc k) (omega arith), le-leb (suc k) l h))
    go (no h) = high (suc k) refl refl (omega arith) (omega arith) (rw (le-leb 1 (suc k) (omega arith), lt-leb (suc k) l (omega arith)))

-- The leap day.
index_is : {y : ℤ} {c : ℕ} → Is y c year_shift → up y + year_shift ≡ c + dn y
index_is {y} {c} i = omega (arith, same⁻¹ i (int y) refl)

pub index_of : (y : ℤ) (c : ℕ) → first_index ≤ c → c ≤ last_index → Is y c year_shift → year_index y ≡ c
unfolding year_index
index_of (pos n) c h l i = let e : n + year_shift ≡ c + 0 = index_is i in rw (le-leb n last_year (omega arith)) (omega arith)
index_of (negsuc n) c h l i = let e : 0 + year_shift ≡ c + suc n = index_is i in rw (le-leb n (years_before_zero - 1) (omega arith)) (omega arith)

mod_four : (y : ℤ) (c : ℕ) → first_index ≤ c → Is y c year_shift → modulo y 4 ≡ c % 4
unfolding modulo
mod_four (pos n) c h i = let e : n + year_shift ≡ c + 0 = index_is i in omega arith
mod_four (negsuc n) c h i = let e : 0 + year_shift ≡ c + suc n = index_is i in omega arith

-- after 1582 the year is a natural number
late : (y : ℤ) (c : ℕ) → year_shift ≤ c → Is y c year_shift → y ≡ pos (c - year_shift)
late y c h i = same i (nat (c - year_shift)) (omega arith)

mod_late : (y : ℤ) (c k : ℕ) → reform_index < c → Is y c year_shift → modulo y k ≡ (c - year_shift) % k
unfolding modulo
mod_late y c k l i = rw (late y c (omega arith) i)

february : (y : ℤ) (c : ℕ) → first_index ≤ c → Is y c year_shift → cond (leap y) 29 28 ≡ 28 + leap_day c
unfolding leap
february y c h i = go (leaps c)
  where
    early : c ≤ reform_index → le_z y (pos reform_year) ≡ true
    early l = leZ_is i (nat reform_year) ∙ le-leb (c + 0) (reform_year + year_shift) (omega arith)

    not_early : reform_index < c → le_z y (pos reform_year) ≡ false
    not_early l = leZ_is i (nat reform_year) ∙ lt-leb (c + 0) (reform_year + year_shift) (omega arith)

    go : Leap c → cond (leap y) 29 28 ≡ 28 + leap_day c
    go (not4 p e) = rw (e, mod_four y c h i, ne_eqb (c % 4) 0 p)
    go (old p q e) = rw (e, mod_four y c h i, eq-eqb (c % 4) 0 p, early q)
    go (plain p q r e) = rw (e, mod_four y c h i, eq-eqb (c % 4) 0 p, not_early q, mod_late y c 100 q i, ne_eqb ((c - year_shift) % 100) 0 r)
    go (cent p q r s e) =
        rw (
          e,
          mod_four y c h i,
          eq-eqb (c % 4) 0 p,
          not_early q,
          mod_late y c 100 q i,
          mod_late y c 400 q i,
          eq-eqb ((c - year_shift) % 100) 0 r,
          ne_eqb ((c - year_shift) % 400) 0 s,
        )
    go (quad p q r s e) =
        rw (
          e,
          mod_four y c h i,
          eq-eqb (c % 4) 0 p,
          not_early q,
          mod_late y c 100 q i,
          mod_late y c 400 q i,
          eq-eqb ((c - year_shift) % 100) 0 r,
          eq-eqb ((c - year_shift) % 400) 0 s,
        )

-- The table of the months is the rule of the naturals; m counts from 0.
abbrev table : ℕ → List ℕ
table f = 31 ∷ f ∷ 31 ∷ 30 ∷ 31 ∷ 30 ∷ 31 ∷ 31 ∷ 30 ∷ 31 ∷ 30 ∷ 31 ∷ []

abbrev rule : ℕ → ℕ
rule m = 30 + (m + 1 + (m + 1) / 8) % 2

other_month : (f m : ℕ) → (m ≡ 1 → ⊥) → get_or (table f) m 0 ≡ get_or (table 28) m 0
other_month f zero h = refl
other_month f (suc zero) h = absurd (h refl)
other_month f (suc (suc m)) h = refl

months : (f m : ℕ) → m < 12 → get_or (table f) m 0 ≡ cond (eqb (m + 1) 2) f (rule m)
months f m h = go (ℕ_discrete m 1)
  where
    computed : get_or (table 28) m 0 ≡ cond (eqb m 1) 28 (rule m)
    computed = eqb→eq _ _ (every_below 12 (λ (k : ℕ). eqb (get_or (table 28) k 0) (cond (eqb k 1) 28 (rule k))) tt m h)

    go : Dec (m ≡ 1) → get_or (table f) m 0 ≡ cond (eqb (m + 1) 2) f (rule m)
    go (yes e) = rw e
    go (no e) = rw (ne_eqb (m + 1) 2 (λ x. e (omega arith))) (other_month f m e ∙ computed ∙ rw (ne_eqb m 1 e))

length_law : (y : ℤ) (c m : ℕ) → first_index ≤ c → Is y c year_shift → 0 < m → m ≤ 12 → month_length y (pos m) ≡ pos (month_days c m)
unfolding month_length month_days
length_law y c m h i p q =
    let e : m - 1 + 1 ≡ m = omega arith in
    ap (λ (f : ℕ). pos (get_or (table f) (m - 1) 0)) (february y c h i)
    ∙ ap pos (months (28 + leap_day c) (m - 1) (omega arith) ∙ ap (λ (k : ℕ). cond (eqb k 2) (28 + leap_day c) (30 + (k + k / 8) % 2)) e)

-- The days that were skipped.
pub is_same : {z : ℤ} {a b c d : ℕ} → Is z a b → a + d ≡ c + b → Is z c d
is_same {a = a} {b = b} {c = c} {d = d} i e = record { is = i.is ∙ sub_cong a b c d e }

pub written_is : (y : ℤ) (c m d : ℕ) → Is y c year_shift → Is (written y (pos m) (pos d)) (key c m d) key_shift
written_is y c m d i = is_same (nat 10000 *ᵢ i +ᵢ nat 100 *ᵢ nat m +ᵢ nat d) (omega arith)

gap_law : (y : ℤ) (c m d : ℕ) → Is y c year_shift → in_gap (key c m d) ≡ cond (not (skipped y (pos m) (pos d))) 0 3
gap_law y c m d i =
    rw (leZ_is (nat first_skipped) (written_is y c m d i), leZ_is (written_is y c m d i) (nat last_skipped))
    (go (key c m d) (dec_le skipped_key (key c m d)) (dec_le (key c m d) (last_skipped + key_shift)))
  where
    go : (k : ℕ) → Dec (skipped_key ≤ k) → Dec (k ≤ last_skipped + key_shift)
        → in_gap k ≡ cond (not (leb skipped_key (k + 0) && leb (k + 0) (last_skipped + key_shift))) 0 3
    go k (no p) q = rw (lt-ltb k skipped_key (omega arith), lt-leb skipped_key (k + 0) (omega arith))
    go k (yes p) (yes q) =
        rw (
          le-ltb k skipped_key p,
          lt-ltb k gregorian_key (omega arith),
          le-leb skipped_key (k + 0) (omega arith),
          le-leb (k + 0) (last_skipped + key_shift) (omega arith),
        )
    go k (yes p) (no q) =
        rw (
          le-ltb k skipped_key p,
          le-ltb k gregorian_key (omega arith),
          le-leb skipped_key (k + 0) (omega arith),
          lt-leb (k + 0) (last_skipped + key_shift) (omega arith),
        )

-- All three fields.
module _ (y : ℤ) (c : ℕ) (least : first_index ≤ c) (i : Is y c year_shift) (known : in_years y ≡ true) where
  by_day : (m : ℕ) (d : ℤ) → 0 < m → m ≤ 12 → Field d (month_days c m) → bad_field c m (natural_or d 0) ≡ first_bad y (pos m) d
  unfolding bad_field first_bad
  by_day m d p q (low e f) =
      rw (known, length_law y c m least i p q, ne_eqb c 0 (λ z. omega arith), ne_eqb m 0 (λ z. omega arith), le-ltb 12 m q, le-leb 1 m p, le-leb m 12 q, e, f)
  by_day m d p q (good k x e a b f) =
      rw (
        known,
        length_law y c m least i p q,
        ne_eqb c 0 (λ z. omega arith),
        ne_eqb m 0 (λ z. omega arith),
        le-ltb 12 m q,
        le-leb 1 m p,
        le-leb m 12 q,
        e,
        f,
        ne_eqb k 0 (λ z. omega arith),
        le-ltb (month_days c m) k b,
        x,
      ) (gap_law y c m k i)
  by_day m d p q (high k x e a b f) =
      rw (
        known,
        length_law y c m least i p q,
        ne_eqb c 0 (λ z. omega arith),
        ne_eqb m 0 (λ z. omega arith),
        le-ltb 12 m q,
        le-leb 1 m p,
        le-leb m 12 q,
        e,
        f,
        ne_eqb k 0 (λ z. omega arith),
        lt-ltb (month_days c m) k b,
      )

  by_month : (m d : ℤ) → Field m 12 → bad_field c (natural_or m 0) (natural_or d 0) ≡ first_bad y m d
  unfolding bad_field first_bad
  by_month m d (low e f) = rw (known, e, f, ne_eqb c 0 (λ x. omega arith))
  by_month m d (good k x e a b f) = rw (e, x) (by_day k d a b (field d (month_days c k)))
  by_month m d (high k x e a b f) = rw (known, e, f, ne_eqb c 0 (λ z. omega arith), ne_eqb k 0 (λ z. omega arith), lt-ltb 12 k b)

pub bad_law : (y m d : ℤ) → bad_field (year_index y) (natural_or m 0) (natural_or d 0) ≡ first_bad y m d
unfolding bad_field first_bad
bad_law y m d = go (year_of_index y)
  where
    go : Year y → bad_field (year_index y) (natural_or m 0) (natural_or d 0) ≡ first_bad y m d
    go (year c e p q i k) = rw e (by_month y c p i k m d (field m 12))
    go (missing e k) = rw (e, k)
