-- Digits and the numbers that they write: each from the other. Assumes nothing.
use mathlib.Core.Path.{◌≡◌, refl, sym, ap, ◌∙◌}
use mathlib.Core.Bool.{cond}
use mathlib.Core.List.{List, [], ◌∷◌, ◌++◌}
use Prim.Native.Nat.{ℕ, zero, suc, ◌+◌, ◌*◌, ◌/◌, ◌%◌, ◌^◌, ◌≤◌, ◌<◌}
use native.Mathlib.Nat.{pow-succ', one-le-pow, pow-le-pow_right, div-lt_iff_lt-mul, div-eq_of_lt, div-div-eq-div-mul, mul_comm, lt_of_lt_of_le}
use native.Mathlib.Decide.{dec_le}
use native.Mathlib.Omega.{arith, by_contra}
use borrow.Author.Tests.{lt-ltb, le-ltb}
use lib.Dec.{ltb, lit<}
use lib.ListN.{length}
use Rattle.series_lines.specs.Grammar.{AllDigits, numeral, Natural}
use Rattle.printer.specs.Printer.{last_digits, further, further_digits, first_digit, rest_digits}
use Rattle.printer.proofs.DigitsWritten.{div_power, first_small, further_bound, last_first, length_last}

-- The last n digits, after what stands before them, write the number.
numeral_append : (v : ℕ) (xs : List ℕ) (d : ℕ) → numeral v (xs ++ d ∷ []) ≡ 10 * numeral v xs + d
unfolding numeral
numeral_append v [] d = refl
numeral_append v (x ∷ xs) d = numeral_append (10 * v + x) xs d

pub numeral_last : (n v : ℕ) → numeral (v / 10 ^ n) (last_digits n v) ≡ v
unfolding numeral last_digits
numeral_last zero v = omega arith
numeral_last (suc n) v =
    rw (← div_power n v, numeral_append (v / 10 / 10 ^ n) (last_digits n (v / 10)) (v % 10), numeral_last n (v / 10)) (omega arith)

all_append : (xs : List ℕ) (d : ℕ) → AllDigits xs → d < 10 → AllDigits (xs ++ d ∷ [])
unfolding AllDigits
all_append [] d a h = (h, tt)
all_append (x ∷ xs) d a h = (a.0, all_append xs d a.1 h)

pub all_last : (n v : ℕ) → AllDigits (last_digits n v)
unfolding AllDigits last_digits
all_last zero v = tt
all_last (suc n) v = all_append (last_digits n (v / 10)) (v % 10) (all_last n (v / 10)) (omega arith)

-- A number below 10^(n+1) has at most n digits after its first, which is 0 only where it is the only one.
further_small : (f n v : ℕ) → v < 10 ^ suc n → further f v ≤ n
unfolding further
further_small zero n v h = omega arith
further_small (suc f) n v h = go (λ m. further_small f m (v / 10)) (dec_le 10 v) n h
  where
    go : ((m : ℕ) → v / 10 < 10 ^ suc m → further f (v / 10) ≤ m) → Dec (10 ≤ v) → (n : ℕ) → v < 10 ^ suc n → cond (ltb v 10) 0 (suc (further f (v / 10))) ≤ n
    go rec (yes l) zero h = absurd (omega arith)
    go rec (yes l) (suc m) h = let r = rec m (omega (arith, pow-succ' 10 (suc m))) in rw (le-ltb v 10 l) (omega arith)
    go rec (no l) n h = let u : v < 10 = omega arith in rw (lt-ltb v 10 u) (omega arith)

pub further_few : (n v : ℕ) → v < 10 ^ suc n → further_digits v ≤ n
unfolding further_digits
further_few n v h = further_small 19 n v h

first_zero : (f v : ℕ) → v / 10 ^ further f v ≡ 0 → further f v ≡ 0
unfolding further
first_zero zero v h = refl
first_zero (suc f) v h = go (first_zero f (v / 10)) (dec_le 10 v) h
  where
    go : (v / 10 / 10 ^ further f (v / 10) ≡ 0 → further f (v / 10) ≡ 0) → Dec (10 ≤ v) → v / 10 ^ cond (ltb v 10) 0 (suc (further f (v / 10))) ≡ 0
        → cond (ltb v 10) 0 (suc (further f (v / 10))) ≡ 0
    go rec (yes l) h =
        let k : v / 10 ^ suc (further f (v / 10)) ≡ 0 = rw (le-ltb v 10 l) at h in
        let j : v / 10 / 10 ^ further f (v / 10) ≡ 0 = div_power (further f (v / 10)) v ∙ k in
        let z = rec j in
        let w : v / 10 / 10 ^ 0 ≡ 0 = rw z at j in
        absurd (omega (arith, w))
    go rec (no l) h = let u : v < 10 = omega arith in rw (lt-ltb v 10 u)

below : (n v : ℕ) → v < 10 ^ suc n → n ≤ 19 → v < 10 ^ 20
below n v h l = let q : suc n ≤ 20 = omega arith in lt_of_lt_of_le h (pow-le-pow_right (lit< tt) q)

pub natural_good : (n v : ℕ) → v < 10 ^ suc n → n ≤ 19 → Natural (suc n) (first_digit v) (rest_digits v)
unfolding first_digit rest_digits last_digits
natural_good n v h l =
    record {
      digit = first_small v (further_digits v) (further_bound v (below n v h l));
      digits = all_last (further_digits v) v;
      few = omega (arith, length_last (further_digits v) v, further_few n v h);
      leading = λ e. let z : further_digits v ≡ 0 = unfold further_digits in first_zero 19 v e in rw z;
    }

pub natural_value : (v : ℕ) → numeral (first_digit v) (rest_digits v) ≡ v
unfolding first_digit rest_digits
natural_value v = numeral_last (further_digits v) v

-- Digits after a number v: the number that they write gives both back.
pub record Written (ds : List ℕ) (v : ℕ) : Type 0 where
  pub before : numeral v ds / 10 ^ length ds ≡ v
  pub last : last_digits (length ds) (numeral v ds) ≡ ds

pub written : (ds : List ℕ) (v : ℕ) → AllDigits ds → Written ds v
unfolding numeral AllDigits
written [] v a = record { before = omega arith; last = unfold last_digits in refl }
written (d ∷ ds) v a =
    let w = written ds (10 * v + d) a.1 in
    let h = a.0 in
    let q : (10 * v + d) / 10 ≡ v = omega arith in
    let r : (10 * v + d) % 10 ≡ d = omega arith in
    record {
      before = sym (other (length ds) (numeral (10 * v + d) ds)) ∙ rw w.before q;
      last = last_first (length ds) (numeral (10 * v + d) ds) ∙ rw (w.before, w.last, r);
    }
  where
    other : (n v : ℕ) → v / 10 ^ n / 10 ≡ v / 10 ^ suc n
    other n v = div-div-eq-div-mul v (10 ^ n) 10 ∙ ap (λ (k : ℕ). v / k) (mul_comm (10 ^ n) 10 ∙ sym (pow-succ' 10 n))

further_is : (f k v : ℕ) → (0 < k → 10 ^ k ≤ v) → v < 10 ^ suc k → k ≤ f → further f v ≡ k
unfolding further
further_is zero zero v low high l = refl
further_is zero (suc k) v low high l = absurd (omega arith)
further_is (suc f) zero v low high l = let u : v < 10 = omega arith in rw (lt-ltb v 10 u)
further_is (suc f) (suc k) v low high l =
    let a : 10 * 10 ^ k ≤ v = rw (pow-succ' 10 k) at (low (omega arith)) in
    let o = one-le-pow k 10 (omega arith) in
    let b : 10 ≤ v = omega arith in
    rw (le-ltb v 10 b) (ap suc (further_is f k (v / 10) (λ _. omega arith) (omega (arith, pow-succ' 10 (suc k))) (omega arith)))

-- Digits with no needless leading zero are those of the number that they write.
pub record Unique (first : ℕ) (more : List ℕ) : Type 0 where
  pub one : first_digit (numeral first more) ≡ first
  pub rest : rest_digits (numeral first more) ≡ more

pub natural_unique : (n first : ℕ) (more : List ℕ) → Natural n first more → n ≤ 20 → Unique first more
unfolding first_digit rest_digits further_digits
natural_unique n first more g l =
    let w = written more first g.digits in
    let k : further 19 (numeral first more) ≡ length more = further_is 19 (length more) (numeral first more) low high (omega (arith, g.few)) in
    record { one = rw k w.before; rest = rw k w.last }
  where
    power : (k : ℕ) → 0 < 10 ^ k
    power k = one-le-pow k 10 (omega arith)

    high : numeral first more < 10 ^ suc (length more)
    high =
        let w = written more first g.digits in
        let b : numeral first more / 10 ^ length more < 10 = rw w.before g.digit in
        rw (pow-succ' 10 (length more)) ((div-lt_iff_lt-mul {k = 10 ^ length more} {x = numeral first more} {y = 10} (power (length more))).0 b)

    low : 0 < length more → 10 ^ length more ≤ numeral first more
    low h = by_contra (10 ^ length more) (numeral first more) (λ (b : numeral first more < 10 ^ length more).
        let w = written more first g.digits in
        let z : first ≡ 0 = sym w.before ∙ div-eq_of_lt b in
        omega (arith, ap length (g.leading z)))
