-- Digits: how many a number has, its last ones one at a time, and its first. Assumes nothing.
use mathlib.Core.Path.{◌≡◌, refl, sym, ap, ◌∙◌}
use mathlib.Core.Bool.{cond}
use mathlib.Core.List.{List, [], ◌∷◌, ◌++◌}
use Prim.Native.Nat.{ℕ, zero, suc, ◌+◌, ◌-◌, ◌/◌, ◌%◌, ◌^◌, ◌≤◌, ◌<◌}
use native.Mathlib.Nat.{pow-succ', one-le-pow, div-div-eq-div-mul, div-lt_iff_lt-mul}
use native.Mathlib.Decide.{dec_le}
use native.Mathlib.Omega.{arith}
use borrow.Author.Tests.{lt-ltb, le-ltb}
use lib.Dec.{ltb}
use lib.ListN.{length, set, length-append, length-set}
use lib.Seq.{sets}
use Rattle.series_lines.specs.Grammar.{digits}
use Rattle.printer.specs.Printer.{last_digits, further, further_digits, first_digit, rest_digits}
use Rattle.printer.specs.Machine.Writing.{Room, Wrote, whole_text}
use Rattle.printer.proofs.PieceByPiece.{Left, left_room, sets_last}

-- The loop that counts: some number of digits more is enough for x.
pub record Counting (v x n : ℕ) : Type 0 where
  pub fuel : ℕ
  pub enough : x < 10 ^ suc fuel
  pub count : n + further fuel x ≡ further_digits v
  pub few : n + fuel ≡ 19

pub counting_none : (v : ℕ) → v < 2 ^ 64 → Counting v v 0
unfolding further_digits
counting_none v h = record { fuel = 19; enough = omega arith; count = omega arith; few = omega arith }

module _ (v x n : ℕ) where
  more : (f : ℕ) → x < 10 ^ suc f → n + further f x ≡ further_digits v → n + f ≡ 19 → 10 ≤ x → Counting v (x / 10) (n + 1)
  unfolding further
  more zero e c w h = absurd (omega arith)
  more (suc f) e c w h =
      let d : n + suc (further f (x / 10)) ≡ further_digits v = rw (le-ltb x 10 h) at c in
      record { fuel = f; enough = omega (arith, pow-succ' 10 (suc f)); count = omega (arith, d); few = omega arith }

  pub counting_more : Counting v x n → 10 ≤ x → Counting v (x / 10) (n + 1)
  counting_more l h = more l.fuel l.enough l.count l.few h

  last : (f : ℕ) → x < 10 → further f x ≡ 0
  unfolding further
  last zero h = refl
  last (suc f) h = rw (lt-ltb x 10 h)

  pub counting_last : Counting v x n → x < 10 → (n ≡ further_digits v) × (n ≤ 19)
  counting_last l h = (omega (arith, l.count, last l.fuel h), omega (arith, l.few))

-- A number has no more digits than that.
further_enough : (f v : ℕ) → v < 10 ^ suc f → v < 10 ^ suc (further f v)
unfolding further
further_enough zero v h = h
further_enough (suc f) v h = go (further_enough f (v / 10)) (dec_le 10 v)
  where
    go : (v / 10 < 10 ^ suc f → v / 10 < 10 ^ suc (further f (v / 10))) → Dec (10 ≤ v) → v < 10 ^ suc (cond (ltb v 10) 0 (suc (further f (v / 10))))
    go rec (yes l) =
        let r = rec (omega (arith, pow-succ' 10 (suc f))) in
        rw (le-ltb v 10 l) (omega (arith, pow-succ' 10 (suc (further f (v / 10)))))
    go rec (no l) = let u : v < 10 = omega arith in rw (lt-ltb v 10 u) (omega arith)

pub further_bound : (v : ℕ) → v < 10 ^ 20 → v < 10 ^ suc (further_digits v)
unfolding further_digits
further_bound v h = further_enough 19 v h

pub div_power : (n v : ℕ) → v / 10 / 10 ^ n ≡ v / 10 ^ suc n
div_power n v = div-div-eq-div-mul v 10 (10 ^ n) ∙ ap (λ (k : ℕ). v / k) (sym (pow-succ' 10 n))

pub first_small : (v n : ℕ) → v < 10 ^ suc n → v / 10 ^ n < 10
first_small v n h = (div-lt_iff_lt-mul {k = 10 ^ n} {x = v} {y = 10} (one-le-pow n 10 (omega arith))).1 (rw (pow-succ' 10 n) at h)

-- The first of the last digits.
pub last_first : (n v : ℕ) → last_digits (suc n) v ≡ (v / 10 ^ n % 10) ∷ last_digits n v
unfolding last_digits
last_first zero v = let e : v / 1 ≡ v = omega arith in rw e
last_first (suc n) v = rw (← div_power n v) (ap (λ (l : List ℕ). l ++ (v % 10) ∷ []) (last_first n (v / 10)))

-- The digits of a whole number are all its last digits.
pub whole_digits : (v : ℕ) → v < 10 ^ 20 → digits (last_digits (suc (further_digits v)) v) ≡ whole_text v
unfolding whole_text first_digit rest_digits
whole_digits v h =
    ap digits (last_first (further_digits v) v ∙ ap (λ (d : ℕ). d ∷ last_digits (further_digits v) v) (small v (further_digits v) (further_bound v h)))
  where
    small : (v n : ℕ) → v < 10 ^ suc n → v / 10 ^ n % 10 ≡ v / 10 ^ n
    small v n h = let l = first_small v n h in omega arith

pub length_digits : (ds : List ℕ) → length (digits ds) ≡ length ds
unfolding digits
length_digits [] = refl
length_digits (d ∷ ds) = ap suc (length_digits ds)

pub length_last : (n v : ℕ) → length (last_digits n v) ≡ n
unfolding last_digits
length_last zero v = refl
length_last (suc n) v = length-append (last_digits n (v / 10)) ((v % 10) ∷ []) ∙ rw (length_last n (v / 10)) (omega arith)

pub whole_length : (v : ℕ) → length (whole_text v) ≡ suc (further_digits v)
unfolding whole_text rest_digits
whole_length v = length_digits (first_digit v ∷ last_digits (further_digits v) v) ∙ ap suc (length_last (further_digits v) v)

-- What `put_whole` asks of the writer of digits, and what it gets.
pub whole_room : (v n at : ℕ) (out : List ℕ) → n ≡ length (whole_text v) → Room (whole_text v) at out → at + n ≤ length out
whole_room v n at out e h = omega arith

pub whole_wrote : (v n at to : ℕ) (out after : List ℕ) → v < 2 ^ 64 → n ≡ length (whole_text v) → Wrote (digits (last_digits n v)) at out to after
    → Wrote (whole_text v) at out to after
whole_wrote v n at to out after h e w =
    let k : suc (further_digits v) ≡ n = sym (e ∙ whole_length v) in
    let d : digits (last_digits n v) ≡ whole_text v = rw (← k) (whole_digits v (omega arith)) in
    rw d at w

pub digits_room : {text start out : List ℕ} {ps : List (List ℕ)} {at p : ℕ} (n v : ℕ) → Left text at start (digits (last_digits n v) ∷ ps) p out
    → Room text at start → p + n ≤ length out
digits_room n v l h = let r = left_room l h in omega (arith, r, length_digits (last_digits n v), length_last n v)

pub digits_append : (xs ys : List ℕ) → digits (xs ++ ys) ≡ digits xs ++ digits ys
unfolding digits
digits_append [] ys = refl
digits_append (x ∷ xs) ys = ap (λ (l : List ℕ). (48 + x) ∷ l) (digits_append xs ys)

-- The loop that writes the last n digits of v from at, when i of them are left, those of x.
pub record Backward (v n at : ℕ) (start out : List ℕ) (x i : ℕ) : Type 0 where
  pub bound : i ≤ n
  pub written : sets out at (digits (last_digits i x)) ≡ sets start at (digits (last_digits n v))
  pub same : length out ≡ length start

pub backward_none : (v n at : ℕ) (start : List ℕ) → Backward v n at start start v n
backward_none v n at start = record { bound = omega arith; written = refl; same = refl }

module _ (v n at : ℕ) (start out : List ℕ) (x i : ℕ) where
  step : (j : ℕ) → sets out at (digits (last_digits (suc j) x)) ≡ sets (set out (at + j) (48 + x % 10)) at (digits (last_digits j (x / 10)))
  unfolding last_digits digits
  step j =
      let e : length (digits (last_digits j (x / 10))) ≡ j = length_digits (last_digits j (x / 10)) ∙ length_last j (x / 10) in
      rw (digits_append (last_digits j (x / 10)) ((x % 10) ∷ []), sets_last (digits (last_digits j (x / 10))) out at (48 + x % 10), e)

  pub backward_more : Backward v n at start out x i → 0 < i → Backward v n at start (set out (at + (i - 1)) (48 + x % 10)) (x / 10) (i - 1)
  backward_more l h =
      let e : suc (i - 1) ≡ i = omega arith in
      record {
        bound = omega (arith, l.bound);
        written = sym (step (i - 1)) ∙ rw e l.written;
        same = length-set out (at + (i - 1)) (48 + x % 10) ∙ l.same;
      }

  pub backward_last : Backward v n at start out x i → i ≤ 0 → Wrote (digits (last_digits n v)) at start (at + n) out
  unfolding last_digits digits
  backward_last l h =
      let z : i ≡ 0 = omega arith in
      let w : sets out at (digits (last_digits 0 x)) ≡ sets start at (digits (last_digits n v)) = rw z at l.written in
      record {
        end = ap (λ (k : ℕ). at + k) (sym (length_digits (last_digits n v) ∙ length_last n v));
        holds = w;
      }
