-- Digits as they are written, one behind the other. Assumes nothing.
use mathlib.Core.List.{append_assoc}
use Rattle.std.proofs.Common.{◌≡◌, refl, sym, ap, ◌∙◌, ℕ, zero, suc, ◌+◌, ◌-◌, ◌/◌, ◌%◌, ◌^◌, ◌<◌, ◌≤◌, List, [], ◌∷◌, ◌++◌, length, true, false, Bool, arith, length-append}
use Prim.Native.Nat.{min}
use native.Mathlib.Decide.{dec_le}
use native.Mathlib.Nat.{pow-succ', pow-le-pow_right}
use borrow.Author.Tests.{lt-ltb, le-ltb}
use lib.IntN.{ℤ, nat_abs}
use Rattle.integers.specs.Signs.{negative}
use Rattle.decimals.specs.Decimals.{point, zero_digit, most_digits, decimal, written, signed_decimal, last_digits, fraction}

-- A number below ten is one digit; any other has the digits of its tenth in front.
pub decimal_none : (places n : ℕ) → places ≡ 0 → decimal places n ≡ []
unfolding decimal
decimal_none places n e = rw e

pub decimal_one : (places n : ℕ) → (places ≡ 0 → ⊥) → n < 10 → decimal places n ≡ (zero_digit + n) ∷ []
unfolding decimal
decimal_one zero n h l = absurd (h refl)
decimal_one (suc places) n h l = rw (lt-ltb n 10 l)

pub decimal_more : (places n : ℕ) → (places ≡ 0 → ⊥) → 10 ≤ n → decimal places n ≡ decimal (places - 1) (n / 10) ++ (zero_digit + n % 10) ∷ []
unfolding decimal
decimal_more zero n h l = absurd (h refl)
decimal_more (suc places) n h l =
    let s : suc places - 1 ≡ places = omega arith in
    rw (le-ltb n 10 l, s)

pub one_put : (places n d : ℕ) (old mid new : List ℕ) → (places ≡ 0 → ⊥) → n < 10 → mid ≡ old → d ≡ zero_digit + n % 10 → new ≡ mid ++ d ∷ []
    → new ≡ old ++ decimal places n
one_put places n d old mid new h l f g e =
    let k : zero_digit + n % 10 ≡ zero_digit + n = omega arith in
    e ∙ ap (λ t. t ++ d ∷ []) f ∙ ap (λ b. old ++ b ∷ []) (g ∙ k) ∙ ap (λ ds. old ++ ds) (sym (decimal_one places n h l))

pub more_put : (places n d : ℕ) (old mid new : List ℕ) → (places ≡ 0 → ⊥) → 10 ≤ n → mid ≡ old ++ decimal (places - 1) (n / 10)
    → d ≡ zero_digit + n % 10 → new ≡ mid ++ d ∷ [] → new ≡ old ++ decimal places n
more_put places n d old mid new h l f g e =
    let tenth : List ℕ = decimal (places - 1) (n / 10) in
    e ∙ ap (λ t. t ++ d ∷ []) f ∙ ap (λ b. (old ++ tenth) ++ b ∷ []) g ∙ append_assoc old tenth ((zero_digit + n % 10) ∷ [])
    ∙ ap (λ ds. old ++ ds) (sym (decimal_more places n h l))

pub decimal_length : (places n : ℕ) → length (decimal places n) ≤ places
unfolding decimal
decimal_length zero n = omega arith
decimal_length (suc places) n = go (dec_le 10 n) (decimal_length places (n / 10))
  where
    go : Dec (10 ≤ n) → length (decimal places (n / 10)) ≤ places → length (decimal (suc places) n) ≤ suc places
    go (yes h) l = rw (le-ltb n 10 h) (omega (arith, length-append (decimal places (n / 10)) ((zero_digit + n % 10) ∷ [])))
    go (no h) l = rw (lt-ltb n 10 (omega arith)) (omega arith)

-- Places that a number has no digits for change nothing, and twenty are enough for 64 bits.
decimal_enough : (places more n : ℕ) → places ≤ more → n < 10 ^ suc places → decimal (suc more) n ≡ decimal (suc places) n
unfolding decimal
decimal_enough zero more n l h = let d : n < 10 = omega (arith, pow-succ' 10 0) in rw (lt-ltb n 10 d)
decimal_enough (suc places) zero n l h = absurd (omega arith)
decimal_enough (suc places) (suc more) n l h = go (dec_le 10 n) (decimal_enough places more (n / 10))
  where
    go : Dec (10 ≤ n) → (places ≤ more → n / 10 < 10 ^ suc places → decimal (suc more) (n / 10) ≡ decimal (suc places) (n / 10))
        → decimal (suc (suc more)) n ≡ decimal (suc (suc places)) n
    go (yes t) r = rw (le-ltb n 10 t, r (omega arith) (omega (arith, pow-succ' 10 (suc places))))
    go (no t) r = let d : n < 10 = omega (arith, t) in rw (lt-ltb n 10 d)

pub decimal_few : (places n k : ℕ) → n < 2 ^ 64 → k ≡ min places most_digits → decimal k n ≡ decimal places n
decimal_few places n k h e = go (dec_le most_digits places)
  where
    go : Dec (most_digits ≤ places) → decimal k n ≡ decimal places n
    go (yes l) =
        let s : places ≡ suc (places - 1) = omega arith in
        let t : k ≡ most_digits = omega (arith, e) in
        ap (λ d. decimal d n) t ∙ sym (decimal_enough 19 (places - 1) n (omega arith) (omega arith)) ∙ ap (λ d. decimal d n) (sym s)
    go (no l) = let t : k ≡ places = omega (arith, e, l) in ap (λ d. decimal d n) t

-- A sign, and what it stands before.
pub written_is : (below : Bool) (ds : List ℕ) → written below ds ≡ written below [] ++ ds
written_is true ds = refl
written_is false ds = refl

pub sign_length : (below : Bool) → length (written below []) ≤ 1
sign_length true = omega arith
sign_length false = omega arith

pub signed_length : (z : ℤ) → length (signed_decimal z) ≤ 1 + most_digits
unfolding signed_decimal
signed_length z = rw written_is
    (omega (arith, length-append (written (negative z) []) (decimal most_digits (nat_abs z)), sign_length (negative z), decimal_length most_digits (nat_abs z)))

-- The last digits, the first of them before the others.
pub last_more : (k n : ℕ) → 0 < k → last_digits k n ≡ (zero_digit + n / 10 ^ (k - 1) % 10) ∷ last_digits (k - 1) n
unfolding last_digits
last_more zero n h = absurd (omega arith)
last_more (suc k) n h = let s : suc k - 1 ≡ k = omega arith in rw s

pub last_length : (k n : ℕ) → length (last_digits k n) ≡ k
unfolding last_digits
last_length zero n = refl
last_length (suc k) n = ap suc (last_length k n)

pub last_none : (k n : ℕ) → k ≤ 0 → last_digits k n ≡ []
unfolding last_digits
last_none zero n h = refl
last_none (suc k) n h = absurd (omega arith)

-- How much room they still need.
pub last_room : (a b : List ℕ) (k places n : ℕ) → a ++ last_digits k n ≡ b ++ last_digits places n → length a + k ≡ length b + places
last_room a b k places n e =
    let l : length (a ++ last_digits k n) ≡ length (b ++ last_digits places n) = ap length e in
    let f : length a + length (last_digits k n) ≡ length b + length (last_digits places n) = simp length-append at l in
    omega (arith, last_length k n, last_length places n)

pub fraction_is : (below : Bool) (k n : ℕ)
    → fraction below k n ≡ written below [] ++ (decimal most_digits (n / 10 ^ k) ++ (point ∷ last_digits k n))
unfolding fraction
fraction_is below k n = written_is below _

pub fraction_length : (below : Bool) (k n : ℕ) → length (fraction below k n) ≤ 2 + most_digits + k
fraction_length below k n =
    let whole : List ℕ = decimal most_digits (n / 10 ^ k) in
    let rest : List ℕ = point ∷ last_digits k n in
    let sum = length-append whole rest in
    let w = decimal_length most_digits (n / 10 ^ k) in
    rw fraction_is (omega (arith, length-append (written below []) (whole ++ rest), sum, sign_length below, w, last_length k n))

-- A power of ten within 64 bits has fewer places than these.
pub unit_places : (places unit : ℕ) → unit ≡ 10 ^ places → unit < 2 ^ 64 → places < most_digits
unit_places places unit e h = go (dec_le most_digits places)
  where
    go : Dec (most_digits ≤ places) → places < most_digits
    go (yes l) = absurd (omega (arith, e, h, pow-le-pow_right {n = 10} (omega arith) l))
    go (no l) = omega (arith, l)

pub signed_put : (z : ℤ) (minus : Bool) (size : ℕ) (old mid new : List ℕ) → minus ≡ negative z → size ≡ nat_abs z → mid ≡ old ++ written minus []
    → new ≡ mid ++ decimal most_digits size → new ≡ old ++ signed_decimal z
unfolding signed_decimal
signed_put z minus size old mid new e f g h =
    let ds : List ℕ = decimal most_digits size in
    let whole : new ≡ old ++ written minus ds =
    h ∙ ap (λ t. t ++ ds) g ∙ append_assoc old (written minus []) ds ∙ ap (λ t. old ++ t) (sym (written_is minus ds)) in
    rw (← e, ← f) whole
