-- Long multiplication and division by digits of 16 bits: (q, r) is the quotient and the rest of the product of the digits so far. Assumes nothing.
use mathlib.Core.Path.{◌≡◌, sym, ap, ap₂, ◌∙◌, subst}
use Prim.Native.Nat.{ℕ, ◌+◌, ◌-◌, ◌*◌, ◌/◌, ◌%◌, ◌^◌, ◌≤◌, ◌<◌}
use native.Mathlib.Omega.{arith, by_contra}
use native.Mathlib.Nat.{div-add-mod, div-add-mod', mod-lt, mul-le-mul_left, mul-le-mul_right}
use Rattle.integers.proofs.Division.{div_is}
use Rattle.arith.specs.Machine.Digits.{base}

pub record Divided (n d q r : ℕ) : Type 0 where
  pub rest : r < d
  pub whole : q * d + r ≡ n

-- the same said by `/` and `%`, as the contracts do
pub divided : (n d q r : ℕ) → 0 < d → (q ≡ n / d) × (r ≡ n % d) → Divided n d q r
divided n d q r h e = record {
  rest = subst (λ (t : ℕ). t < d) (sym e.1) (mod-lt n h);
  whole = ap₂ (λ (s t : ℕ). s * d + t) e.0 e.1 ∙ div-add-mod' n d;
}

pub quotient : (n d q r : ℕ) → Divided n d q r → (q ≡ n / d) × (r ≡ n % d)
quotient n d q r z =
    let w = z.whole in
    let l = z.rest in
    let e : n / d ≡ q = div_is n d q (omega arith) (omega arith) in
    (sym e, rest e (div-add-mod n d))
  where
    rest : n / d ≡ q → d * (n / d) + n % d ≡ n → r ≡ n % d
    rest e f = let w = z.whole in omega (arith, ap (λ (t : ℕ). d * t) e)

-- the next digit g of the one factor, times the other factor b
pub digit : (q r g b d : ℕ) → 0 < d → Divided ((q * d + r) * base + g * b) d (q * base + (r * base + g * b) / d) ((r * base + g * b) % d)
digit q r g b d h = record {
  rest = mod-lt (r * base + g * b) h;
  whole = let e = div-add-mod (r * base + g * b) d in omega arith;
}

-- the new quotient fits where the whole quotient does
pub digit_fits : (q r g b d : ℕ) → 0 < d → (q * d + r) * base + g * b < d * 2 ^ 64 → q * base + (r * base + g * b) / d < 2 ^ 64
digit_fits q r g b d h k =
    let e = div-add-mod (r * base + g * b) d in
    let u : q * base + (r * base + g * b) / d ≤ 2 ^ 64 - 1 =
    by_contra _ (2 ^ 64 - 1) (λ (l : 2 ^ 64 - 1 < q * base + (r * base + g * b) / d). omega (arith, mul-le-mul_left d l)) in
    omega arith

-- the partial sum fits
pub sum_fits : (r g b d : ℕ) → r < d → d ≤ 2 ^ 47 → b ≤ 2 ^ 47 → g < base → r * base + g * b < 2 ^ 64
sum_fits r g b d h k l m =
    let p : g * b ≤ g * 2 ^ 47 = mul-le-mul_left g l in
    omega arith

-- the digits so far are h, the next is g, and with it they are k
pub next_is : (h g k b n m : ℕ) → n ≡ h * b → m ≡ n * base + g * b → h * base + g ≡ k → m ≡ k * b
next_is h g k b n m p q e = omega (arith, ap (λ (t : ℕ). t * b) e)

pub next_fits : (h g a b d n : ℕ) → n ≡ h * b → h * base + g ≤ a → a * b < d * 2 ^ 64 → n * base + g * b < d * 2 ^ 64
next_fits h g a b d n p l k = omega (arith, mul-le-mul_right b l)

-- a quotient below a bound
pub quot_lt : (n d q r k : ℕ) → Divided n d q r → n < d * k → q < k
quot_lt n d q r k z h =
    let e = z.whole in
    let u : q + 1 ≤ k = by_contra (q + 1) k (λ (l : k < q + 1). omega (arith, mul-le-mul_left d l)) in
    omega arith

-- Two facts with nothing else in reach: at a need the tactic would read the whole contract with its wide numbers.
pub above_zero : {r d : ℕ} → r < d → 0 < d
above_zero {r} {d} h = omega arith

pub times_base : {r d : ℕ} → r < d → d ≤ 2 ^ 47 → r * base < 2 ^ 64
times_base {r} {d} h k = omega arith

pub first_fits : (a b d : ℕ) → a * b < d * 2 ^ 64 → (0 * d + 0) * base + a / (base * base * base) * b < d * 2 ^ 64
first_fits a b d h = let l : a / (base * base * base) ≤ a = omega arith in omega (arith, mul-le-mul_right b l)

pub top_digit : (a : ℕ) → a < 2 ^ 64 → a / (base * base * base) < base
top_digit a h = omega arith

pub le_left : (a b : ℕ) {k : ℕ} → a + b < k → a < k
le_left a b {k} h = omega arith

pub le_right : (a b : ℕ) {k : ℕ} → a + b < k → b < k
le_right a b {k} h = omega arith

pub more_room : (n d : ℕ) → n < d * (2 ^ 63 - 1) → n < d * 2 ^ 64
more_room n d h = omega arith

pub next_word : {q : ℕ} → q < 2 ^ 63 - 1 → q + 1 < 2 ^ 64
next_word {q} h = omega arith

pub half_word : {q z : ℕ} → q < 2 ^ 63 - 1 → z ≤ q + 1 → z < 2 ^ 63
half_word {q} {z} h k = omega arith
