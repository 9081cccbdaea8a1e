-- A factor split at the divisor: x·k by d from (x / d)·k and (x % d)·k; and a division in two, the second with rounding. Assumes nothing.
use mathlib.Core.Path.{◌≡◌, sym, ap, ◌∙◌}
use mathlib.Core.Bool.{false}
use Prim.Native.Nat.{ℕ, ◌+◌, ◌*◌, ◌/◌, ◌%◌, ◌≤◌, ◌<◌}
use native.Mathlib.Omega.{arith}
use native.Mathlib.Nat.{div-add-mod, mod-lt, mul-le-mul, mul-le-mul_left, mul-le-mul_right}
use lib.IntN.{pos, ◌*ℤ◌}
use Rattle.integers.specs.Division.{rounded}
use Rattle.integers.specs.Signs.{sgn, near}
use Rattle.integers.proofs.Division.{div_is, rounded_near}
use Rattle.arith.proofs.Long.{Divided, quotient, quot_lt}

pub split : (x k d : ℕ) → 0 < d → Divided (x * k) d (x / d * k + x % d * k / d) (x % d * k % d)
split x k d h = record {
  rest = mod-lt (x % d * k) h;
  whole = let e = div-add-mod (x % d * k) d in omega (arith, ap (λ (t : ℕ). t * k) (div-add-mod x d));
}

-- its parts fit where the quotient does
pub split_below : (x k d w : ℕ) → 0 < d → x * k < d * w → x / d * k + x % d * k / d < w
split_below x k d w h l = quot_lt (x * k) d _ _ w (split x k d h) l

-- by no more than the divisor nothing grows
pub small_factor : (x k d w : ℕ) → 0 < d → k ≤ d → x < w → x * k < d * w
small_factor x k d w h l g = omega (arith, mul-le-mul_left x l, mul-le-mul_left d g)

pub low_factor : (x k d w : ℕ) → 0 < d → k * d < w → x % d * k < w
low_factor x k d w h l = let g : x % d ≤ d = below (mod-lt x h) in omega (arith, mul-le-mul_right k g)
  where
    below : x % d < d → x % d ≤ d
    below g = omega arith

-- rounding by an even t does not see the rest of a division before it
two_steps : (n s t : ℕ) → 0 < s → 0 < t → t % 2 ≡ 0 → near false (n / s) t ≡ near false n (s * t)
unfolding near
two_steps n s t hs ht even =
    let q = (2 * (n / s) + t) / (2 * t) in
    let w = (2 * (n / s) + t) % (2 * t) in
    let l : w < 2 * t = mod-lt (2 * (n / s) + t) (omega arith) in
    let e = div-add-mod (2 * (n / s) + t) (2 * t) in
    let f = div-add-mod n s in
    let g = mod-lt n hs in
    sym (bounds n s t q w (n / s) (n % s) (t / 2) (half t even) e l f g)
  where
    half : (t : ℕ) → t % 2 ≡ 0 → t ≡ 2 * (t / 2)
    half t e = omega arith

    bounds : (n s t q w e r h : ℕ) → t ≡ 2 * h → 2 * t * q + w ≡ 2 * e + t → w < 2 * t → s * e + r ≡ n → r < s → (2 * n + s * t) / (2 * (s * t)) ≡ q
    bounds n s t q w e r h th m l f g =
        let gap : w + 2 ≤ 2 * t = last q w e h t th m l in
        div_is (2 * n + s * t) (2 * (s * t)) q
        (omega (arith, ap (λ (x : ℕ). s * x) m))
        (omega (arith, ap (λ (x : ℕ). s * x) m, mul-le-mul_left s gap))
      where
        last : (q w e h t : ℕ) → t ≡ 2 * h → 2 * t * q + w ≡ 2 * e + t → w < 2 * t → w + 2 ≤ 2 * t
        last q w e h t th m l = omega (arith, ap (λ (x : ℕ). x * q) th)

times_pos : (s t : ℕ) → 0 < s → 0 < t → 0 < s * t
times_pos s t h k = let g : 1 * 1 ≤ s * t = mul-le-mul h k in omega arith

pub rounded_two_steps : (a x s t z : ℕ) → 0 < s → 0 < t → t % 2 ≡ 0 → z ≡ near false (x / s * a + x % s * a / s) t → pos z ≡ rounded (pos a *ℤ pos x) (s * t)
unfolding sgn
rounded_two_steps a x s t z hs ht even e =
    ap pos (e ∙ ap (λ (n : ℕ). near false n t) (quotient _ _ _ _ (split x a s hs)).0 ∙ two_steps (x * a) s t hs ht even)
    ∙ sym (rounded_near false (x * a) (s * t) (times_pos s t hs ht))
    ∙ ap (λ (n : ℕ). rounded (pos n) (s * t)) (commutes x a)
  where
    commutes : (x a : ℕ) → x * a ≡ a * x
    commutes x a = omega arith
