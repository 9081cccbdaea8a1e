-- What specs/Bits claims of every number. Assumes nothing.
use mathlib.Core.Path.{◌≡◌, sym, ap, subst}
use Prim.Native.Nat.{ℕ, zero, suc, ◌+◌, ◌*◌, ◌/◌, ◌%◌, ◌^◌, ◌≤◌, ◌<◌}
use native.Mathlib.Omega.{arith}
use lib.Pow.{pow_pos}
use lib.Dec.{lit<}
use native.Mathlib.Nat.{mul_comm, mul-le-mul, le_trans, lt_of_lt_of_le, one-le-pow, pow-suc}
use native.Mathlib.Nat.{mod-lt, div-add-mod', div-mul-le_self, div-div-eq-div-mul, le-div_iff_mul-le, div-lt_iff_lt-mul}
use native.Mathlib.Decide.{dec_le}
use Rattle.integers.specs.Root.{root}
use Rattle.integers.proofs.Root.{IsRoot, root_spec, root_is}
use Rattle.roots.specs.Bits.{Bits, none, kept, dropped, bit, tried, RightBit, kept_fits, dropped_passes, EveryBit, ByBits}
use Rattle.roots.proofs.Bits.{bits_root, next_power}

-- ---- every number has its bits

-- one pair more, whatever it is
with_bit : (m pair r : ℕ) → Bits m r → pair < 4 → Bits (4 * m + pair) (root (4 * m + pair))
with_bit m pair r b p = go (dec_le ((2 * r + 1) * (2 * r + 1)) (4 * m + pair))
  where
    same : {s : ℕ} → Bits (4 * m + pair) s → Bits (4 * m + pair) (root (4 * m + pair))
    same c = subst (Bits (4 * m + pair)) (bits_root c) c

    go : Dec ((2 * r + 1) * (2 * r + 1) ≤ 4 * m + pair) → Bits (4 * m + pair) (root (4 * m + pair))
    go (yes h) = same (kept b p h)
    go (no f) = same (dropped b p (omega arith))

-- a number below so many fours
bits_below : (fuel n : ℕ) → n < 4 ^ fuel → Bits n (root n)
bits_below zero n h = let e : 0 ≡ n = omega arith in subst (λ (t : ℕ). Bits t (root t)) e (subst (Bits 0) (bits_root none) none)
bits_below (suc fuel) n h =
    let l : n / 4 < 4 ^ fuel = omega arith in
    let e : 4 * (n / 4) + n % 4 ≡ n = omega arith in
    subst (λ (t : ℕ). Bits t (root t)) e (with_bit (n / 4) (n % 4) _ (bits_below fuel (n / 4) l) (omega arith))

below_fours : (n : ℕ) → n < 4 ^ n
below_fours zero = omega arith
below_fours (suc n) = omega (arith, below_fours n)

bits_of : (n : ℕ) → Bits n (root n)
bits_of n = bits_below n n (below_fours n)

-- ---- the beginnings of a root

fours : (k : ℕ) → 4 ^ k ≡ 2 ^ k * 2 ^ k
fours zero = omega arith
fours (suc k) = rw (pow-suc 4 k, pow-suc 2 k) (omega (arith, fours k))

-- the bits down to place k, with noughts below
abbrev down_to : ℕ → ℕ → ℕ
down_to k r = r / 2 ^ k * 2 ^ k

-- they are not past the number, and with 1 more at that place they are
down_fits : (n r k : ℕ) → r * r ≤ n → down_to k r * down_to k r ≤ n
down_fits n r k h = let l = div-mul-le_self r (2 ^ k) in le_trans (mul-le-mul l l) h

down_passes : (n r k : ℕ) → n < (r + 1) * (r + 1) → n < (down_to k r + 2 ^ k) * (down_to k r + 2 ^ k)
down_passes n r k h =
    let l : r + 1 ≤ r / 2 ^ k * 2 ^ k + 2 ^ k = omega (arith, div-add-mod' r (2 ^ k), mod-lt r (pow_pos k)) in
    lt_of_lt_of_le h (mul-le-mul l l)

-- so they are the root of the number down to there
root_down : (n r k : ℕ) → IsRoot n r → r / 2 ^ k ≡ root (n / 4 ^ k)
root_down n r k i =
    let q = r / 2 ^ k in
    let p = one-le-pow k 4 (lit< tt) in
    let a : q * q * 4 ^ k ≤ n = rw (fours k) (omega (arith, down_fits n r k i.low)) in
    let b : n < (q + 1) * (q + 1) * 4 ^ k = rw (fours k) (omega (arith, down_passes n r k i.high)) in
    root_is _ _ (record { low = (le-div_iff_mul-le p).1 a; high = (div-lt_iff_lt-mul p).1 b })

-- ---- at each place

halved : (k r : ℕ) → r / 2 ^ (k + 1) ≡ r / 2 ^ k / 2
halved k r = rw (next_power 2 k, mul_comm 2 (2 ^ k)) (sym (div-div-eq-div-mul r (2 ^ k) 2))

-- what is tried at a place, by the bits down to there
tried_is : (k r : ℕ) → tried k r + bit k r * 2 ^ k ≡ down_to k r + 2 ^ k
tried_is k r =
    let q = r / 2 ^ k in
    let e : q ≡ 2 * (q / 2) + q % 2 = omega arith in
    rw (halved k r, next_power 2 k) (omega (arith, ap (λ (t : ℕ). t * 2 ^ k) e))

-- a bit that is not 1 is 0
right_bit : (n r k : ℕ) → IsRoot n r → RightBit n r k
right_bit n r k i = go (dec_le 1 (bit k r))
  where
    go : Dec (1 ≤ bit k r) → RightBit n r k
    go (yes h) =
        let e : bit k r ≡ 1 = omega arith in
        let f : bit k r * 2 ^ k ≡ 1 * 2 ^ k = ap (λ (t : ℕ). t * 2 ^ k) e in
        let d : down_to k r ≡ tried k r = omega (arith, tried_is k r) in
        kept_fits e (subst (λ (t : ℕ). t * t ≤ n) d (down_fits n r k i.low))
    go (no f) =
        let e : bit k r ≡ 0 = omega arith in
        let f : bit k r * 2 ^ k ≡ 0 * 2 ^ k = ap (λ (t : ℕ). t * 2 ^ k) e in
        let d : down_to k r + 2 ^ k ≡ tried k r = omega (arith, tried_is k r) in
        dropped_passes e (subst (λ (t : ℕ). n < t * t) d (down_passes n r k i.high))

every_bit : (n : ℕ) → EveryBit n (root n)
every_bit n =
    let i = root_spec n in
    record {
      found = λ k. subst (Bits (n / 4 ^ k)) (sym (root_down n (root n) k i)) (bits_of (n / 4 ^ k));
      right = λ k. right_bit n (root n) k i;
    }

pub by_bits : ByBits
by_bits = record { is_root = λ n r b. bits_root b; every_bit = every_bit }
