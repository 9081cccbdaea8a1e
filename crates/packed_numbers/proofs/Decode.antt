-- The reader of a number, a byte at a time, and the size of what it has read. Assumes nothing.
use mathlib.Core.Path.{◌≡◌, ap, ◌∙◌}
use mathlib.Core.List.{List, ◌∷◌}
use Prim.Native.Nat.{ℕ, ◌+◌, ◌*◌, ◌-◌, ◌^◌, ◌≤◌, ◌<◌}
use native.Mathlib.Nat.{mul-le-mul_right, pow-le-pow_right, pow-succ'}
use native.Mathlib.Numerals.{add-one}
use native.Mathlib.Decide.{ℕ_discrete}
use native.Mathlib.Omega.{arith}
use borrow.Author.Tests.{lt-ltb, le-ltb, lt-leb, le-leb, eq-eqb, ne_eqb}
use lib.Dec.{lit<}
use lib.ListN.{length, get_or, drop, drop_of_length-le}
use lib.Seq.{drop-cons}
use Rattle.units.specs.declared.Refusal.TheVariants.{OverLimit, EndedEarly, NotShortest}
use Rattle.packed_numbers.specs.Numbers.{group, got, bad, closed, groups_from, number}

pub power_small : (k : ℕ) → k ≤ 8 → group ^ k ≤ 72057594037927936
power_small k h = pow-le-pow_right (lit< tt) h

pub power_next : (k : ℕ) → group ^ (k + 1) ≡ group * group ^ k
power_next k = rw add-one (pow-succ' group k)

-- One group more.
pub more_small : (acc x s : ℕ) → acc < s → x ≤ 127 → acc + x * s < group * s
more_small acc x s h l = omega (arith, mul-le-mul_right s l)

-- A number of at most nine groups fits.
pub group_fits : (k scale acc x : ℕ) → scale ≡ group ^ k → k ≤ 8 → acc < group ^ k → x ≤ 127 → acc + x * scale < 2 ^ 63
group_fits k scale acc x e h l m =
    let a : acc < scale = rw e l in
    omega (arith, more_small acc x scale a m, power_small k h)

module _ (s : List ℕ) (i k acc b : ℕ) (e : b ≡ get_or s i 0) (h : i < length s) where
  first : drop i s ≡ b ∷ drop (i + 1) s
  first = rw (e, add-one) (drop-cons s i 0 h)

  -- A last group of 0: as the only group it is the number 0, and after another it is not the shortest form.
  pub last_padded : b < group → b ≡ 0 → 0 < k → groups_from k acc i (drop i s) ≡ bad (NotShortest i)
  unfolding groups_from closed
  last_padded l z p = rw (first, lt-ltb b group l, eq-eqb b 0 z, ne_eqb k 0 (λ (w : k ≡ 0). omega (arith, w)))

  pub last_value : b < group → (b ≡ 0 → ⊥) → groups_from k acc i (drop i s) ≡ got (acc + b * group ^ k) (i + 1) (drop (i + 1) s)
  unfolding groups_from closed
  last_value l z = rw (first, lt-ltb b group l, ne_eqb b 0 z)

  pub too_long : group ≤ b → 8 ≤ k → groups_from k acc i (drop i s) ≡ bad (OverLimit i)
  unfolding groups_from
  too_long l m = rw (first, le-ltb b group l, le-leb 8 k m)

  pub more_groups : group ≤ b → k < 8 → groups_from k acc i (drop i s) ≡ groups_from (k + 1) (acc + (b - group) * group ^ k) (i + 1) (drop (i + 1) s)
  unfolding groups_from
  more_groups l m = rw (first, le-ltb b group l, lt-leb 8 k m)

pub no_group : (s : List ℕ) (i k acc : ℕ) → length s ≤ i → groups_from k acc i (drop i s) ≡ bad (EndedEarly i)
unfolding groups_from
no_group s i k acc h = rw (drop_of_length-le s h)

-- The first byte of a number.
module _ (s : List ℕ) (at b : ℕ) (e : b ≡ get_or s at 0) (h : at < length s) where
  pub one_group : b < group → number at (drop at s) ≡ got b (at + 1) (drop (at + 1) s)
  unfolding number groups_from closed
  one_group l = go (ℕ_discrete b 0)
    where
      go : Dec (b ≡ 0) → number at (drop at s) ≡ got b (at + 1) (drop (at + 1) s)
      go (yes z) = rw (first s at 0 0 b e h, lt-ltb b group l, eq-eqb b 0 z, z)
      go (no z) = last_value s at 0 0 b e h l z ∙ ap (λ (n : ℕ). got n (at + 1) (drop (at + 1) s)) (omega arith)

  pub more_than_one : group ≤ b → number at (drop at s) ≡ groups_from 1 (b - group) (at + 1) (drop (at + 1) s)
  unfolding number
  more_than_one l = more_groups s at 0 0 b e h l (omega arith) ∙ ap (λ (n : ℕ). groups_from 1 n (at + 1) (drop (at + 1) s)) (omega arith)

pub no_number : (s : List ℕ) (at : ℕ) → length s ≤ at → number at (drop at s) ≡ bad (EndedEarly at)
unfolding number
no_number s at h = no_group s at 0 0 h
