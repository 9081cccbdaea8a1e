-- Numbers that are read without a loop: groups that are not the last, and then the last. Assumes nothing.
use mathlib.Core.Path.{◌≡◌, ap, ◌∙◌}
use mathlib.Core.List.{List}
use Prim.Native.Nat.{ℕ, ◌+◌, ◌*◌, ◌-◌, ◌^◌, ◌≤◌, ◌<◌}
use native.Mathlib.Nat.{mul-le-mul_right, pow-le-pow_right, add-zero}
use native.Mathlib.Numerals.{add-one}
use native.Mathlib.Omega.{arith}
use lib.Dec.{lit<}
use lib.ListN.{length, get_or, drop}
use Rattle.packed_numbers.specs.Numbers.{group, got, number}
use Rattle.packed_numbers.specs.Machine.Usual.{tops, Begun, Usual}
use Rattle.packed_numbers.proofs.Decode.{power_next, more_groups, last_value, one_group}

tops_next : (k : ℕ) → tops (k + 1) ≡ tops k + group * group ^ k
unfolding tops
tops_next k = rw add-one

pub none_begun : (s : List ℕ) (at : ℕ) → Begun s at 0 0
unfolding number tops
none_begun s at = record { small = omega arith; above = omega arith; begun = rw add-zero }

-- One group more, in numbers: p is its scale.
grown : (p t z b : ℕ) → z ≤ t → group ≤ b → t - z + (b - group) * p ≡ t + b * p - (z + group * p)
grown p t z b h l =
    let e : b ≡ b - group + group = omega arith in
    let m : b * p ≡ (b - group + group) * p = ap (λ (n : ℕ). n * p) e in
    omega (arith, m)

module _ (s : List ℕ) (at k sum b : ℕ) (e : b ≡ get_or s (at + k) 0) (h : at + k < length s) (g : Begun s at k sum) where
  pub one_more : group ≤ b → b < 256 → k < 8 → Begun s at (k + 1) (sum + b * group ^ k)
  one_more l u m =
      let i : at + k + 1 ≡ at + (k + 1) = omega arith in
      let t = tops_next k in
      let v : sum - tops k + (b - group) * group ^ k ≡ sum + b * group ^ k - tops (k + 1) = rw t (grown (group ^ k) sum (tops k) b g.above l) in
      record {
        small = omega (arith, g.small, power_next k, mul-le-mul_right (group ^ k) u);
        above = rw t (omega (arith, g.above, mul-le-mul_right (group ^ k) l));
        begun = g.begun ∙ more_groups s (at + k) k (sum - tops k) b e h l m ∙ rw (v, i);
      }

  last_one : b < group → (b ≡ 0 → ⊥) → number at (drop at s) ≡ got (sum + b * group ^ k - tops k) (at + k + 1) (drop (at + k + 1) s)
  last_one l z =
      let v : sum - tops k + b * group ^ k ≡ sum + b * group ^ k - tops k = omega (arith, g.above) in
      g.begun ∙ last_value s (at + k) k (sum - tops k) b e h l z ∙ rw v

-- The first byte of a number, as the only one and as the first of more.
pub first_only : (s : List ℕ) (at b : ℕ) → b ≡ get_or s at 0 → at < length s → b < group → Usual s at b (at + 1)
first_only s at b e h l = record { near = omega arith; read = one_group s at b e h l }

pub first_begun : (s : List ℕ) (at b : ℕ) → b ≡ get_or s at 0 → at < length s → group ≤ b → b < 256 → Begun s at 1 b
first_begun s at b e h l u =
    let z : at + 0 ≡ at = omega arith in
    let v : 0 + b * 1 ≡ b = omega arith in
    rw v at (one_more s at 0 0 b (rw z e) (rw z h) (none_begun s at) l u (omega arith))

-- The next two bytes x and y, after k groups of this sum, with the scale of x.
pub record Ahead (s : List ℕ) (at k sum scale x y : ℕ) : Type 0 where
  pub begun : Begun s at k sum
  pub scaled : scale ≡ group ^ k
  pub few : k ≤ 6
  pub room : at + 8 ≤ length s
  pub is_x : x ≡ get_or s (at + k) 0
  pub is_y : y ≡ get_or s (at + k + 1) 0
  pub byte_x : x < 256
  pub byte_y : y < 256

pub ahead : {s : List ℕ} {at k sum scale x y : ℕ} → Begun s at k sum → scale ≡ group ^ k → k ≤ 6 → at + 8 ≤ length s
    → (x ≡ get_or s (at + k) 0) × (x < 256) → (y ≡ get_or s (at + k + 1) 0) × (y < 256) → Ahead s at k sum scale x y
ahead b e l r x y = record { begun = b; scaled = e; few = l; room = r; is_x = x.0; is_y = y.0; byte_x = x.1; byte_y = y.1 }

-- The sizes of what is computed from them.
pub record Sizes (sum scale x y : ℕ) : Type 0 where
  pub scale_size : scale ≤ 4398046511104
  pub sum_size : sum ≤ 3 * scale
  pub x_size : x * scale ≤ 255 * scale
  pub y_size : y * (group * scale) ≤ 255 * (group * scale)

module _ {s : List ℕ} {at k sum scale x y : ℕ} (a : Ahead s at k sum scale x y) where
  pub sizes : Sizes sum scale x y
  sizes =
      let p : group ^ k ≤ 4398046511104 = pow-le-pow_right (lit< tt) a.few in
      let g = a.begun.small in
      let e = a.scaled in
      let lx : x ≤ 255 = omega (arith, a.byte_x) in
      let ly : y ≤ 255 = omega (arith, a.byte_y) in
      record {
        scale_size = omega arith;
        sum_size = omega arith;
        x_size = mul-le-mul_right scale lx;
        y_size = mul-le-mul_right (group * scale) ly;
      }

  -- x goes on.
  x_begun : group ≤ x → Begun s at (k + 1) (sum + x * scale)
  x_begun l = rw a.scaled (one_more s at k sum x a.is_x (omega (arith, a.room, a.few)) a.begun l a.byte_x (omega (arith, a.few)))

  next_scale : group * scale ≡ group ^ (k + 1)
  next_scale = omega (arith, power_next k, a.scaled)

  y_place : at + k + 1 ≡ at + (k + 1)
  y_place = omega arith

  y_is : y ≡ get_or s (at + (k + 1)) 0
  y_is = rw y_place at a.is_y

  pub both_begun : group ≤ x → group ≤ y → Begun s at (k + 2) (sum + x * scale + y * (group * scale))
  both_begun l m =
      let i : k + 1 + 1 ≡ k + 2 = omega arith in
      rw (next_scale) (rw i at (one_more s at (k + 1) (sum + x * scale) y y_is (omega (arith, a.room, a.few)) (x_begun l) m a.byte_y
      (omega (arith, a.few))))

  pub x_last : {top : ℕ} → top ≡ tops k → x < group → (x ≡ 0 → ⊥) → Usual s at (sum + x * scale - top) (at + k + 1)
  x_last e l z =
      record {
        near = omega (arith, a.few);
        read = rw (e, a.scaled) (last_one s at k sum x a.is_x (omega (arith, a.room, a.few)) a.begun l z);
      }

  pub y_last : {top : ℕ} → top ≡ tops k → group ≤ x → y < group → (y ≡ 0 → ⊥)
      → Usual s at (sum + x * scale + y * (group * scale) - (top + group * scale)) (at + k + 2)
  y_last {top} e h l z =
      let i : at + (k + 1) + 1 ≡ at + k + 2 = omega arith in
      let t : tops (k + 1) ≡ top + group * scale = omega (arith, tops_next k, a.scaled) in
      let q = last_one s at (k + 1) (sum + x * scale) y y_is (omega (arith, a.room, a.few)) (x_begun h) l z in
      record { near = omega (arith, a.few); read = rw (i, t, ← next_scale) at q }
