-- A vector turned to the true equator, as the code works it, and its size. Assumes nothing.
use mathlib.Core.Path.{◌≡◌, sym, ap₂, ◌∙◌, subst}
use Prim.Native.Nat.{ℕ, ◌+◌, ◌^◌, ◌≤◌, ◌<◌}
use native.Mathlib.Omega.{arith}
use native.Mathlib.Nat.{le_trans}
use lib.Dec.{lit<}
use lib.IntN.{ℤ, pos, nat_abs, ◌+ℤ◌, ◌-ℤ◌, ◌*ℤ◌}
use mir.Syntax.{w64}
use mir.Val.{SFits}
use Rattle.integers.specs.Division.{rounded}
use Rattle.integers.proofs.Order.{nat_abs_sub, nat_abs-+, fits}
use Rattle.units.specs.Units.{U}
use Rattle.cosine.specs.Cosine.{cosine, sine}
use Rattle.rectangular.specs.declared.Vector.{Vector}
use Rattle.rectangular.specs.Machine.Components.{Components}
use Rattle.arith.proofs.Cells.{Cell, cell, held_le}
use Rattle.reference_cosine.proofs.Ranges.{cosine_size, sine_size}
use Rattle.rectangular.proofs.Places.{scaled_size, three}
use Rattle.place.specs.Apparent.{to_equator}

-- Each turned component is at most the sum of two.
pub equator_size : (k : ℕ) (e : ℤ) (v : Vector) → Components k v → Components (k + k) (to_equator e v)
unfolding to_equator
equator_size k e v h =
    let yc = le_trans (scaled_size v.y (cosine e) (cosine_size e)) h.y_in in
    let ys = le_trans (scaled_size v.y (sine e) (sine_size e)) h.y_in in
    let zc = le_trans (scaled_size v.z (cosine e) (cosine_size e)) h.z_in in
    let zs = le_trans (scaled_size v.z (sine e) (sine_size e)) h.z_in in
    record {
      x_in = (let a = h.x_in in omega arith);
      y_in = (let s = nat_abs_sub (rounded (v.y *ℤ cosine e) U) (rounded (v.z *ℤ sine e) U) in omega arith);
      z_in = (let s = nat_abs-+ (rounded (v.y *ℤ sine e) U) (rounded (v.z *ℤ cosine e) U) in omega arith);
    }

-- The two products that y and z are made of, by a cosine and a sine, and their difference and sum.
module _ (y z c s : ℤ) (y_in : nat_abs y ≤ 2 ^ 61) (z_in : nat_abs z ≤ 2 ^ 61) (c_in : nat_abs c ≤ U) (s_in : nat_abs s ≤ U) where
  difference_small : nat_abs (rounded (y *ℤ c) U -ℤ rounded (z *ℤ s) U) < 2 ^ 63
  difference_small =
      omega (arith, nat_abs_sub (rounded (y *ℤ c) U) (rounded (z *ℤ s) U), le_trans (scaled_size y c c_in) y_in, le_trans (scaled_size z s s_in) z_in)

  sum_small : nat_abs (rounded (y *ℤ s) U +ℤ rounded (z *ℤ c) U) < 2 ^ 63
  sum_small =
      omega (arith, nat_abs-+ (rounded (y *ℤ s) U) (rounded (z *ℤ c) U), le_trans (scaled_size y s s_in) y_in, le_trans (scaled_size z c c_in) z_in)

-- A vector's numbers and a cosine c and a sine s, as they are handed on.
module _ (v : Vector) (h : Components (2 ^ 61) v) (e : ℕ) (c s : ℤ) (pc : c ≡ cosine (pos e)) (ps : s ≡ sine (pos e)) where
  c_in : nat_abs c ≤ U
  c_in = subst (λ (t : ℤ). nat_abs t ≤ U) (sym pc) (cosine_size (pos e))

  s_in : nat_abs s ≤ U
  s_in = subst (λ (t : ℤ). nat_abs t ≤ U) (sym ps) (sine_size (pos e))

  pub scales_ask : (nat_abs (Cell v.y) < 2 ^ 63) × (nat_abs (Cell v.z) < 2 ^ 63) × (nat_abs (Cell c) ≤ U) × (nat_abs (Cell s) ≤ U)
  scales_ask =
      let y = held_le v.y (2 ^ 61) (lit< tt) h.y_in in
      let z = held_le v.z (2 ^ 61) (lit< tt) h.z_in in
      (omega arith, omega arith, held_le c U (lit< tt) c_in, held_le s U (lit< tt) s_in)

  product : (x m z : ℤ) → nat_abs x ≤ 2 ^ 61 → nat_abs m ≤ U → z ≡ rounded (Cell x *ℤ Cell m) U → Cell z ≡ rounded (x *ℤ m) U
  product x m z hx hm e =
      let p : z ≡ rounded (x *ℤ m) U = rw (cell x (omega arith), cell m (omega arith)) at e in
      let l = le_trans (scaled_size x m hm) hx in rw p (cell (rounded (x *ℤ m) U) (omega arith))

  -- the products a and b of the new y
  module _ (a b : ℤ) (pa : a ≡ rounded (Cell v.y *ℤ Cell c) U) (pb : b ≡ rounded (Cell v.z *ℤ Cell s) U) where
    y_is : Cell a -ℤ Cell b ≡ rounded (v.y *ℤ c) U -ℤ rounded (v.z *ℤ s) U
    y_is = ap₂ ◌-ℤ◌ (product v.y c a h.y_in c_in pa) (product v.z s b h.z_in s_in pb)

    y_small : nat_abs (Cell a -ℤ Cell b) < 2 ^ 63
    y_small = rw y_is (difference_small v.y v.z c s h.y_in h.z_in c_in s_in)

    pub y_fits : SFits w64 (Cell a -ℤ Cell b)
    y_fits = fits _ y_small

  -- and d and f of the new z
  module _ (d f : ℤ) (pd : d ≡ rounded (Cell v.y *ℤ Cell s) U) (pf : f ≡ rounded (Cell v.z *ℤ Cell c) U) where
    z_is : Cell d +ℤ Cell f ≡ rounded (v.y *ℤ s) U +ℤ rounded (v.z *ℤ c) U
    z_is = ap₂ ◌+ℤ◌ (product v.y s d h.y_in s_in pd) (product v.z c f h.z_in c_in pf)

    z_small : nat_abs (Cell d +ℤ Cell f) < 2 ^ 63
    z_small = rw z_is (sum_small v.y v.z c s h.y_in h.z_in c_in s_in)

    pub z_fits : SFits w64 (Cell d +ℤ Cell f)
    z_fits = fits _ z_small

  pub to_equator_is : (a b d f : ℤ) → a ≡ rounded (Cell v.y *ℤ Cell c) U → b ≡ rounded (Cell v.z *ℤ Cell s) U → d ≡ rounded (Cell v.y *ℤ Cell s) U
      → f ≡ rounded (Cell v.z *ℤ Cell c) U
      → ◌≡◌ {A = Vector} (record { x = Cell v.x; y = Cell (Cell a -ℤ Cell b); z = Cell (Cell d +ℤ Cell f) }) (to_equator (pos e) v)
  unfolding to_equator
  to_equator_is a b d f pa pb pd pf =
      rw (← pc, ← ps)
      (three (cell v.x (let k = h.x_in in omega arith)) (cell _ (y_small a b pa pb) ∙ y_is a b pa pb) (cell _ (z_small d f pd pf) ∙ z_is d f pd pf))
