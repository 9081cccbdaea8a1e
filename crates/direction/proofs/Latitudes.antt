-- The length of (X, Y) is small enough for a direction, and Z times 0 is no part of it. Assumes nothing.
use mathlib.Core.Path.{◌≡◌, sym, ap, ◌∙◌, subst}
use mathlib.Core.List.{[], ◌∷◌}
use mathlib.Core.Bool.{Bool, true, false}
use Prim.Native.Nat.{ℕ, ◌+◌, ◌*◌, ◌^◌, ◌≤◌, ◌<◌}
use native.Mathlib.Omega.{arith, by_contra}
use native.Mathlib.Nat.{mul-le-mul}
use lib.IntN.{ℤ, pos, nat_abs, ◌+ℤ◌, ◌-ℤ◌, ◌*ℤ◌}
use lib.Signed.{lt_z}
use mir.Syntax.{w64}
use mir.Val.{SFits, to_z}
use Rattle.integers.specs.Root.{root}
use Rattle.integers.specs.Signs.{negative, sgn}
use Rattle.std.proofs.lemmas.Int.{ints, to_z_pos}
use Rattle.arith.proofs.Cells.{Cell}
use Rattle.arith.proofs.Signs.{back, lt_zero, minus}
use Rattle.integers.proofs.Auto.{ring!, polys}
use Rattle.integers.proofs.Root.{root_spec}
use Rattle.direction.specs.Direction.{direction, latitude}

flat_sum : (x y : ℤ) → x *ℤ x +ℤ y *ℤ y +ℤ pos 0 ≡ x *ℤ x +ℤ y *ℤ y
flat_sum x y = ring! (x ∷ y ∷ []) (search polys depth 60 fits 100000) tt

root_less : (r n w : ℕ) → r * r ≤ n → n < w * w → r < w
root_less r n w l h = let g = by_contra (r + 1) w (λ (g : w < r + 1). omega (arith, mul-le-mul (le_of g) (le_of g))) in omega arith
  where
    le_of : w < r + 1 → w ≤ r
    le_of g = omega arith

root_small : (n r : ℕ) → n < 2 ^ 92 → r ≡ root n → r < 2 ^ 46
root_small n r h e = subst (λ (m : ℕ). m < 2 ^ 46) (sym e) (root_less (root n) n (2 ^ 46) (root_spec n).low h)

-- f, the length of (x, y) worked as that of (x, y, 0), and u, the height, as the code has them
module _ (x y z : ℤ) (fx : SFits w64 x) (fy : SFits w64 y) (fz : SFits w64 z) (h : nat_abs (x *ℤ x +ℤ y *ℤ y) < 2 ^ 92) (hz : nat_abs z < 2 ^ 47)
    (f : ℕ) (pf : f ≡ root (nat_abs (Cell x *ℤ Cell x +ℤ Cell y *ℤ Cell y +ℤ pos 0))) where
  flat_is : f ≡ root (nat_abs (x *ℤ x +ℤ y *ℤ y))
  flat_is = rw (back x fx, back y fy, flat_sum x y) at pf

  flat_small : f < 2 ^ 46
  flat_small = root_small (nat_abs (x *ℤ x +ℤ y *ℤ y)) f h flat_is

  pub flat_fits : SFits w64 (pos f)
  flat_fits = record { sfits = omega (arith, flat_small) }

  module _ (u : ℕ) (pu : u ≡ nat_abs (Cell z)) where
    up_is : u ≡ nat_abs z
    up_is = rw (back z fz) at pu

    flat_cast : to_z w64 f ≡ pos f
    flat_cast = to_z_pos w64 f (omega (arith, flat_small))

    up_cast : to_z w64 u ≡ pos u
    up_cast = to_z_pos w64 u (omega (arith, up_is))

    pub directions_ask : (nat_abs (to_z w64 f) < 2 ^ 47) × (nat_abs (to_z w64 u) < 2 ^ 47)
    directions_ask = rw (flat_cast, up_cast) (omega (arith, flat_small), omega (arith, up_is))

    -- their direction k, with the sign of z
    module _ (k : ℤ) (fk : SFits w64 k) (pk : k ≡ pos (direction (to_z w64 f) (to_z w64 u))) where
      signed : (s : Bool) → lt_z (Cell z) (pos 0) ≡ s → sgn s (direction (pos f) (pos u)) ≡ latitude x y z
      unfolding latitude
      signed s e =
          let n : negative z ≡ s = sym (lt_zero z) ∙ rw (back z fz) at e in rw (n, flat_is, up_is)

      told : k ≡ pos (direction (pos f) (pos u))
      told = rw (flat_cast, up_cast) at pk

      pub latitude_above : lt_z (Cell z) (pos 0) ≡ false → Cell k ≡ latitude x y z
      unfolding sgn
      latitude_above e = back k fk ∙ told ∙ signed false e

      pub latitude_below : lt_z (Cell z) (pos 0) ≡ true → Cell (pos 0 -ℤ Cell k) ≡ latitude x y z
      latitude_below e = minus_cell ∙ ap (λ (n : ℤ). pos 0 -ℤ n) told ∙ minus (direction (pos f) (pos u)) ∙ signed true e
        where
          minus_cell : Cell (pos 0 -ℤ Cell k) ≡ pos 0 -ℤ k
          minus_cell = let m = fk.sfits in omega (arith, ints, told)
