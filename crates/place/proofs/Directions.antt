-- The ranges of directions and latitudes, and their calls on the components of a vector. Assumes nothing.
use mathlib.Core.Path.{◌≡◌, sym, ap₂, ◌∙◌, subst}
use mathlib.Core.Bool.{Bool, true, false, cond}
use Prim.Native.Nat.{ℕ, zero, suc, ◌+◌, ◌*◌, ◌^◌, ◌≤◌, ◌<◌}
use native.Mathlib.Omega.{arith}
use native.Mathlib.Nat.{mul-le-mul}
use lib.Dec.{eqb}
use lib.IntN.{ℤ, pos, neg_ℤ, nat_abs, ◌+ℤ◌, ◌*ℤ◌}
use mir.Syntax.{w64}
use mir.Val.{to_z}
use Rattle.std.proofs.lemmas.Int.{to_z_pos}
use Rattle.integers.specs.Root.{root}
use Rattle.integers.specs.Signs.{negative}
use Rattle.integers.proofs.Order.{nat_abs-+, nat_abs-*, nat_abs_sgn}
use Rattle.rectangular.specs.declared.Vector.{Vector}
use Rattle.rectangular.specs.Machine.Components.{Components}
use Rattle.arith.proofs.Cells.{Cell, cell}
use Rattle.direction.specs.Direction.{quarter_steps, turn_steps, greatest, in_quarter, first_quarter, within_turns, direction, latitude}
use Rattle.place.specs.declared.Equatorial.{Equatorial}
use Rattle.place.specs.Apparent.{equatorial}
use Rattle.place.specs.Machine.Reach.{equator_reach}

-- ---- the range of a direction and of a latitude

greatest_le : (p : ℕ → Bool) (n : ℕ) → greatest p n ≤ n
unfolding greatest
greatest_le p zero = omega arith
greatest_le p (suc n) = either (p n) (greatest_le p n)
  where
    either : (b : Bool) → greatest p n ≤ n → cond b n (greatest p n) ≤ suc n
    either true h = omega arith
    either false h = omega arith

in_quarter_le : (x y : ℤ) → in_quarter x y ≤ quarter_steps
unfolding in_quarter
in_quarter_le x y = greatest_le _ quarter_steps

within_turns_le : (n : ℕ) (x y : ℤ) → within_turns n x y ≤ (n + 1) * quarter_steps
unfolding within_turns
within_turns_le zero x y = let h = in_quarter_le x y in omega arith
within_turns_le (suc n) x y = either (first_quarter x y) (in_quarter_le x y) (within_turns_le n y (neg_ℤ x))
  where
    either : (b : Bool) → in_quarter x y ≤ quarter_steps → within_turns n y (neg_ℤ x) ≤ (n + 1) * quarter_steps
        → cond b (in_quarter x y) (quarter_steps + within_turns n y (neg_ℤ x)) ≤ (suc n + 1) * quarter_steps
    either true h k = omega arith
    either false h k = omega arith

pub direction_le : (x y : ℤ) → direction x y ≤ turn_steps
unfolding direction
direction_le x y = either (eqb (nat_abs x + nat_abs y) 0) (within_turns_le 3 x y)
  where
    either : (b : Bool) → within_turns 3 x y ≤ 4 * quarter_steps → cond b 0 (within_turns 3 x y) ≤ turn_steps
    either true h = omega arith
    either false h = omega arith

pub latitude_le : (x y z : ℤ) → nat_abs (latitude x y z) ≤ turn_steps
unfolding latitude
latitude_le x y z =
    rw (nat_abs_sgn (negative z) (direction (pos (root (nat_abs (x *ℤ x +ℤ y *ℤ y)))) (pos (nat_abs z))))
    (direction_le (pos (root (nat_abs (x *ℤ x +ℤ y *ℤ y)))) (pos (nat_abs z)))

-- ---- what the calls of direction and latitude ask

pub directions_ask : (k : ℕ) (x y : ℤ) → k < 2 ^ 47 → nat_abs x ≤ k → nat_abs y ≤ k → (nat_abs (Cell x) < 2 ^ 47) × (nat_abs (Cell y) < 2 ^ 47)
directions_ask k x y l h g = (rw (cell x (omega arith)) (omega arith), rw (cell y (omega arith)) (omega arith))

flat_size : (x y : ℤ) → nat_abs x ≤ equator_reach → nat_abs y ≤ equator_reach → nat_abs (x *ℤ x +ℤ y *ℤ y) < 2 ^ 92
flat_size x y h g =
    let s = nat_abs-+ (x *ℤ x) (y *ℤ y) in
    let a = nat_abs-* x x in
    let b = nat_abs-* y y in
    let p = mul-le-mul h h in
    let q = mul-le-mul g g in
    omega arith

pub latitudes_ask : (x y z : ℤ) → nat_abs x ≤ equator_reach → nat_abs y ≤ equator_reach → nat_abs z ≤ equator_reach
    → (nat_abs (Cell x *ℤ Cell x +ℤ Cell y *ℤ Cell y) < 2 ^ 92) × (nat_abs (Cell z) < 2 ^ 47)
latitudes_ask x y z h g k = (rw (cell x (omega arith), cell y (omega arith)) (flat_size x y h g), rw (cell z (omega arith)) (omega arith))

-- the answers, from the bits of the components
module _ (v : Vector) (h : Components equator_reach v) where
  x_cell : Cell v.x ≡ v.x
  x_cell = let a = h.x_in in cell v.x (omega arith)

  y_cell : Cell v.y ≡ v.y
  y_cell = let a = h.y_in in cell v.y (omega arith)

  z_cell : Cell v.z ≡ v.z
  z_cell = let a = h.z_in in cell v.z (omega arith)

  pub direction_told : (k : ℤ) → k ≡ pos (direction (Cell v.x) (Cell v.y)) → Cell k ≡ pos (direction v.x v.y)
  direction_told k e =
      let p : k ≡ pos (direction v.x v.y) = e ∙ ap₂ (λ (s t : ℤ). pos (direction s t)) x_cell y_cell in
      let l = direction_le v.x v.y in
      cell k (subst (λ (s : ℤ). nat_abs s < 2 ^ 63) (sym p) (omega arith)) ∙ p

  pub latitude_told : (k : ℤ) → k ≡ latitude (Cell v.x) (Cell v.y) (Cell v.z) → Cell k ≡ latitude v.x v.y v.z
  latitude_told k e =
      let p : k ≡ latitude v.x v.y v.z = e ∙ rw (x_cell, y_cell, z_cell) in
      let l = latitude_le v.x v.y v.z in
      cell k (subst (λ (s : ℤ). nat_abs s < 2 ^ 63) (sym p) (omega arith)) ∙ p

  pub equatorial_is : (d : ℕ) (a b : ℤ) → d < 2 ^ 46 → a ≡ pos (direction (Cell v.x) (Cell v.y))
      → b ≡ latitude (Cell v.x) (Cell v.y) (Cell v.z)
      → ◌≡◌ {A = Equatorial} (record { right_ascension = Cell a; declination = Cell b; distance = to_z w64 d }) (equatorial v d)
  unfolding equatorial
  equatorial_is d a b l e f = rw (direction_told a e, latitude_told b f, to_z_pos w64 d (omega arith))
