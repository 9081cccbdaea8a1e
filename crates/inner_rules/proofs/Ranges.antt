-- Numbers that are held in their range: what is answered, and what the calls ask. Assumes nothing.
use mathlib.Core.Path.{◌≡◌, refl, ap, ◌∙◌}
use Prim.Native.Nat.{ℕ, zero, suc, ◌^◌, ◌≤◌, ◌<◌}
use native.Mathlib.Omega.{arith}
use native.Mathlib.Nat.{mul-le-mul}
use lib.IntN.{ℤ, nat_abs, ◌+ℤ◌, ◌*ℤ◌}
use Rattle.integers.proofs.Order.{nat_abs-+, nat_abs-*}
use Rattle.rectangular.specs.declared.Vector.{Vector}
use Rattle.rectangular.specs.declared.Frame.TheVariants.{Theory, Catalogues}
use Rattle.rectangular.specs.Machine.Components.{Components}
use Rattle.rectangular.proofs.Places.{three}
use Rattle.direction.specs.Direction.{latitude}
use Rattle.arith.proofs.Cells.{Cell, cell}
use Rattle.inner_rules.specs.Inner.{held, reach, held_vector, frame_of}

flat_size : (x y : ℤ) → nat_abs x ≤ reach → nat_abs y ≤ reach → nat_abs (x *ℤ x +ℤ y *ℤ y) < 2 ^ 92
flat_size x y h g =
    let s = nat_abs-+ (x *ℤ x) (y *ℤ y) in
    let a = nat_abs-* x x in
    let b = nat_abs-* y y in
    let p = mul-le-mul h h in
    let q = mul-le-mul g g in
    omega arith

pub latitude_asks : (x y z : ℤ) → nat_abs x ≤ reach → nat_abs y ≤ reach → nat_abs z ≤ reach
    → (nat_abs (Cell x *ℤ Cell x +ℤ Cell y *ℤ Cell y) < 2 ^ 92) × (nat_abs (Cell z) < 2 ^ 47)
latitude_asks x y z h g k = (rw (cell x (omega arith), cell y (omega arith)) (flat_size x y h g), rw (cell z (omega arith)) (omega arith))

-- An answer for numbers is the answer for numbers equal to them.
pub latitude_told : (r x y z x' y' z' : ℤ) → x ≡ x' → y ≡ y' → z ≡ z' → r ≡ latitude x y z → r ≡ latitude x' y' z'
latitude_told r x y z x' y' z' e f g h = h ∙ ap (λ t. latitude t y z) e ∙ ap (λ t. latitude x' t z) f ∙ ap (latitude x' y') g

-- Three numbers that are held, and handed on as their bits, are a held vector; and it is that of numbers equal to those it was asked for.
pub vector_held : (last : ℕ) {a b c x y z : ℤ} → Cell a ≡ a → Cell b ≡ b → Cell c ≡ c → (a ≡ held last (Cell x)) × (nat_abs a ≤ last)
    → (b ≡ held last (Cell y)) × (nat_abs b ≤ last) → (c ≡ held last (Cell z)) × (nat_abs c ≤ last) → Cell x ≡ x → Cell y ≡ y → Cell z ≡ z
    → let v : Vector = record { x = Cell a; y = Cell b; z = Cell c } in (v ≡ held_vector last x y z) × Components last v
unfolding held_vector
vector_held last ca cb cc' ha hb hc cx cy cz = (
  three (ca ∙ ha.0 ∙ ap (held last) cx) (cb ∙ hb.0 ∙ ap (held last) cy) (cc' ∙ hc.0 ∙ ap (held last) cz),
  record { x_in = rw ca ha.1; y_in = rw cb hb.1; z_in = rw cc' hc.1 },
)

-- A frame, by the test of its number.
pub frame_theory : (n : ℕ) → n ≡ 0 → Theory ≡ frame_of n
unfolding frame_of
frame_theory n e = rw e

pub frame_catalogues : (n : ℕ) → (n ≡ 0 → ⊥) → Catalogues ≡ frame_of n
unfolding frame_of
frame_catalogues zero h = absurd (h refl)
frame_catalogues (suc n) h = refl
