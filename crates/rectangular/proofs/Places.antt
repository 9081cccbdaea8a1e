-- The figures that the functions work out are those of the definitions, and no component is larger than R. Assumes nothing.
use mathlib.Core.Path.{◌≡◌, sym, ap, ap₂, ◌∙◌, subst}
use Prim.Native.Nat.{ℕ, ◌+◌, ◌-◌, ◌*◌, ◌^◌, ◌≤◌, ◌<◌}
use native.Mathlib.Omega.{arith, by_contra}
use native.Mathlib.Nat.{mul-le-mul, le_trans}
use mathlib.Core.List.{[], ◌∷◌}
use mir.Syntax.{w64}
use mir.Val.{SFits}
use lib.IntN.{ℤ, pos, nat_abs, neg_ℤ, ◌+ℤ◌, ◌-ℤ◌, ◌*ℤ◌}
use Rattle.integers.specs.Division.{rounded, modulo}
use Rattle.integers.specs.Root.{root}
use Rattle.integers.proofs.Order.{nat_abs-*, nat_abs-+, nat_abs_sub, fits, square_nat_abs}
use Rattle.integers.proofs.Auto.{polys, ring! }
use Rattle.integers.proofs.Division.{modulo_lt}
use Rattle.integers.proofs.Root.{root_spec}
use Rattle.arith.proofs.Ranges.{scaled_within}
use Rattle.units.specs.Units.{U, turn, angle_per_part}
use Rattle.units.specs.declared.Coordinates.{Coordinates}
use Rattle.cosine.specs.Cosine.{cosine, sine}
use Rattle.reference_cosine.proofs.Ranges.{cosine_size, sine_size}
use Rattle.cosine.proofs.WholeTurns.{cosine_mod, sine_mod}
use Rattle.rectangular.specs.declared.Vector.{Vector}
use Rattle.rectangular.specs.Rectangular.{rectangular, place}
use Rattle.rectangular.specs.Vectors.{squared, length}
use Rattle.rectangular.specs.Machine.Components.{Components}
use Rattle.arith.proofs.Cells.{Cell, cell, held_le}

-- the product with a cosine or a sine, rounded over U, is no larger
pub scaled_size : (a c : ℤ) → nat_abs c ≤ U → nat_abs (rounded (a *ℤ c) U) ≤ nat_abs a
scaled_size a c h = scaled_within a c U (nat_abs a) (omega arith) (omega arith) h

pub rectangular_size : (r b l : ℤ) → Components (nat_abs r) (rectangular r b l)
unfolding rectangular
rectangular_size r b l =
    let f = scaled_size r (cosine b) (cosine_size b) in
    let x = scaled_size (rounded (r *ℤ cosine b) U) (cosine l) (cosine_size l) in
    let y = scaled_size (rounded (r *ℤ cosine b) U) (sine l) (sine_size l) in
    record { x_in = le_trans x f; y_in = le_trans y f; z_in = scaled_size r (sine b) (sine_size b) }

pub place_size : (c : Coordinates) → Components (nat_abs c.radius) (place c)
unfolding place
place_size c = rectangular_size c.radius (pos angle_per_part *ℤ c.latitude) (pos angle_per_part *ℤ c.longitude)

pub smaller : (k m : ℕ) (v : Vector) → k ≤ m → Components k v → Components m v
smaller k m v h c = record { x_in = le_trans c.x_in h; y_in = le_trans c.y_in h; z_in = le_trans c.z_in h }

-- ---- from_angles
module _ (r : ℤ) (b l : ℕ) (hr : nat_abs r < 2 ^ 63) (cb sb cl sl flat x y z : ℤ) (e₁ : cb ≡ cosine (pos b)) (e₂ : sb ≡ sine (pos b))
    (e₃ : cl ≡ cosine (pos l)) (e₄ : sl ≡ sine (pos l)) where
  cb_in : nat_abs cb ≤ U
  cb_in = subst (λ (t : ℤ). nat_abs t ≤ U) (sym e₁) (cosine_size (pos b))

  sb_in : nat_abs sb ≤ U
  sb_in = subst (λ (t : ℤ). nat_abs t ≤ U) (sym e₂) (sine_size (pos b))

  cl_in : nat_abs cl ≤ U
  cl_in = subst (λ (t : ℤ). nat_abs t ≤ U) (sym e₃) (cosine_size (pos l))

  sl_in : nat_abs sl ≤ U
  sl_in = subst (λ (t : ℤ). nat_abs t ≤ U) (sym e₄) (sine_size (pos l))

  module _ (f₁ : flat ≡ rounded (Cell r *ℤ Cell cb) U) where
    flat_is : flat ≡ rounded (r *ℤ cosine (pos b)) U
    flat_is = f₁ ∙ ap₂ (λ (s t : ℤ). rounded (s *ℤ t) U) (cell r hr) (cell cb (let h = cb_in in omega arith) ∙ e₁)

    pub flat_in : nat_abs flat < 2 ^ 63
    flat_in = let h = subst (λ (t : ℤ). nat_abs t ≤ nat_abs r) (sym flat_is) (scaled_size r (cosine (pos b)) (cosine_size (pos b))) in omega arith

    product : (w d : ℤ) → nat_abs d ≤ U → w ≡ rounded (Cell flat *ℤ Cell d) U → (Cell w ≡ rounded (rounded (r *ℤ cosine (pos b)) U *ℤ d) U)
    product w d h e =
        let p : w ≡ rounded (flat *ℤ d) U = e ∙ ap₂ (λ (s t : ℤ). rounded (s *ℤ t) U) (cell flat flat_in) (cell d (omega arith)) in
        let q : nat_abs w < 2 ^ 63 = let g = subst (λ (t : ℤ). nat_abs t ≤ nat_abs flat) (sym p) (scaled_size flat d h) in let f = flat_in in omega arith in
        cell w q ∙ p ∙ ap (λ (s : ℤ). rounded (s *ℤ d) U) flat_is

    pub from_angles_is : x ≡ rounded (Cell flat *ℤ Cell cl) U → y ≡ rounded (Cell flat *ℤ Cell sl) U → z ≡ rounded (Cell r *ℤ Cell sb) U
        → ◌≡◌ {A = Vector} (record { x = Cell x; y = Cell y; z = Cell z }) (rectangular r (pos b) (pos l))
    unfolding rectangular
    from_angles_is ex ey ez =
        let p : Cell x ≡ rounded (rounded (r *ℤ cosine (pos b)) U *ℤ cosine (pos l)) U = product x cl cl_in ex
        ∙ ap (λ (t : ℤ). rounded (rounded (r *ℤ cosine (pos b)) U *ℤ t) U) e₃ in
        let q : Cell y ≡ rounded (rounded (r *ℤ cosine (pos b)) U *ℤ sine (pos l)) U = product y sl sl_in ey
        ∙ ap (λ (t : ℤ). rounded (rounded (r *ℤ cosine (pos b)) U *ℤ t) U) e₄ in
        let w : z ≡ rounded (r *ℤ sine (pos b)) U = ez ∙ ap₂ (λ (s t : ℤ). rounded (s *ℤ t) U) (cell r hr) (cell sb (let h = sb_in in omega arith) ∙ e₂) in
        let g : nat_abs z < 2 ^ 63 =
        let h = subst (λ (t : ℤ). nat_abs t ≤ nat_abs r) (sym w) (scaled_size r (sine (pos b)) (sine_size (pos b))) in omega arith in
        rw (p, q, cell z g ∙ w)

-- ---- place: an angle reduced by the turn has the same cosine and sine
pub reduced : (r b l : ℤ) → rectangular r (pos (modulo b turn)) (pos (modulo l turn)) ≡ rectangular r b l
unfolding rectangular
reduced r b l = rw (cosine_mod b, sine_mod b, cosine_mod l, sine_mod l)

-- ---- lengths
pub squared_size : (k : ℕ) (v : Vector) → Components k v → nat_abs (squared v) ≤ 3 * (k * k)
unfolding squared
squared_size k v c =
    let x = nat_abs-* v.x v.x in
    let y = nat_abs-* v.y v.y in
    let z = nat_abs-* v.z v.z in
    let a = nat_abs-+ (v.x *ℤ v.x +ℤ v.y *ℤ v.y) (v.z *ℤ v.z) in
    let b = nat_abs-+ (v.x *ℤ v.x) (v.y *ℤ v.y) in
    omega (arith, mul-le-mul c.x_in c.x_in, mul-le-mul c.y_in c.y_in, mul-le-mul c.z_in c.z_in)

-- ---- what the calls ask
pub cosine_cell : (z x : ℤ) → z ≡ cosine x → nat_abs (Cell z) ≤ U
cosine_cell z x e = held_le z U (omega arith) (subst (λ (t : ℤ). nat_abs t ≤ U) (sym e) (cosine_size x))

pub sine_cell : (z x : ℤ) → z ≡ sine x → nat_abs (Cell z) ≤ U
sine_cell z x e = held_le z U (omega arith) (subst (λ (t : ℤ). nat_abs t ≤ U) (sym e) (sine_size x))

pub difference_fits : (x y : ℤ) → nat_abs x ≤ 2 ^ 61 → nat_abs y ≤ 2 ^ 61 → SFits w64 (Cell x -ℤ Cell y)
difference_fits x y h k = rw (cell x (omega arith), cell y (omega arith)) (fits (x -ℤ y) (let s = nat_abs_sub x y in omega arith))

pub difference_is : (x y z : ℤ) → nat_abs x ≤ 2 ^ 61 → nat_abs y ≤ 2 ^ 61 → z ≡ Cell x -ℤ Cell y → Cell z ≡ x -ℤ y
difference_is x y z h k e =
    let p : z ≡ x -ℤ y = e ∙ ap₂ ◌-ℤ◌ (cell x (omega arith)) (cell y (omega arith)) in
    let q : nat_abs z < 2 ^ 63 = let s = nat_abs_sub x y in subst (λ (t : ℤ). nat_abs t < 2 ^ 63) (sym p) (omega arith) in
    cell z q ∙ p

pub three : {x x' y y' z z' : ℤ} → x ≡ x' → y ≡ y' → z ≡ z' → ◌≡◌ {A = Vector} (record { x = x; y = y; z = z }) (record { x = x'; y = y'; z = z' })
three {x} {x'} {y} {y'} {z} {z'} p q r = rw (p, q, r)

pub minus_is : (y z : ℤ) → nat_abs y ≤ 2 ^ 61 → z ≡ pos 0 -ℤ Cell y → Cell z ≡ neg_ℤ y
minus_is y z h e = difference_is (pos 0) y z (omega arith) h e ∙ ring! (y ∷ []) (search polys depth 30) tt

-- the sum of squares, from the bits
pub squared_cells : (v : Vector) → Components (2 ^ 45) v → Cell v.x *ℤ Cell v.x +ℤ Cell v.y *ℤ Cell v.y +ℤ Cell v.z *ℤ Cell v.z ≡ squared v
unfolding squared
squared_cells v c =
    let a = c.x_in in
    let b = c.y_in in
    let d = c.z_in in
    rw (cell v.x (omega arith), cell v.y (omega arith), cell v.z (omega arith))

pub squared_in : (v : Vector) → Components (2 ^ 45) v → nat_abs (squared v) < 2 ^ 92
squared_in v c = let h = squared_size (2 ^ 45) v c in omega arith

pub length_in : (v : Vector) → Components (2 ^ 45) v → length v < 2 ^ 46
unfolding length
length_in v c =
    let s = (root_spec (nat_abs (squared v))).low in
    let h = squared_in v c in
    below (root (nat_abs (squared v)))
    (by_contra (root (nat_abs (squared v))) (2 ^ 46 - 1)
    (λ (g : 2 ^ 46 - 1 < root (nat_abs (squared v))). let m : 2 ^ 46 * 2 ^ 46 ≤ root (nat_abs (squared v)) * root (nat_abs (squared v)) = mul-le-mul g g in
    omega arith))
  where
    below : (n : ℕ) → n ≤ 2 ^ 46 - 1 → n < 2 ^ 46
    below n h = omega arith

-- a component is no longer than its vector
component : (x y z : ℕ) → x ≤ root (x * x + y * y + z * z)
component x y z =
    let s = (root_spec (x * x + y * y + z * z)).high in
    let r = root (x * x + y * y + z * z) in
    by_contra x r (λ (g : r < x). let m : (r + 1) * (r + 1) ≤ x * x = mul-le-mul (next r x g) (next r x g) in omega arith)
  where
    next : (r x : ℕ) → r < x → r + 1 ≤ x
    next r x g = omega arith

squared_is : (v : Vector) → nat_abs (squared v) ≡ nat_abs v.x * nat_abs v.x + nat_abs v.y * nat_abs v.y + nat_abs v.z * nat_abs v.z
unfolding squared
squared_is v = rw (square_nat_abs v.x, square_nat_abs v.y, square_nat_abs v.z)

pub within_length : (v : Vector) → Components (length v) v
unfolding length
within_length v =
    let a = nat_abs v.x in
    let b = nat_abs v.y in
    let d = nat_abs v.z in
    rw (squared_is v) (record {
      x_in = component a b d;
      y_in = subst (λ (n : ℕ). b ≤ root n) (y_first a b d) (component b a d);
      z_in = subst (λ (n : ℕ). d ≤ root n) (z_first a b d) (component d a b);
    })
  where
    y_first : (a b d : ℕ) → b * b + a * a + d * d ≡ a * a + b * b + d * d
    y_first a b d = omega arith

    z_first : (a b d : ℕ) → d * d + a * a + b * b ≡ a * a + b * b + d * d
    z_first a b d = omega arith

-- what a component of a unit vector asks, and is
pub unit_asks : (x : ℤ) (l : ℕ) → 0 < l → l < 2 ^ 46 → nat_abs x ≤ l → (0 < l) × (l ≤ 2 ^ 47) × (nat_abs (Cell x) ≤ 2 ^ 47)
    × (U * nat_abs (Cell x) < l * (2 ^ 63 - 1))
unit_asks x l h k m = (h, (omega arith), held_le x (2 ^ 47) (omega arith) (omega arith), rw (cell x (omega arith)) (omega arith))

pub unit_part : (x z : ℤ) (l : ℕ) → 0 < l → l < 2 ^ 46 → nat_abs x ≤ l → z ≡ rounded (pos U *ℤ Cell x) l → Cell z ≡ rounded (pos U *ℤ x) l
unit_part x z l h k m e =
    let p : z ≡ rounded (pos U *ℤ x) l = e ∙ ap (λ (t : ℤ). rounded (pos U *ℤ t) l) (cell x (omega arith)) in
    let q = scaled_within (pos U) x l U h (omega arith) m in
    cell z (subst (λ (t : ℤ). nat_abs t < 2 ^ 63) (sym p) (omega arith)) ∙ p

-- ---- place, from the bits of the coordinates
pub place_is : (c : Coordinates) (b l : ℕ) (v : Vector) → Cell c.latitude ≡ c.latitude → Cell c.longitude ≡ c.longitude → nat_abs c.radius < 2 ^ 63
    → b ≡ modulo (pos angle_per_part *ℤ Cell c.latitude) turn → l ≡ modulo (pos angle_per_part *ℤ Cell c.longitude) turn
    → v ≡ rectangular (Cell c.radius) (pos b) (pos l) → v ≡ place c
unfolding place
place_is c b l v e f h p q r =
    r ∙ ap₃ (λ (x : ℤ) (m n : ℕ). rectangular x (pos m) (pos n)) (cell c.radius h) (p ∙ ap (λ (x : ℤ). modulo (pos angle_per_part *ℤ x) turn) e)
    (q ∙ ap (λ (x : ℤ). modulo (pos angle_per_part *ℤ x) turn) f)
    ∙ reduced c.radius (pos angle_per_part *ℤ c.latitude) (pos angle_per_part *ℤ c.longitude)
  where
    ap₃ : (f : ℤ → ℕ → ℕ → Vector) {x x' : ℤ} {m m' n n' : ℕ} → x ≡ x' → m ≡ m' → n ≡ n' → f x m n ≡ f x' m' n'
    ap₃ f p q r = rw (p, q, r)

pub residue_small : (n : ℕ) (z : ℤ) → n ≡ modulo z turn → n < 2 ^ 63
residue_small n z e = let h = modulo_lt z turn (omega arith) in omega arith
