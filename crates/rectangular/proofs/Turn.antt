-- The frame of the catalogues: a turned vector, as the code works it, and how large it is. Assumes nothing.
use mathlib.Core.Path.{◌≡◌, refl, sym, ◌∙◌, subst}
use mathlib.Core.List.{[], ◌∷◌}
use mathlib.Core.Bool.{true}
use Prim.Native.Nat.{ℕ, ◌+◌, ◌*◌, ◌/◌, ◌%◌, ◌^◌, ◌≤◌, ◌<◌}
use native.Mathlib.Omega.{arith}
use native.Mathlib.Nat.{mul-le-mul, mul-le-mul_left, le_refl, div-add-mod, mod-lt}
use lib.IntN.{ℤ, pos, nat_abs, ◌+ℤ◌, ◌*ℤ◌}
use Rattle.integers.specs.Division.{rounded}
use Rattle.integers.proofs.Order.{nat_abs-*, nat_abs-+}
use Rattle.integers.proofs.Auto.{polys, ring! }
use Rattle.arith.proofs.Ranges.{scaled_within, rounded_half}
use Rattle.arith.proofs.Cells.{Cell, cell}
use Rattle.std.proofs.lemmas.Int.{ints}
use Rattle.units.specs.declared.Coordinates.{Coordinates}
use Rattle.rectangular.specs.declared.Vector.{Vector}
use Rattle.rectangular.specs.declared.Frame.{Frame}
use Rattle.rectangular.specs.declared.Frame.TheVariants.{Theory, Catalogues}
use Rattle.rectangular.specs.Rectangular.{place}
use Rattle.rectangular.specs.Sight.{greatest_radius, radius_usable}
use Rattle.rectangular.specs.Frames.{about_x, about_y, about_z, frame_unit, share, minus, turned, in_frame}
use Rattle.rectangular.specs.Machine.Components.{Components, grown}
use Rattle.rectangular.proofs.Places.{smaller}
use Rattle.rectangular.proofs.Radii.{place_reach}

-- ---- One product: what the code has for it, and how large it is.

module _ (m v : ℤ) (hm : nat_abs m ≤ about_z) (hv : nat_abs v ≤ 2 ^ 43) where
  share_in : nat_abs (share m v) ≤ 2 ^ 43
  unfolding share
  share_in = subst (λ (n : ℤ). nat_abs (rounded n frame_unit) ≤ 2 ^ 43) (ring! (v ∷ m ∷ []) (search polys depth 30) tt)
      (scaled_within v m frame_unit (2 ^ 43) (omega arith) hv (omega arith))

  pub share_is : (z : ℤ) → z ≡ rounded (Cell m *ℤ Cell v) frame_unit → (Cell z ≡ share m v) × (nat_abs (Cell z) ≤ 2 ^ 43)
  unfolding share
  share_is z e =
      let p : z ≡ share m v = rw (cell m (omega arith), cell v (omega arith)) at e in
      let h = share_in in
      rw (p, cell (share m v) (omega arith)) (refl, h)

-- ---- A component of a turned vector: the sum of three, b and d being products, as the code adds them.

pub share_told : (m v s : ℤ) → nat_abs v ≤ 2 ^ 43 → s ≡ share m (Cell v) → s ≡ share m v
share_told m v s h e = rw (cell v (omega arith)) at e

pub sum_told : (a b d : ℤ) → nat_abs a ≤ 2 ^ 43 → nat_abs b ≤ 2 ^ 43 → nat_abs d ≤ 2 ^ 43
    → Cell (Cell (Cell a +ℤ Cell b) +ℤ Cell d) ≡ a +ℤ b +ℤ d
sum_told a b d ha hb hd = omega (arith, ints)

-- ---- How large a turned vector is.

-- two products of components no greater than k, by constants that are together at most a millionth
grows : (k a b x y : ℕ) → a + b ≤ 1000000 → 2 * frame_unit * x ≤ 2 * (a * k) + frame_unit → 2 * frame_unit * y ≤ 2 * (b * k) + frame_unit
    → x + y ≤ k / 1000000 + 1
grows k a b x y h p q =
    let m : (a + b) * k ≤ 1000000 * k = mul-le-mul h (le_refl k) in
    let r : k % 1000000 < 1000000 = mod-lt k (omega arith) in
    omega (arith, div-add-mod k 1000000)

share_size : (m v : ℤ) (k : ℕ) → nat_abs v ≤ k → 2 * frame_unit * nat_abs (share m v) ≤ 2 * (nat_abs m * k) + frame_unit
unfolding share
share_size m v k h =
    let p = rounded_half (m *ℤ v) frame_unit (omega arith) in
    let q : nat_abs m * nat_abs v ≤ nat_abs m * k = mul-le-mul_left (nat_abs m) h in
    omega (arith, nat_abs-* m v)

pub turned_size : (k : ℕ) (v : Vector) → Components k v → Components (grown k) (turned v)
unfolding turned
turned_size k v h = record {
  x_in = sum_size v.x h.x_in _ _ (pair (pos about_z) (minus about_y) v.y v.z h.y_in h.z_in (omega arith));
  y_in =
      subst (λ (t : ℤ). nat_abs t ≤ grown k) (second v.y (share (minus about_z) v.x) (share (pos about_x) v.z))
      (sum_size v.y h.y_in _ _ (pair (minus about_z) (pos about_x) v.x v.z h.x_in h.z_in (omega arith)));
  z_in =
      subst (λ (t : ℤ). nat_abs t ≤ grown k) (third v.z (share (pos about_y) v.x) (share (minus about_x) v.y))
      (sum_size v.z h.z_in _ _ (pair (pos about_y) (minus about_x) v.x v.y h.x_in h.y_in (omega arith)));
}
  where
    pair : (m n a b : ℤ) → nat_abs a ≤ k → nat_abs b ≤ k → nat_abs m + nat_abs n ≤ 1000000 → nat_abs (share m a) + nat_abs (share n b) ≤ k / 1000000 + 1
    pair m n a b ha hb h = grows k (nat_abs m) (nat_abs n) (nat_abs (share m a)) (nat_abs (share n b)) h (share_size m a k ha) (share_size n b k hb)

    sum_size : (c : ℤ) → nat_abs c ≤ k → (a b : ℤ) → nat_abs a + nat_abs b ≤ k / 1000000 + 1 → nat_abs (c +ℤ a +ℤ b) ≤ k + k / 1000000 + 1
    sum_size c h a b g = omega (arith, nat_abs-+ (c +ℤ a) b, nat_abs-+ c a)

    second : (c a b : ℤ) → c +ℤ a +ℤ b ≡ a +ℤ c +ℤ b
    second c a b = ring! (c ∷ a ∷ b ∷ []) (search polys depth 30) tt

    third : (c a b : ℤ) → c +ℤ a +ℤ b ≡ a +ℤ b +ℤ c
    third c a b = ring! (c ∷ a ∷ b ∷ []) (search polys depth 30) tt

-- ---- A place in a frame, of a usable R.

pub in_size : (f : Frame) (c : Coordinates) → radius_usable c.radius ≡ true → Components (grown greatest_radius) (in_frame f (place c))
unfolding in_frame
in_size Theory c h = smaller greatest_radius (grown greatest_radius) (place c) (omega arith) (place_reach c h)
in_size Catalogues c h = turned_size greatest_radius (place c) (place_reach c h)

module _ (c : Coordinates) (h : radius_usable c.radius ≡ true) (v : Vector) (pv : v ≡ place c) where
  pub turned_asks : Components (2 ^ 43) v
  turned_asks = subst (Components (2 ^ 43)) (sym pv) (smaller greatest_radius (2 ^ 43) (place c) (omega arith) (place_reach c h))

  told : (f : Frame) (w : Vector) → w ≡ in_frame f (place c) → (w ≡ in_frame f (place c)) × Components (2 ^ 44) w
  told f w e = (e, subst (Components (2 ^ 44)) (sym e) (smaller (grown greatest_radius) (2 ^ 44) (in_frame f (place c)) (omega arith) (in_size f c h)))

  pub theory_told : (f : Frame) → f ≡ Theory → (v ≡ in_frame f (place c)) × Components (2 ^ 44) v
  unfolding in_frame
  theory_told f e = told f v (rw (e, pv))

  pub catalogues_told : (f : Frame) → f ≡ Catalogues → (w : Vector) → w ≡ turned v → (w ≡ in_frame f (place c)) × Components (2 ^ 44) w
  unfolding in_frame
  catalogues_told f e w pw = told f w (pw ∙ rw (e, pv))
