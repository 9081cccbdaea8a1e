-- The unit vector, rounded over the floored length, has a squared length within 4U of U². Assumes nothing.
use mathlib.Core.Path.{◌≡◌, refl, sym, subst}
use mathlib.Core.List.{[], ◌∷◌}
use Prim.Native.Nat.{ℕ, ◌+◌, ◌*◌, ◌≤◌, ◌<◌}
use native.Mathlib.Omega.{arith}
use lib.IntN.{ℤ, pos, negsuc, neg_ℤ, nat_abs, ◌+ℤ◌, ◌*ℤ◌}
use lib.Dec.{leb→le}
use Rattle.integers.specs.Order.{◌≼◌}
use Rattle.integers.specs.Division.{rounded}
use Rattle.integers.specs.Root.{root}
use Rattle.integers.proofs.Pairs.{nonneg}
use Rattle.integers.proofs.Auto.{polys, ring!, cert!, cert<!, gap, gap≡, ◌⊞◌, ◌⊛◌, ◌·◌, sqr}
use Rattle.integers.proofs.Order.{cert*!, ≼-nat}
use Rattle.integers.proofs.Root.{root_spec}
use Rattle.integers.proofs.Bounds.{bd_rounded}
use Rattle.units.specs.Units.{U}
use Rattle.rectangular.specs.declared.Vector.{Vector}
use Rattle.rectangular.specs.Vectors.{geocentric, squared, length, unit}
use Rattle.separation.proofs.Form.{dot, scl, sub, Bd³, root_bd, product_bd}
use Rattle.separation.proofs.Lengths.{Unit³}

-- Rounded U·component over l.
unfoldable pub unit_over : ℕ → Vector → Vector
unit_over l a = record { x = rounded (pos U *ℤ a.x) l; y = rounded (pos U *ℤ a.y) l; z = rounded (pos U *ℤ a.z) l }

-- ---- The length, by its two bounds.

square_nonneg : (a : Vector) → pos 0 ≼ dot a a
unfolding dot
square_nonneg a = sqr a.x ⊞ sqr a.y ⊞ sqr a.z

nat_abs_of : (z : ℤ) → pos 0 ≼ z → pos (nat_abs z) ≡ z
nat_abs_of (pos n) h = refl
nat_abs_of (negsuc n) h = absurd h.le

length_low² : (a : Vector) → pos (length a) *ℤ pos (length a) ≼ dot a a
unfolding length squared dot
length_low² a =
    subst (λ (t : ℤ). pos (root (nat_abs (dot a a)) * root (nat_abs (dot a a))) ≼ t) (nat_abs_of (dot a a) (square_nonneg a))
    (≼-nat _ _ (root_spec (nat_abs (dot a a))).low)

length_high² : (a : Vector) → dot a a ≼ pos (length a) *ℤ pos (length a) +ℤ pos 2 *ℤ pos (length a)
unfolding length squared dot
length_high² a =
    let r = root (nat_abs (dot a a)) in
    let h : nat_abs (dot a a) ≤ r * r + 2 * r = below r (nat_abs (dot a a)) (root_spec (nat_abs (dot a a))).high in
    subst (λ (t : ℤ). t ≼ pos (r * r + 2 * r)) (nat_abs_of (dot a a) (square_nonneg a)) (≼-nat _ _ h)
  where
    below : (r n : ℕ) → n < (r + 1) * (r + 1) → n ≤ r * r + 2 * r
    below r n h = omega arith

-- ---- The unit vector u of a.

-- 2(l·u − U·a) is at most l in each component.
pub unit_near : (l : ℕ) (a : Vector) → 0 < l → Bd³ (pos l) (scl (pos 2) (sub (scl (pos l) (unit_over l a)) (scl (pos U) a)))
unfolding scl geocentric unit_over
unit_near l a h =
    record { x = bd_rounded (pos U *ℤ a.x) l h; y = bd_rounded (pos U *ℤ a.y) l h; z = bd_rounded (pos U *ℤ a.z) l h }

-- l²|u|² = U²|a|² + 2U(r·a) + |r|² with r = l·u − U·a, four times.
expand : (l : ℤ) (u a : Vector) → let r = scl (pos 2) (sub (scl l u) (scl (pos U) a)) in
    pos 4 *ℤ (l *ℤ l *ℤ dot u u) ≡ pos 4 *ℤ (pos (U * U) *ℤ dot a a) +ℤ pos U *ℤ (pos 4 *ℤ dot r a) +ℤ dot r r
unfolding dot scl geocentric
expand l u a = ring! (l ∷ u.x ∷ u.y ∷ u.z ∷ a.x ∷ a.y ∷ a.z ∷ []) (search polys depth 60 fits 100000) tt

square_high : (η : ℤ) (r : Vector) → Bd³ η r → dot r r ≼ pos 3 *ℤ (η *ℤ η)
unfolding dot
square_high η r w =
    cert! (η ∷ r.x ∷ r.y ∷ r.z ∷ []) 0 (gap w.x.low ⊛ gap w.x.high ⊞ gap w.y.low ⊛ gap w.y.high ⊞ gap w.z.low ⊛ gap w.z.high)
    (search polys depth 60 fits 100000) tt

-- Over plain numbers: q = |u|², X = |a|², m = 4(2r·a), e = |2r|².
high_end : (l q X m e : ℤ) → pos U ≼ l → X ≼ l *ℤ l +ℤ pos 2 *ℤ l → m ≼ pos 7 *ℤ l *ℤ (l +ℤ pos 1) → e ≼ pos 3 *ℤ (l *ℤ l)
    → pos 4 *ℤ (l *ℤ l *ℤ q) ≡ pos 4 *ℤ (pos (U * U) *ℤ X) +ℤ pos U *ℤ m +ℤ e → q ≼ pos (U * U + 4 * U)
high_end l q X m e hl hX hm he eq =
    cert*! (l ∷ q ∷ X ∷ m ∷ e ∷ []) (pos 4 *ℤ (l *ℤ l)) (cert<! (l ∷ []) 0 (4 · (gap hl ⊛ gap hl) ⊞ 8000000000 · gap hl) (search polys depth 60 fits 100000) tt)
    (gap≡ eq ⊞ 4000000000000000000 · gap hX ⊞ 1000000000 · gap hm ⊞ gap he ⊞ 8999999997 · (gap hl ⊛ gap hl) ⊞ 9999999987000000000 · gap hl
    ⊞ nonneg 999999990000000000000000000) (search polys depth 60 fits 100000) tt

low_end : (l q X m e : ℤ) → pos U ≼ l → l *ℤ l ≼ X → neg_ℤ (pos 7 *ℤ l *ℤ (l +ℤ pos 1)) ≼ m → pos 0 ≼ e
    → pos 4 *ℤ (l *ℤ l *ℤ q) ≡ pos 4 *ℤ (pos (U * U) *ℤ X) +ℤ pos U *ℤ m +ℤ e → pos (U * U) ≼ q +ℤ pos (4 * U)
low_end l q X m e hl hX hm he eq =
    cert*! (l ∷ q ∷ X ∷ m ∷ e ∷ []) (pos 4 *ℤ (l *ℤ l)) (cert<! (l ∷ []) 0 (4 · (gap hl ⊛ gap hl) ⊞ 8000000000 · gap hl) (search polys depth 60 fits 100000) tt)
    (gap≡ (sym eq) ⊞ 4000000000000000000 · gap hX ⊞ 1000000000 · gap hm ⊞ he ⊞ 9000000000 · (gap hl ⊛ gap hl) ⊞ 17999999993000000000 · gap hl
    ⊞ nonneg 8999999993000000000000000000) (search polys depth 60 fits 100000) tt

unit_over_is : (l : ℕ) (a : Vector) → pos U ≼ pos l → pos l *ℤ pos l ≼ dot a a → dot a a ≼ pos l *ℤ pos l +ℤ pos 2 *ℤ pos l → Unit³ (unit_over l a)
unit_over_is l a hl lo hi =
    let u = unit_over l a in
    let r = scl (pos 2) (sub (scl (pos l) u) (scl (pos U) a)) in
    let l₀ : 0 < l = above l hl in
    let w : Bd³ (pos l) r = unit_near l a l₀ in
    let h : dot a a ≼ (pos l +ℤ pos 1) *ℤ (pos l +ℤ pos 1) = cert! (pos l ∷ dot a a ∷ []) 0 (gap hi) (search polys depth 60 fits 100000) tt in
    let k : pos 0 ≼ pos l +ℤ pos 1 = nonneg (l + 1) in
    record {
      least =
          low_end (pos l) (dot u u) (dot a a) (pos 4 *ℤ dot r a) (dot r r) hl lo (product_bd (pos l) (pos l +ℤ pos 1) r a w k h).low (square_nonneg r)
          (expand (pos l) u a);
      most =
          high_end (pos l) (dot u u) (dot a a) (pos 4 *ℤ dot r a) (dot r r) hl hi (product_bd (pos l) (pos l +ℤ pos 1) r a w k h).high
          (square_high (pos l) r w) (expand (pos l) u a);
    }
  where
    above : (l : ℕ) → pos U ≼ pos l → 0 < l
    above l h = let k : U ≤ l = leb→le U l h.le in omega arith

pub unit_is : (a : Vector) → pos U ≼ pos (length a) → Unit³ (unit a)
unfolding unit unit_over
unit_is a h = unit_over_is (length a) a h (length_low² a) (length_high² a)

-- No component is longer than the length.
pub within_length : (a : Vector) → Bd³ (pos (length a)) a
unfolding dot
within_length a =
    let h = length_high² a in
    let l₀ = nonneg (length a) in
    let ρ = pos (length a) ∷ a.x ∷ a.y ∷ a.z ∷ [] in
    record {
      x = root_bd a.x (pos (length a)) l₀ (cert! ρ 0 (gap h ⊞ sqr a.y ⊞ sqr a.z) (search polys depth 60 fits 100000) tt);
      y = root_bd a.y (pos (length a)) l₀ (cert! ρ 0 (gap h ⊞ sqr a.x ⊞ sqr a.z) (search polys depth 60 fits 100000) tt);
      z = root_bd a.z (pos (length a)) l₀ (cert! ρ 0 (gap h ⊞ sqr a.x ⊞ sqr a.y) (search polys depth 60 fits 100000) tt);
    }
