-- The law that makes halving right: past one k, X*sin is above Y*cos at every later one; and a k with the property, past which none has it, is the greatest.
-- Assumes nothing.
use mathlib.Core.Path.{◌≡◌, refl, sym, ap, ap₂, ◌∙◌, subst}
use mathlib.Core.Bool.{Bool, true, false, cond}
use mathlib.Core.List.{[], ◌∷◌}
use Prim.Native.Nat.{ℕ, zero, suc, ◌+◌, ◌*◌, ◌^◌, ◌≤◌, ◌<◌}
use native.Mathlib.Omega.{arith}
use native.Mathlib.Decide.{dec_le}
use borrow.Author.Tests.{le-leb}
use lib.Dec.{T, leb, lit<, leb→le}
use lib.IntN.{ℤ, pos, nat_abs, ◌*ℤ◌}
use lib.Signed.{le_z, non_neg}
use mir.Syntax.{w64}
use mir.Val.{Fits}
use Rattle.integers.specs.Order.{◌≼◌}
use Rattle.integers.specs.Division.{floor, rounded, modulo}
use Rattle.integers.proofs.Pairs.{nonneg}
use Rattle.integers.proofs.Auto.{cert!, polys, gap, ◌⊞◌, ◌⊛◌, ◌·◌}
use Rattle.units.specs.Units.{U, quarter, turn}
use Rattle.cosine.specs.Cosine.{horner, y_of, even_part, odd_part, q_of, r_of, w_of, cosine_by, sine_by, working_cosine, working_sine, cosine, sine}
use Rattle.reference_cosine.proofs.Ranges.{cosine_size, sine_size}
use Rattle.arith.proofs.Cells.{Cell, cell}
use Rattle.arith.proofs.Signs.{as_natural, is_nonNeg}
use Rattle.direction.specs.Angles.{units_angle}
use Rattle.direction.specs.Direction.{quarter_steps, turn_steps, steps_angle, not_past, greatest, in_quarter}
use Rattle.integers.proofs.Rounding.{rounded_mono, rounded_zero}
use Rattle.integers.proofs.Order.{≼-nat}
use Rattle.direction.specs.Promises.{Opens}
use Rattle.direction.proofs.Quarter.{quarter_opens}

-- ---- the angles of the steps rise from 0 to a quarter
steps_rise : (j k : ℕ) → j ≤ k → steps_angle (pos j) ≼ steps_angle (pos k)
unfolding steps_angle units_angle
steps_rise j k l =
    rounded_mono (pos j *ℤ pos turn) (pos k *ℤ pos turn) turn_steps (lit< tt)
    (cert! (pos j ∷ pos k ∷ []) 0 (turn · gap (≼-nat j k l)) (search polys depth 60 fits 100000) tt)

steps_least : (k : ℕ) → pos 0 ≼ steps_angle (pos k)
unfolding steps_angle units_angle
steps_least k = subst (λ t. t ≼ rounded (pos k *ℤ pos turn) turn_steps) (rounded_zero turn_steps (lit< tt)) (steps_rise 0 k (omega arith))

steps_most : (k : ℕ) → k ≤ quarter_steps → steps_angle (pos k) ≼ pos quarter
unfolding steps_angle units_angle rounded floor
steps_most k l = steps_rise k quarter_steps l

-- ---- sine and cosine at the steps
steps_open : (j k : ℕ) → j ≤ k → k ≤ quarter_steps → Opens (steps_angle (pos j)) (steps_angle (pos k))
steps_open j k l h = quarter_opens (steps_angle (pos j)) (steps_angle (pos k)) (steps_least j) (steps_rise j k l) (steps_most k h)

steps_first : steps_angle (pos 0) ≡ pos 0
unfolding steps_angle units_angle rounded floor
steps_first = refl

steps_last : steps_angle (pos quarter_steps) ≡ pos quarter
unfolding steps_angle units_angle rounded floor
steps_last = refl

-- by cosine's definition, computed
sine_0 : sine (pos 0) ≡ pos 0
unfolding sine working_sine sine_by modulo q_of w_of r_of odd_part horner y_of rounded floor
sine_0 = refl

cosine_0 : cosine (pos 0) ≡ pos U
unfolding cosine working_cosine cosine_by modulo q_of w_of r_of even_part horner y_of rounded floor
cosine_0 = refl

cosine_quarter : cosine (pos quarter) ≡ pos 0
unfolding cosine working_cosine cosine_by modulo q_of w_of r_of odd_part horner y_of rounded floor
cosine_quarter = refl

steps_sine : (k : ℕ) → k ≤ quarter_steps → pos 0 ≼ sine (steps_angle (pos k))
steps_sine k h = subst (λ t. t ≼ sine (steps_angle (pos k))) (ap sine steps_first ∙ sine_0) (steps_open 0 k (omega arith) h).sine_rises

steps_cosine : (k : ℕ) → k ≤ quarter_steps → pos 0 ≼ cosine (steps_angle (pos k))
steps_cosine k h = subst (λ t. t ≼ cosine (steps_angle (pos k))) cosine_last (steps_open k quarter_steps h (omega arith)).cosine_falls
  where
    cosine_last : cosine (steps_angle (pos quarter_steps)) ≡ pos 0
    cosine_last = ap cosine steps_last ∙ cosine_quarter

-- ---- past one step, past all later ones
implied : (a b : Bool) → (T a → T b) → b ≡ false → a ≡ false
implied false b f e = refl
implied true false f e = absurd (f tt)
implied true true f e = e

pub past_on : (x y j k : ℕ) → j ≤ k → k ≤ quarter_steps → not_past (pos x) (pos y) j ≡ false → not_past (pos x) (pos y) k ≡ false
unfolding not_past
past_on x y j k l h e = implied _ _ back e
  where
    back : T (le_z (pos x *ℤ sine (steps_angle (pos k))) (pos y *ℤ cosine (steps_angle (pos k))))
        → T (le_z (pos x *ℤ sine (steps_angle (pos j))) (pos y *ℤ cosine (steps_angle (pos j))))
    back t =
        let o = steps_open j k l h in
        let s = sine (steps_angle (pos j)) in
        let s' = sine (steps_angle (pos k)) in
        let c = cosine (steps_angle (pos j)) in
        let c' = cosine (steps_angle (pos k)) in
        let g : pos x *ℤ s' ≼ pos y *ℤ c' = record { le = t } in
        let r : pos x *ℤ s ≼ pos y *ℤ c =
        cert! (pos x ∷ pos y ∷ s ∷ s' ∷ c ∷ c' ∷ []) 0 (gap g ⊞ nonneg x ⊛ gap o.sine_rises ⊞ nonneg y ⊛ gap o.cosine_falls)
        (search polys depth 60 fits 100000) tt in
        r.le

-- 0 is past nothing
start_not_past : (x y : ℕ) → not_past (pos x) (pos y) 0 ≡ true
unfolding not_past
start_not_past x y =
    ap (λ a. le_z (pos x *ℤ sine a) (pos y *ℤ cosine a)) steps_first
    ∙ ap₂ (λ s c. le_z (pos x *ℤ s) (pos y *ℤ c)) sine_0 cosine_0
    ∙ le-leb (x * 0) (y * U) (omega arith)

-- ---- the greatest
pub greatest_is : (p : ℕ → Bool) (n k : ℕ) → k < n → p k ≡ true → ((j : ℕ) → k < j → j < n → p j ≡ false) → greatest p n ≡ k
unfolding greatest
greatest_is p zero k h e f = absurd (omega arith)
greatest_is p (suc n) k h e f = go (dec_le n k) (λ l. greatest_is p n k l e (λ j a b. f j a (omega arith)))
  where
    go : Dec (n ≤ k) → (k < n → greatest p n ≡ k) → cond (p n) n (greatest p n) ≡ k
    go (yes l) r =
        let same : n ≡ k = omega arith in
        ap (λ b. cond b n (greatest p n)) (ap p same ∙ e) ∙ same
    go (no g) r =
        let l : k < n = omega arith in
        ap (λ b. cond b n (greatest p n)) (f n l (omega arith)) ∙ r l

-- ---- what the code has at a step: the angle, the sine and the cosine as natural numbers
pub step_below : (k a : ℕ) → k ≤ quarter_steps → pos a ≡ steps_angle (pos k) → a < 2 ^ 63
step_below k a h e =
    let l = leb→le a quarter (subst (λ t. t ≼ pos quarter) (sym e) (steps_most k h)).le in
    omega arith

-- a number of no sign, as the code casts it
pub record Natural (z w : ℤ) : Type 0 where
  pub is : pos (nat_abs (Cell z)) ≡ w
  pub size : nat_abs (Cell z) ≤ U
  pub casts : T (non_neg (Cell z)) × Fits w64 (nat_abs (Cell z))

natural : (z w : ℤ) → z ≡ w → pos 0 ≼ w → nat_abs w ≤ U → Natural z w
natural z w e l h =
    let c : Cell w ≡ w = cell w (omega arith) in
    rw e (record { is = rw c (as_natural w l); size = rw c h; casts = rw c (is_nonNeg w l, record { fits = omega arith }) })

pub step_sine : (k a : ℕ) (z : ℤ) → k ≤ quarter_steps → pos a ≡ steps_angle (pos k) → z ≡ sine (pos a) → Natural z (sine (pos a))
step_sine k a z h e f = natural z (sine (pos a)) f (rw e (steps_sine k h)) (sine_size (pos a))

pub step_cosine : (k a : ℕ) (z : ℤ) → k ≤ quarter_steps → pos a ≡ steps_angle (pos k) → z ≡ cosine (pos a) → Natural z (cosine (pos a))
step_cosine k a z h e f = natural z (cosine (pos a)) f (rw e (steps_cosine k h)) (cosine_size (pos a))

pub not_past_is : (x y k a s c : ℕ) → pos a ≡ steps_angle (pos k) → pos s ≡ sine (pos a) → pos c ≡ cosine (pos a)
    → leb (x * s) (y * c) ≡ not_past (pos x) (pos y) k
unfolding not_past
not_past_is x y k a s c e f g = ap₂ (λ u v. le_z (pos x *ℤ u) (pos y *ℤ v)) (f ∙ ap sine e) (g ∙ ap cosine e)

-- ---- one turn of the halving
-- `least` is not past, and `most` is past or the end
pub record Between (x y least most : ℕ) : Type 0 where
  pub order : least < most
  pub end : most ≤ quarter_steps
  pub low_not_past : not_past (pos x) (pos y) least ≡ true
  pub high_past : (j : ℕ) → most ≤ j → j < quarter_steps → not_past (pos x) (pos y) j ≡ false

pub between_all : (x y : ℕ) → Between x y 0 quarter_steps
between_all x y = record {
  order = lit< tt;
  end = omega arith;
  low_not_past = start_not_past x y;
  high_past = λ j a b. absurd (omega arith);
}

pub between_up : (x y least most middle : ℕ) → Between x y least most → least < middle → middle < most → not_past (pos x) (pos y) middle ≡ true
    → Between x y middle most
between_up x y least most middle b l h e = record { order = h; end = b.end; low_not_past = e; high_past = b.high_past }

pub between_down : (x y least most middle : ℕ) → Between x y least most → least < middle → middle < most → not_past (pos x) (pos y) middle ≡ false
    → Between x y least middle
between_down x y least most middle b l h e = record {
  order = l;
  end = lower_end b.end;
  low_not_past = b.low_not_past;
  high_past = λ j a g. past_on x y middle j a (omega arith) e;
}
  where
    lower_end : most ≤ quarter_steps → middle ≤ quarter_steps
    lower_end d = omega arith

pub between_done : (x y least most : ℕ) → Between x y least most → most ≤ least + 1 → least ≡ in_quarter (pos x) (pos y)
unfolding in_quarter
between_done x y least most b h =
    sym (greatest_is (not_past (pos x) (pos y)) quarter_steps least (below b.order b.end) b.low_not_past (λ j a g. b.high_past j (omega arith) g))
  where
    below : least < most → most ≤ quarter_steps → least < quarter_steps
    below p q = omega arith
