-- The quarter turns of a direction, by the signs of X and Y. Assumes nothing.
use mathlib.Core.Path.{◌≡◌, refl, sym, ◌∙◌}
use mathlib.Core.Bool.{Bool, true, false, cond}
use Prim.Native.Nat.{ℕ, zero, suc, ◌+◌, ◌*◌, ◌<◌}
use native.Mathlib.Omega.{arith}
use borrow.Author.Tests.{lt-ltb, le-leb, ne_eqb, ltb-true, ltb-false, leb-false}
use lib.IntN.{ℤ, pos, negsuc, neg_ℤ, nat_abs}
use lib.Signed.{lt_z, le_z}
use mir.Syntax.{w64}
use mir.Val.{SFits, to_z, of_z}
use mir.ValLaws.{to_z-of_z}
use Rattle.integers.specs.Signs.{sgn}
use Rattle.integers.proofs.Order.{nat_abs_neg}
use Rattle.direction.specs.Direction.{quarter_steps, in_quarter, first_quarter, within_turns, direction}

-- ---- one step of the definition
no_origin : (x y : ℤ) → 0 < nat_abs x + nat_abs y → direction x y ≡ within_turns 3 x y
unfolding direction
no_origin x y h = rw (ne_eqb (nat_abs x + nat_abs y) 0 (λ e. omega (arith, e))) refl

stop : (t x y : ℕ) → 0 < x → within_turns t (pos x) (pos y) ≡ in_quarter (pos x) (pos y)
unfolding within_turns first_quarter
stop zero x y h = refl
stop (suc t) x y h = rw (lt-ltb 0 x h, le-leb 0 y (omega arith)) refl

turn_neg : (t m : ℕ) (y : ℤ) → within_turns (suc t) (neg_ℤ (pos m)) y ≡ quarter_steps + within_turns t y (pos m)
unfolding within_turns first_quarter
turn_neg t zero y = refl
turn_neg t (suc m) y = refl

turn_below : (t n : ℕ) (x : ℤ) → within_turns (suc t) x (negsuc n) ≡ quarter_steps + within_turns t (negsuc n) (neg_ℤ x)
unfolding within_turns first_quarter
turn_below t n (pos m) = either (lib.Dec.ltb 0 m)
  where
    either : (b : Bool) → cond (cond b false false) (in_quarter (pos m) (negsuc n)) (quarter_steps + within_turns t (negsuc n) (neg_ℤ (pos m)))
        ≡ quarter_steps + within_turns t (negsuc n) (neg_ℤ (pos m))
    either true = refl
    either false = refl
turn_below t n (negsuc m) = refl

-- ---- the four quarters; 0 has either sign
pub no_turn : (x y : ℕ) → 0 < x → direction (sgn false x) (sgn false y) ≡ 0 * quarter_steps + in_quarter (pos x) (pos y)
unfolding sgn
no_turn x y h = no_origin (pos x) (pos y) (omega arith) ∙ stop 3 x y h ∙ omega arith

one_turn : (x y : ℕ) → 0 < y → direction (sgn true x) (sgn false y) ≡ 1 * quarter_steps + in_quarter (pos y) (pos x)
unfolding sgn
one_turn x y h = no_origin (neg_ℤ (pos x)) (pos y) (omega arith) ∙ turn_neg 2 x (pos y) ∙ omega (arith, stop 2 y x h)

pub two_turns : (x y : ℕ) → 0 < x → direction (sgn true x) (sgn true y) ≡ 2 * quarter_steps + in_quarter (pos x) (pos y)
unfolding sgn
two_turns x y h =
    no_origin (neg_ℤ (pos x)) (neg_ℤ (pos y)) (omega (arith, nat_abs_neg (pos x))) ∙ turn_neg 2 x (neg_ℤ (pos y))
    ∙ omega (arith, turn_neg 1 y (pos x), stop 1 x y h)

three_turns : (x y : ℕ) → 0 < y → direction (sgn false x) (sgn true y) ≡ 3 * quarter_steps + in_quarter (pos y) (pos x)
unfolding sgn
three_turns x zero h = absurd (omega arith)
three_turns x (suc n) h =
    no_origin (pos x) (negsuc n) (omega arith) ∙ turn_below 2 n (pos x)
    ∙ omega (arith, turn_neg 1 (suc n) (neg_ℤ (pos x)), turn_neg 0 x (pos (suc n)), stop 0 (suc n) x (omega arith))

-- ---- the same by the tests and the magnitudes that the code has
abbrev Quarters : (t : ℕ) (a b x y : ℤ) → Type 0
Quarters t a b x y = t * quarter_steps + in_quarter (pos (nat_abs a)) (pos (nat_abs b)) ≡ direction x y

pub by_none : (x y : ℤ) → lt_z (pos 0) x ≡ true → le_z (pos 0) y ≡ true → Quarters 0 x y x y
unfolding sgn
by_none (pos m) (pos n) e f = sym (no_turn m n (ltb-true 0 m e))
by_none (pos m) (negsuc n) e f = cc
by_none (negsuc m) y e f = cc

pub by_one : (x y : ℤ) → lt_z (pos 0) x ≡ false → lt_z (pos 0) y ≡ true → Quarters 1 y x x y
unfolding sgn
by_one (pos zero) (pos n) e f = sym (one_turn 0 n (ltb-true 0 n f))
by_one (pos (suc m)) y e f = absurd (omega (arith, ltb-false 0 (suc m) e))
by_one (negsuc m) (pos n) e f = sym (one_turn (suc m) n (ltb-true 0 n f))
by_one x (negsuc n) e f = cc

pub by_two : (x y : ℤ) → lt_z x (pos 0) ≡ true → lt_z (pos 0) y ≡ false → Quarters 2 x y x y
unfolding sgn
by_two (pos m) y e f = absurd (omega (arith, ltb-true m 0 e))
by_two (negsuc m) (pos zero) e f = sym (two_turns (suc m) 0 (omega arith))
by_two (negsuc m) (pos (suc n)) e f = absurd (omega (arith, ltb-false 0 (suc n) f))
by_two (negsuc m) (negsuc n) e f = sym (two_turns (suc m) (suc n) (omega arith))

pub by_three : (x y : ℤ) → lt_z x (pos 0) ≡ false → lt_z y (pos 0) ≡ true → Quarters 3 y x x y
unfolding sgn
by_three x (pos n) e f = absurd (omega (arith, ltb-true n 0 f))
by_three (pos m) (negsuc n) e f = sym (three_turns m (suc n) (omega arith))
by_three (negsuc m) (negsuc n) e f = cc

pub by_origin : (x y : ℤ) → x ≡ pos 0 → y ≡ pos 0 → 0 ≡ direction x y
unfolding direction
by_origin x y e f = rw (e, f)

-- what the tests of the branches leave
pub not_below : {P : Type 0} (y : ℤ) → le_z (pos 0) y ≡ false → lt_z y (pos 0) ≡ false → P
not_below (pos n) e f = absurd (omega (arith, leb-false 0 n e))
not_below (negsuc n) e f = cc

pub not_above : {P : Type 0} (y : ℤ) → le_z (pos 0) y ≡ false → lt_z (pos 0) y ≡ true → P
not_above (pos n) e f = absurd (omega (arith, leb-false 0 n e))
not_above (negsuc n) e f = cc

pub nought : (x : ℤ) → lt_z (pos 0) x ≡ false → lt_z x (pos 0) ≡ false → x ≡ pos 0
nought (pos zero) e f = refl
nought (pos (suc n)) e f = absurd (omega (arith, ltb-false 0 (suc n) e))
nought (negsuc n) e f = cc

-- ---- an answer, as the code has it, for magnitudes that were worked out
pub answer : (t a b : ℕ) (p q x y r : ℤ) → SFits w64 r → r ≡ pos (t * quarter_steps + in_quarter (pos a) (pos b)) → a ≡ nat_abs p → b ≡ nat_abs q
    → Quarters t p q x y → to_z w64 (of_z w64 r) ≡ pos (direction x y)
answer t a b p q x y r f e g h k = to_z-of_z w64 r f ∙ rw (g, h, k) at e
