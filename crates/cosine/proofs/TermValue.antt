-- A term's value from its amplitude, v and the parity of its quarter. Assumes nothing.
use mathlib.Core.Path.{◌≡◌, ap, ◌∙◌}
use mathlib.Core.List.{[], ◌∷◌}
use Prim.Native.Nat.{ℕ, zero, suc, ◌%◌, ◌≤◌, ◌<◌}
use native.Mathlib.Omega.{arith}
use lib.IntN.{ℤ, pos, neg_ℤ, nat_abs, ◌+ℤ◌, ◌-ℤ◌, ◌*ℤ◌, +ℤ_idl}
use mir.Syntax.{w64}
use mir.Val.{SFits}
use Rattle.integers.specs.Division.{rounded, modulo}
use Rattle.integers.proofs.Auto.{ring!, polys}
use Rattle.integers.proofs.Order.{nat_abs_sub, fits}
use Rattle.units.specs.Units.{U, turn, quarter, angle_step, a_limit}
use Rattle.cosine.specs.Cosine.{q_of, w_of, even_part, odd_part, cosine_by}
use Rattle.cosine.specs.Terms.{term_angle, term_value}
use Rattle.cosine.specs.Machine.Parity.{even_value, odd_value, value_by_parity}
use Rattle.cosine.proofs.NaturalSteps.{cosine_from}
use Rattle.cosine.proofs.TermAngle.{value_is}

-- the amplitude turned about
pub minus_fits : (a : ℤ) → nat_abs a < a_limit → SFits w64 (pos 0 -ℤ a)
minus_fits a h = let m = nat_abs_sub (pos 0) a in fits (pos 0 -ℤ a) (omega arith)

pub minus_is : (a : ℤ) → pos 0 -ℤ a ≡ neg_ℤ a
minus_is a = +ℤ_idl (neg_ℤ a)

-- by the quarter k: the amplitude takes the sign, and the parity says which part
signed_value : (k : ℕ) (a s : ℤ) (v : ℕ) → k < 4 → (k < 2 → s ≡ a) → (2 ≤ k → s ≡ neg_ℤ a)
    → value_by_parity (k % 2) s v ≡ rounded (a *ℤ cosine_by neg_ℤ k (even_part (pos v -ℤ pos U)) (odd_part (pos v -ℤ pos U))) U
unfolding value_by_parity even_value odd_value cosine_by
signed_value zero a s v h f g = ap (λ z. rounded (z *ℤ even_part (pos v -ℤ pos U)) U) (f (omega arith))
signed_value (suc zero) a s v h f g = ap (λ z. rounded (z *ℤ neg_ℤ (odd_part (pos v -ℤ pos U))) U) (f (omega arith))
signed_value (suc (suc zero)) a s v h f g =
    ap (λ z. rounded (z *ℤ even_part (pos v -ℤ pos U)) U) (g (omega arith)) ∙ ap (λ z. rounded z U) (over a (even_part (pos v -ℤ pos U)))
  where
    over : (a e : ℤ) → neg_ℤ a *ℤ e ≡ a *ℤ neg_ℤ e
    over a e = ring! (a ∷ e ∷ []) (search polys depth 60 fits 100000) tt
signed_value (suc (suc (suc zero))) a s v h f g =
    ap (λ z. rounded (z *ℤ neg_ℤ (odd_part (pos v -ℤ pos U))) U) (g (omega arith)) ∙ ap (λ z. rounded z U) (both a (odd_part (pos v -ℤ pos U)))
  where
    both : (a o : ℤ) → neg_ℤ a *ℤ neg_ℤ o ≡ a *ℤ o
    both a o = ring! (a ∷ o ∷ []) (search polys depth 60 fits 100000) tt
signed_value (suc (suc (suc (suc k)))) a s v h f g = absurd (omega arith)

pub reduced_is : (a : ℤ) (b : ℕ) (c t s : ℤ) (x q v : ℕ) → modulo (pos x) turn ≡ term_angle b c t → pos q ≡ q_of quarter (pos x)
    → pos v ≡ pos U +ℤ w_of quarter angle_step (pos x)
    → (q % 4 < 2 → s ≡ a) → (2 ≤ q % 4 → s ≡ neg_ℤ a) → value_by_parity (q % 2) s v ≡ term_value a b c t
reduced_is a b c t s x q v m e f g h =
    ap (λ k. value_by_parity k s v) (parity q)
    ∙ signed_value (q % 4) a s v (omega arith) g h
    ∙ ap (λ z. rounded (a *ℤ z) U) (cosine_from x q v e f)
    ∙ value_is a b c t x m
  where
    parity : (q : ℕ) → q % 2 ≡ q % 4 % 2
    parity q = omega arith
