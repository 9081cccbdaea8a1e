-- The value of a term that is summed with one of amplitude 0. Assumes nothing.
use mathlib.Core.Path.{◌≡◌, ap, ◌∙◌}
use Prim.Native.Nat.{ℕ, zero, suc}
use native.Mathlib.Omega.{arith}
use lib.IntN.{ℤ, pos, neg_ℤ, ◌+ℤ◌, ◌-ℤ◌, +ℤ_idr}
use Rattle.units.specs.Units.{U}
use Rattle.cosine.specs.Cosine.{even_part, odd_part}
use Rattle.cosine.specs.Machine.Parity.{even_value, odd_value, value_by_parity}
use Rattle.pieces.proofs.Sizes.{no_share}

pub even_alone : (odd : ℕ) (a r : ℤ) (v : ℕ) → odd ≡ 0 → r ≡ even_value a v +ℤ even_value (pos 0) U → r ≡ value_by_parity odd a v
unfolding value_by_parity even_value
even_alone zero a r v h e =
    e ∙ ap (λ (z : ℤ). even_value a v +ℤ z) (no_share (even_part (pos U -ℤ pos U)) U (omega arith)) ∙ +ℤ_idr (even_value a v)
even_alone (suc n) a r v h e = absurd (omega arith)

pub odd_alone : (odd : ℕ) (a r : ℤ) (v : ℕ) → (odd ≡ 0 → ⊥) → r ≡ odd_value a v +ℤ odd_value (pos 0) U → r ≡ value_by_parity odd a v
unfolding value_by_parity odd_value
odd_alone zero a r v h e = absurd (h (omega arith))
odd_alone (suc n) a r v h e =
    e ∙ ap (λ (z : ℤ). odd_value a v +ℤ z) (no_share (neg_ℤ (odd_part (pos U -ℤ pos U))) U (omega arith)) ∙ +ℤ_idr (odd_value a v)
