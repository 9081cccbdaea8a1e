-- The sum of two terms' values fits 64 bits, and is worked from cosines that are U too great. Assumes nothing.
use mathlib.Core.Path.{◌≡◌, sym, ap, ◌∙◌}
use Prim.Native.Nat.{ℕ, ◌*◌, ◌≤◌, ◌<◌}
use native.Mathlib.Omega.{arith}
use lib.IntN.{ℤ, pos, nat_abs, ◌+ℤ◌, ◌-ℤ◌, ◌*ℤ◌}
use mir.Syntax.{w64}
use mir.Val.{SFits}
use Rattle.integers.specs.Division.{rounded}
use Rattle.integers.proofs.Pairs.{nat, negᵢ, ◌-ᵢ◌, less}
use Rattle.integers.proofs.Order.{nat_abs_le, nat_abs-+, fits}
use Rattle.arith.proofs.Signs.{back}
use Rattle.arith.proofs.Cells.{Cell}
use Rattle.arith.proofs.Ranges.{scaled_within}
use Rattle.units.specs.Units.{U, a_limit}
use Rattle.cosine.specs.Machine.Parities.{ValueOf}
use Rattle.cosine.proofs.NaturalSteps.{unbiased}

value_small : (a : ℤ) (c : ℕ) → nat_abs a < a_limit → c ≤ 2 * U → nat_abs (rounded (a *ℤ (pos c -ℤ pos U)) U) ≤ a_limit
value_small a c h k = scaled_within a (pos c -ℤ pos U) U a_limit (omega arith) (omega arith)
    (nat_abs_le (pos c -ℤ pos U) U (less (negᵢ (nat U)) (nat c -ᵢ nat U) (omega arith)) (less (nat c -ᵢ nat U) (nat U) (omega arith)))

pub two_fit : (a b : ℤ) (c d : ℕ) → nat_abs a < a_limit → nat_abs b < a_limit → c ≤ 2 * U → d ≤ 2 * U
    → SFits w64 (rounded (a *ℤ (pos c -ℤ pos U)) U +ℤ rounded (b *ℤ (pos d -ℤ pos U)) U)
two_fit a b c d ha hb hc hd =
    let m = nat_abs-+ (rounded (a *ℤ (pos c -ℤ pos U)) U) (rounded (b *ℤ (pos d -ℤ pos U)) U) in
    let i = value_small a c ha hc in
    let j = value_small b d hb hd in
    fits _ (omega arith)

-- one value, from bits, and from a cosine that c is U more than
pub value_back : (r a : ℤ) (c : ℕ) → SFits w64 r → SFits w64 a → r ≡ rounded (Cell a *ℤ (pos c -ℤ pos U)) U → Cell r ≡ rounded (a *ℤ (pos c -ℤ pos U)) U
value_back r a c h k e = back r h ∙ e ∙ ap (λ z. rounded (z *ℤ (pos c -ℤ pos U)) U) (back a k)

pub value_of : (part : ℤ → ℤ) (value : ℤ → ℕ → ℤ) → ValueOf part value → (a : ℤ) (c v : ℕ) → pos c ≡ pos U +ℤ part (pos v -ℤ pos U)
    → rounded (a *ℤ (pos c -ℤ pos U)) U ≡ value a v
value_of part value l a c v e = ap (λ z. rounded (a *ℤ z) U) (unbiased c _ e) ∙ sym (l a v)
