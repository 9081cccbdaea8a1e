-- How large a term's value and a block's sum can be. Assumes nothing.
use mathlib.Core.Path.{◌≡◌, ap, ◌∙◌}
use mathlib.Core.List.{List, [], ◌∷◌}
use Prim.Native.Nat.{ℕ, ◌≤◌, ◌<◌}
use native.Mathlib.Omega.{arith}
use lib.IntN.{ℤ, pos, nat_abs, ◌*ℤ◌, zero-*ℤ}
use Rattle.integers.specs.Division.{rounded}
use Rattle.integers.proofs.Rounding.{rounded_zero}
use Rattle.integers.proofs.Order.{nat_abs-+}
use Rattle.arith.proofs.Ranges.{scaled_within}
use Rattle.units.specs.Units.{U}
use Rattle.cosine.specs.Cosine.{cosine}
use Rattle.cosine.specs.Terms.{term_angle, term_cosine, term_value}
use Rattle.reference_cosine.proofs.Ranges.{cosine_size}
use Rattle.limits.specs.declared.Term.{Term}
use Rattle.limits.specs.Allowed.{total_of}
use Rattle.pieces.specs.Sums.{block_sum}

-- 0 in any share is 0
pub no_share : (z : ℤ) (d : ℕ) → 0 < d → rounded (pos 0 *ℤ z) d ≡ pos 0
no_share z d h = ap (λ (x : ℤ). rounded x d) (zero-*ℤ z) ∙ rounded_zero d h

pub value_size : (a : ℤ) (b : ℕ) (c t : ℤ) → nat_abs (term_value a b c t) ≤ nat_abs a
unfolding term_value term_cosine
value_size a b c t = scaled_within a (cosine (pos (term_angle b c t))) U (nat_abs a) (omega arith) (omega arith) (cosine_size (pos (term_angle b c t)))

pub block_size : (t : ℤ) (xs : List Term) → nat_abs (block_sum t xs) ≤ total_of xs
unfolding block_sum total_of
block_size t [] = omega arith
block_size t (x ∷ xs) =
    let v = value_size x.a x.b x.c t in
    let s = block_size t xs in
    omega (arith, nat_abs-+ (term_value x.a x.b x.c t) (block_sum t xs))
