-- `arith::muldiv::scale` meets its contract. Assumes nothing.
use mathlib.Core.Path.{◌≡◌, ◌∙◌, sym, ap₂, subst}
use Prim.Native.Nat.{ℕ, ◌*◌, ◌<◌, ◌≤◌, ◌^◌}
use native.Mathlib.Omega.{arith}
use native.Mathlib.Nat.{mul-le-mul_left}
use lib.Dec.{lit<}
use lib.IntN.{nat_abs}
use Rattle.integers.proofs.Division.{rounded_mul, near_most}
use Rattle.arith.proofs.Signs.{back, ok}
use Rattle.units.specs.Units.{U}
use Rattle.arith.proofs.Long.{Divided, divided}
use Rattle.arith.proofs.muldiv.scale.Goals as goal

pub of_parts-requires : goal.of_parts-requires
of_parts-requires c =
    let product : Divided (c.unsigned_abs.result * c.unsigned_abs-2.result) U c.product_by_unit-z.result.q c.product_by_unit-z.result.r =
    divided _ _ _ _ (lit< tt) c.product_by_unit-z.ensures in
    let at_a : c.unsigned_abs.result ≡ nat_abs c.args.a = rw (back c.args.a c.ranges.a) at c.unsigned_abs.ensures.value in
    let at_c : c.unsigned_abs-2.result ≡ nat_abs c.args.c = rw (back c.args.c c.ranges.c) at c.unsigned_abs-2.ensures.value in
    let most : c.unsigned_abs.result * c.unsigned_abs-2.result ≤ nat_abs c.args.a * U = rw (at_a, at_c) (mul-le-mul_left (nat_abs c.args.a) c.requires.1) in
    below c.nearest.ensures (near_most _ (nat_abs c.args.a) _ U (lit< tt)
    (subst (λ (n : ℕ). n ≤ nat_abs c.args.a * U) (sym (product).whole) (most))) c.requires.0
  where
    below : {z n k : ℕ} → z ≡ n → n ≤ k → k < 2 ^ 63 → z < 2 ^ 63
    below e l h = omega arith

pub returns : goal.returns
returns c =
    let at_a : c.unsigned_abs.result ≡ nat_abs c.args.a = rw (back c.args.a c.ranges.a) at c.unsigned_abs.ensures.value in
    let at_c : c.unsigned_abs-2.result ≡ nat_abs c.args.c = rw (back c.args.c c.ranges.c) at c.unsigned_abs-2.ensures.value in
    let product : Divided (c.unsigned_abs.result * c.unsigned_abs-2.result) U c.product_by_unit-z.result.q c.product_by_unit-z.result.r =
    divided _ _ _ _ (lit< tt) c.product_by_unit-z.ensures in
    back c.of_parts.result (ok c.of_parts.type_inv) ∙ c.of_parts.ensures
    ∙ rounded_mul c.args.a c.args.c U c.product_by_unit-z.result.q c.product_by_unit-z.result.r c.nearest.result
    c.signs_differ-neg.result (lit< tt)
    (rw (back c.args.a c.ranges.a, back c.args.c c.ranges.c) at c.signs_differ-neg.ensures)
    ((product).whole ∙ ap₂ ◌*◌ (at_a) (at_c))
    c.nearest.ensures
