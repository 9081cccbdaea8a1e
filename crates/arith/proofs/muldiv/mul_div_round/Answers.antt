-- `arith::muldiv::mul_div_round` meets its contract. Assumes nothing.
use mathlib.Core.Path.{◌≡◌, ◌∙◌, sym, ap₂, subst}
use Prim.Native.Nat.{ℕ, ◌+◌, ◌-◌, ◌*◌, ◌<◌, ◌≤◌, ◌^◌}
use lib.IntN.{nat_abs}
use Rattle.integers.proofs.Division.{rounded_mul, near_next}
use Rattle.arith.proofs.Signs.{back, ok}
use Rattle.arith.proofs.Long.{Divided, divided, more_room, next_word, half_word, quot_lt}
use Rattle.arith.proofs.muldiv.mul_div_round.Goals as goal

pub mul_div-z-requires : goal.mul_div-z-requires
mul_div-z-requires c =
    let at_b : c.unsigned_abs-2.result ≡ nat_abs c.args.b = rw (back c.args.b c.ranges.b) at c.unsigned_abs-2.ensures.value in
    let at_a : c.unsigned_abs.result ≡ nat_abs c.args.a = rw (back c.args.a c.ranges.a) at c.unsigned_abs.ensures.value in
    let small : c.unsigned_abs.result * c.unsigned_abs-2.result < c.args.d * (2 ^ 63 - 1) = rw (at_a, at_b) c.requires.3 in
    (c.requires.0, c.requires.1, subst (λ (n : ℕ). n ≤ 2 ^ 47) (sym (at_b)) c.requires.2, more_room _ _ (small))

pub nearest-requires : goal.nearest-requires
nearest-requires c =
    let product : Divided (c.unsigned_abs.result * c.unsigned_abs-2.result) c.args.d c.mul_div-z.result.q c.mul_div-z.result.r =
    divided _ _ _ _ c.requires.0 c.mul_div-z.ensures in
    let at_a : c.unsigned_abs.result ≡ nat_abs c.args.a = rw (back c.args.a c.ranges.a) at c.unsigned_abs.ensures.value in
    let at_b : c.unsigned_abs-2.result ≡ nat_abs c.args.b = rw (back c.args.b c.ranges.b) at c.unsigned_abs-2.ensures.value in
    let small : c.unsigned_abs.result * c.unsigned_abs-2.result < c.args.d * (2 ^ 63 - 1) = rw (at_a, at_b) c.requires.3 in
    let quot-small : c.mul_div-z.result.q < 2 ^ 63 - 1 = quot_lt _ _ _ _ (2 ^ 63 - 1) (product) (small) in
    ((product).rest, next_word (quot-small))

pub of_parts-requires : goal.of_parts-requires
of_parts-requires c =
    let product : Divided (c.unsigned_abs.result * c.unsigned_abs-2.result) c.args.d c.mul_div-z.result.q c.mul_div-z.result.r =
    divided _ _ _ _ c.requires.0 c.mul_div-z.ensures in
    let at_a : c.unsigned_abs.result ≡ nat_abs c.args.a = rw (back c.args.a c.ranges.a) at c.unsigned_abs.ensures.value in
    let at_b : c.unsigned_abs-2.result ≡ nat_abs c.args.b = rw (back c.args.b c.ranges.b) at c.unsigned_abs-2.ensures.value in
    let small : c.unsigned_abs.result * c.unsigned_abs-2.result < c.args.d * (2 ^ 63 - 1) = rw (at_a, at_b) c.requires.3 in
    let quot-small : c.mul_div-z.result.q < 2 ^ 63 - 1 = quot_lt _ _ _ _ (2 ^ 63 - 1) (product) (small) in
    half_word (quot-small)
    (subst (λ (n : ℕ). n ≤ c.mul_div-z.result.q + 1) (sym c.nearest.ensures)
    (near_next _ c.mul_div-z.result.q c.mul_div-z.result.r _ (product).rest))

pub returns : goal.returns
returns c =
    let at_a : c.unsigned_abs.result ≡ nat_abs c.args.a = rw (back c.args.a c.ranges.a) at c.unsigned_abs.ensures.value in
    let at_b : c.unsigned_abs-2.result ≡ nat_abs c.args.b = rw (back c.args.b c.ranges.b) at c.unsigned_abs-2.ensures.value in
    let product : Divided (c.unsigned_abs.result * c.unsigned_abs-2.result) c.args.d c.mul_div-z.result.q c.mul_div-z.result.r =
    divided _ _ _ _ c.requires.0 c.mul_div-z.ensures in
    back c.of_parts.result (ok c.of_parts.type_inv) ∙ c.of_parts.ensures
    ∙ rounded_mul c.args.a c.args.b c.args.d c.mul_div-z.result.q c.mul_div-z.result.r c.nearest.result
    c.signs_differ-neg.result c.requires.0
    (rw (back c.args.a c.ranges.a, back c.args.b c.ranges.b) at c.signs_differ-neg.ensures)
    ((product).whole ∙ ap₂ ◌*◌ (at_a) (at_b))
    c.nearest.ensures
