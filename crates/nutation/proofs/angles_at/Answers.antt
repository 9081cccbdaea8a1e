-- `nutation::angles_at` meets its contract. Assumes nothing.
use mathlib.Core.Path.{◌≡◌, ◌∙◌, ap, ap₂}
use Prim.Native.Nat.{◌^◌, ◌≤◌}
use native.Mathlib.Omega.{arith}
use lib.IntN.{ℤ, nat_abs, ◌+ℤ◌}
use borrow.Author.Rules.{rules}
use Rattle.std.proofs.lemmas.Int.{ints}
use Rattle.arith.proofs.Cells.{Cell}
use Rattle.arith.proofs.Signs.{back, ok}
use Rattle.direction.specs.Angles.{units_angle}
use Rattle.nutation.specs.Nutation.{sum_turn, mean_obliquity, true_obliquity, longitude_nutation, obliquity_nutation, nutation_angle, obliquity_angle}
use Rattle.nutation.specs.Machine.Reduced.{sum_limit}
use Rattle.nutation.proofs.angles_at.Goals as goal

sum_cell : (x y : ℤ) → nat_abs x ≤ 2 ^ 34 → nat_abs y ≤ sum_limit → Cell (Cell x +ℤ Cell y) ≡ x +ℤ y
sum_cell x y h k = omega (arith, ints)

pub returns : goal.returns
unfolding nutation_angle obliquity_angle true_obliquity
returns c =
    let e : Cell c.nutation_at-n.result.longitude ≡ c.nutation_at-n.result.longitude = search rules in
    let t = back c.args.t c.ranges.t in
    let p : c.nutation_at-n.result.longitude ≡ longitude_nutation c.args.t = rw t at c.nutation_at-n.ensures.longitude_is in
    let q : c.nutation_at-n.result.obliquity ≡ obliquity_nutation c.args.t = rw t at c.nutation_at-n.ensures.obliquity_is in
    let r : c.mean_obliquity_at.result ≡ mean_obliquity c.args.t = rw t at c.mean_obliquity_at.ensures.0 in
    let s = sum_cell c.mean_obliquity_at.result c.nutation_at-n.result.obliquity c.mean_obliquity_at.ensures.1 c.nutation_at-n.ensures.obliquity_small in (
      back c.units_angle.result (ok c.units_angle.type_inv) ∙ rw e at c.units_angle.ensures ∙ ap (λ z. units_angle sum_turn z) p,
      back c.units_angle-2.result (ok c.units_angle-2.type_inv) ∙ c.units_angle-2.ensures ∙ ap (λ z. units_angle sum_turn z) (s ∙ ap₂ ◌+ℤ◌ r q),
    )
