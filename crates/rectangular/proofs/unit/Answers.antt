-- `rectangular::unit` meets its contract. Assumes nothing.
use mathlib.Core.Path.{◌≡◌, sym, ap, ◌∙◌, subst}
use Prim.Native.Nat.{ℕ, ◌<◌, ◌^◌}
use lib.IntN.{pos, ◌*ℤ◌}
use Rattle.integers.specs.Division.{rounded}
use Rattle.units.specs.Units.{U}
use Rattle.rectangular.specs.declared.Vector.{Vector}
use Rattle.rectangular.specs.Vectors.{length, unit}
use Rattle.rectangular.specs.Machine.Components.{Components}
use Rattle.rectangular.proofs.Places.{length_in, within_length, unit_asks, unit_part, three}
use Rattle.rectangular.proofs.unit.Goals as goal

-- the length is small, and no component is longer
length_bounds : (v : Vector) (l : ℕ) → l ≡ length v → Components (2 ^ 45) v → (l < 2 ^ 46) × Components l v
length_bounds v l e h = (
  subst (λ (n : ℕ). n < 2 ^ 46) (sym e) (length_in v h),
  subst (λ (n : ℕ). Components n v) (sym e) (within_length v),
)

pub mul_div_round-x-requires : goal.mul_div_round-x-requires
mul_div_round-x-requires c =
    let w = length_bounds c.args.v c.args.l c.requires.0 c.requires.2 in
    unit_asks c.args.v.x c.args.l c.requires.1 w.0 w.1.x_in

pub mul_div_round-y-requires : goal.mul_div_round-y-requires
mul_div_round-y-requires c =
    let w = length_bounds c.args.v c.args.l c.requires.0 c.requires.2 in
    unit_asks c.args.v.y c.args.l c.requires.1 w.0 w.1.y_in

pub mul_div_round-z-requires : goal.mul_div_round-z-requires
mul_div_round-z-requires c =
    let w = length_bounds c.args.v c.args.l c.requires.0 c.requires.2 in
    unit_asks c.args.v.z c.args.l c.requires.1 w.0 w.1.z_in

pub returns : goal.returns
unfolding unit
returns c =
    let v = c.args.v in
    let l = c.args.l in
    let w = length_bounds v l c.requires.0 c.requires.2 in
    three
    (unit_part v.x c.mul_div_round-x.result l c.requires.1 w.0 w.1.x_in c.mul_div_round-x.ensures
    ∙ ap (λ (n : ℕ). rounded (pos U *ℤ v.x) n) c.requires.0)
    (unit_part v.y c.mul_div_round-y.result l c.requires.1 w.0 w.1.y_in c.mul_div_round-y.ensures
    ∙ ap (λ (n : ℕ). rounded (pos U *ℤ v.y) n) c.requires.0)
    (unit_part v.z c.mul_div_round-z.result l c.requires.1 w.0 w.1.z_in c.mul_div_round-z.ensures
    ∙ ap (λ (n : ℕ). rounded (pos U *ℤ v.z) n) c.requires.0)
