-- `rectangular::length` meets its contract. Assumes nothing.
use mathlib.Core.Path.{sym, ap, ◌∙◌, subst}
use Prim.Native.Nat.{ℕ, ◌<◌, ◌^◌}
use lib.IntN.{ℤ, nat_abs}
use Rattle.integers.specs.Root.{root}
use Rattle.rectangular.specs.Vectors.{length}
use Rattle.rectangular.proofs.Places.{squared_cells, squared_in, length_in}
use Rattle.rectangular.proofs.length.Goals as goal

pub length-requires : goal.length-requires
length-requires c = subst (λ (z : ℤ). nat_abs z < 2 ^ 92) (sym (squared_cells c.args.v c.requires)) (squared_in c.args.v c.requires)

pub returns : goal.returns
unfolding length
returns c =
    let e = c.length.ensures ∙ ap (λ (z : ℤ). root (nat_abs z)) (squared_cells c.args.v c.requires) in
    (e, subst (λ (n : ℕ). n < 2 ^ 46) (sym e) (length_in c.args.v c.requires))
