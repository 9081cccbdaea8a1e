-- `roots::length` meets its contract. Assumes nothing.
use mathlib.Core.Path.{◌≡◌, ◌∙◌, sym, ap}
use Prim.Native.Nat.{◌+◌}
use native.Mathlib.Omega.{arith}
use lib.IntN.{nat_abs, ◌+ℤ◌, ◌*ℤ◌}
use Rattle.integers.specs.Root.{root}
use Rattle.arith.proofs.Signs.{back}
use Rattle.roots.proofs.TwoWords.{squares_value}
use Rattle.roots.proofs.length.Goals as goal

pub floor_root-requires : goal.floor_root-requires
floor_root-requires c =
    let a = c.args in
    let e : c.square.result + c.square-2.result + c.square-3.result ≡ nat_abs (a.x *ℤ a.x +ℤ a.y *ℤ a.y +ℤ a.z *ℤ a.z) =
    rw (c.square.ensures, c.square-2.ensures, c.square-3.ensures, back _ c.ranges.x, back _ c.ranges.y, back _ c.ranges.z) (sym (squares_value a.x a.y a.z)) in
    omega (arith, c.requires)

pub returns : goal.returns
returns c =
    let a = c.args in
    let e : c.square.result + c.square-2.result + c.square-3.result ≡ nat_abs (a.x *ℤ a.x +ℤ a.y *ℤ a.y +ℤ a.z *ℤ a.z) =
    rw (c.square.ensures, c.square-2.ensures, c.square-3.ensures, back _ c.ranges.x, back _ c.ranges.y, back _ c.ranges.z) (sym (squares_value a.x a.y a.z)) in
    c.floor_root.ensures ∙ ap root e
