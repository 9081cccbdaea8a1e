-- A sum of two signed numbers, handed on as their bits, that fits 64 bits. Assumes nothing.
use mathlib.Core.Path.{◌≡◌, sym, ap, ◌∙◌, subst}
use Prim.Native.Nat.{◌+◌, ◌^◌, ◌<◌}
use native.Mathlib.Omega.{arith}
use lib.IntN.{ℤ, nat_abs, ◌+ℤ◌}
use mir.Syntax.{w64}
use mir.Val.{SFits}
use Rattle.integers.proofs.Order.{nat_abs-+, fits}
use Rattle.arith.proofs.Cells.{Cell, cell}

module _ (x y : ℤ) (h : nat_abs x + nat_abs y < 2 ^ 63) where
  -- x a loop's variable, which stands as the number
  pub add_fits : SFits w64 (x +ℤ Cell y)
  add_fits = rw (cell y (omega arith)) (fits (x +ℤ y) (omega (arith, nat_abs-+ x y)))

  pub add_is : (r : ℤ) → r ≡ x +ℤ Cell y → Cell r ≡ x +ℤ y
  add_is r e =
      let g : r ≡ x +ℤ y = e ∙ ap (λ (z : ℤ). x +ℤ z) (cell y (omega arith)) in
      cell r (subst (λ (z : ℤ). nat_abs z < 2 ^ 63) (sym g) (omega (arith, nat_abs-+ x y))) ∙ g

  -- both as bits
  pub cells_fit : SFits w64 (Cell x +ℤ Cell y)
  cells_fit = rw (cell x (omega arith)) add_fits

  pub cells_are : (r : ℤ) → r ≡ Cell x +ℤ Cell y → Cell r ≡ x +ℤ y
  cells_are r e = add_is r (e ∙ ap (λ (z : ℤ). z +ℤ Cell y) (cell x (omega arith)))
