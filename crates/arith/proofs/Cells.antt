-- A signed number that is handed on stands as its bits read back, `Cell z`; in range that is z. Assumes nothing.
use mathlib.Core.Path.{◌≡◌, sym, subst}
use Prim.Native.Nat.{ℕ, ◌^◌, ◌≤◌, ◌<◌}
use native.Mathlib.Omega.{arith}
use lib.IntN.{ℤ, nat_abs}
use mir.Syntax.{w64}
use mir.Val.{to_z, of_z}
use Rattle.integers.proofs.Order.{fits}
use Rattle.arith.proofs.Signs.{back}

abbrev pub Cell : ℤ → ℤ
Cell z = to_z w64 (of_z w64 z)

pub cell : (z : ℤ) → nat_abs z < 2 ^ 63 → Cell z ≡ z
cell z h = back z (fits z h)

-- what holds of z holds of its bits
pub held : (P : ℤ → Type 0) (z : ℤ) → nat_abs z < 2 ^ 63 → P z → P (Cell z)
held P z h p = subst P (sym (cell z h)) p

pub held_le : (z : ℤ) (k : ℕ) → k < 2 ^ 63 → nat_abs z ≤ k → nat_abs (Cell z) ≤ k
held_le z k l h = held (λ (t : ℤ). nat_abs t ≤ k) z (omega arith) h

pub held_lt : (z : ℤ) → nat_abs z < 2 ^ 63 → nat_abs (Cell z) < 2 ^ 63
held_lt z h = held (λ (t : ℤ). nat_abs t < 2 ^ 63) z h h
