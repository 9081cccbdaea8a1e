-- Folding a whole number and unfolding it, and the magnitude of what is unfolded. Assumes nothing.
use mathlib.Core.Path.{◌≡◌, refl, ap, ◌∙◌}
use Prim.Native.Nat.{ℕ, zero, suc, ◌+◌, ◌*◌, ◌/◌, ◌%◌, ◌^◌, ◌≤◌, ◌<◌}
use native.Mathlib.Decide.{ℕ_discrete}
use native.Mathlib.Omega.{arith}
use borrow.Author.Tests.{eq-eqb, ne_eqb}
use lib.IntN.{ℤ, pos, negsuc, nat_abs, ◌-ℤ◌}
use mir.Syntax.{w64}
use mir.Val.{to_z}
use mir.Facts.{to_z-of_z}
use Rattle.packed_numbers.specs.Numbers.{folded, unfolded}

pub even : (v : ℕ) → v % 2 ≡ 0 → unfolded v ≡ pos (v / 2)
unfolding unfolded
even v h = rw (eq-eqb (v % 2) 0 h)

pub odd : (v : ℕ) → (v % 2 ≡ 0 → ⊥) → unfolded v ≡ negsuc (v / 2)
unfolding unfolded
odd v h = rw (ne_eqb (v % 2) 0 h)

-- What holds of both forms holds of every unfolded number.
by_parity : (P : ℤ → ℕ → Type 0) → ((v : ℕ) → v % 2 ≡ 0 → P (pos (v / 2)) v) → ((v : ℕ) → (v % 2 ≡ 0 → ⊥) → P (negsuc (v / 2)) v)
    → (v : ℕ) → P (unfolded v) v
by_parity P e o v = go (ℕ_discrete (v % 2) 0)
  where
    go : Dec (v % 2 ≡ 0) → P (unfolded v) v
    go (yes h) = rw (even v h) (e v h)
    go (no h) = rw (odd v h) (o v h)

pub folded_unfolded : (v : ℕ) → folded (unfolded v) ≡ v
unfolding folded
folded_unfolded = by_parity (λ (z : ℤ) (v : ℕ). folded z ≡ v) (λ v h. omega arith) (λ v h. omega arith)

pub unfolded_folded : (z : ℤ) → unfolded (folded z) ≡ z
unfolding folded
unfolded_folded (pos n) = even (2 * n) (omega arith) ∙ ap pos (omega arith)
unfolded_folded (negsuc n) = odd (2 * n + 1) (λ (h : (2 * n + 1) % 2 ≡ 0). omega (arith, h)) ∙ ap negsuc (omega arith)

pub nat_abs_unfolded : (v : ℕ) → nat_abs (unfolded v) ≡ v / 2 + v % 2
nat_abs_unfolded = by_parity (λ (z : ℤ) (v : ℕ). nat_abs z ≡ v / 2 + v % 2) (λ v h. omega arith) (λ v h. omega arith)

pub folded_nat_abs : (z : ℤ) → folded z ≤ 2 * nat_abs z
unfolding folded
folded_nat_abs (pos n) = omega arith
folded_nat_abs (negsuc n) = omega arith

-- A small natural number as a signed one of 64 bits, and -1 less it.
pub small : (n : ℕ) → n < 2 ^ 63 → to_z w64 n ≡ pos n
small n h = to_z-of_z {w = w64} {z = pos n} (record { sfits = h })

pub one_less : (n : ℕ) → negsuc 0 -ℤ pos n ≡ negsuc n
one_less zero = refl
one_less (suc n) = ap negsuc (omega arith)
