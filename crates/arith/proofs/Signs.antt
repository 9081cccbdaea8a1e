-- What the functions on signed numbers lean on, and what their callers need: `back`, `ok`, the signs. Assumes nothing.
use mathlib.Core.Path.{◌≡◌, refl}
use mathlib.Core.Bool.{true}
use Prim.Native.Nat.{ℕ, zero, suc, ◌^◌, ◌<◌}
use native.Mathlib.Omega.{arith}
use lib.Dec.{T, ltb, ltb→lt}
use lib.IntN.{ℤ, pos, negsuc, nat_abs, ◌-ℤ◌}
use lib.Signed.{◌≤ℤ◌, lt_z, mag, non_neg}
use mir.Syntax.{w64}
use mir.Val.{SFits, to_z, of_z}
use mir.ValLaws.{to_z-of_z}
use Rattle.integers.proofs.Tests.{is_false}
use Rattle.integers.proofs.Pairs.{sub_neg}
use Rattle.integers.specs.Signs.{negative, sgn}

pub lt_zero : (z : ℤ) → lt_z z (pos 0) ≡ negative z
unfolding negative
lt_zero (pos n) = is_false (ltb n 0) (λ t. let h : n < 0 = ltb→lt n 0 t in omega arith)
lt_zero (negsuc n) = refl

pub as_natural : (z : ℤ) → pos 0 ≤ℤ z → pos (nat_abs z) ≡ z
as_natural (pos n) h = refl
as_natural (negsuc n) h = absurd h.le

pub is_nonNeg : (z : ℤ) → pos 0 ≤ℤ z → T (non_neg z)
is_nonNeg (pos n) h = tt
is_nonNeg (negsuc n) h = h.le

-- 0 − m
pub minus : (m : ℕ) → pos 0 -ℤ pos m ≡ sgn true m
unfolding sgn
minus zero = refl
minus (suc m) = sub_neg 0 (suc m) m (omega arith)

-- A signed value that is passed on or returned stands in a goal as `to_z w64 (of_z w64 z)`. `back` takes it to z: of a parameter by `c.fits.a`, of a
-- call's result by `ok c.f.ok`
pub back : (z : ℤ) → SFits w64 z → to_z w64 (of_z w64 z) ≡ z
back z h = to_z-of_z w64 z h

pub ok : {z : ℤ} → mag z < 2 ^ 63 → SFits w64 z
ok h = record { sfits = h }
