-- `unfold_number` meets its contract. Assumes nothing.
use mathlib.Core.Path.{◌≡◌, sym, ◌∙◌}
use Prim.Native.Nat.{ℕ, ◌/◌, ◌<◌, ◌^◌}
use native.Mathlib.Omega.{arith}
use lib.IntN.{pos, negsuc, ◌-ℤ◌}
use mir.Syntax.{w64}
use mir.Val.{SFits, to_z}
use mir.Facts.{to_z-of_z}
use Rattle.packed_numbers.proofs.Folding.{even, odd, small, one_less}
use Rattle.packed_numbers.proofs.unfold_number.Goals as goal

-- The half as a signed number, and -1 less it.
half : (v : ℕ) → v < 2 ^ 64 → to_z w64 (v / 2) ≡ pos (v / 2)
half v h = small (v / 2) (omega arith)

fits : (v : ℕ) → v < 2 ^ 64 → SFits w64 (negsuc (v / 2))
fits v h = record { sfits = omega arith }

less : (v : ℕ) → v < 2 ^ 64 → negsuc 0 -ℤ to_z w64 (v / 2) ≡ negsuc (v / 2)
less v h = rw (half v h) (one_less (v / 2))

pub overflow_sub-result : goal.overflow_sub-result
overflow_sub-result c = let v = c.args.v in rw (less v (omega arith)) (fits v (omega arith))

pub returns-then-v-eq0 : goal.returns-then-v-eq0
returns-then-v-eq0 c = let v = c.args.v in half v (omega arith) ∙ sym (even v c.if-v-eq0.true)

pub returns-else-v-eq0 : goal.returns-else-v-eq0
returns-else-v-eq0 c = let v = c.args.v in rw (less v (omega arith)) (to_z-of_z (fits v (omega arith)) ∙ sym (odd v c.if-v-eq0.false))
