-- The greatest magnitudes of 64 bits, and the least number, whose magnitude only a minus may have. Assumes nothing.
use mathlib.Core.Path.{◌≡◌}
use mathlib.Core.Bool.{Bool, true, false}
use Prim.Native.Nat.{ℕ, ◌≤◌}
use native.Mathlib.Omega.{arith}
use lib.IntN.{negsuc}
use Rattle.integers.specs.Signs.{sgn}
use Rattle.date_lines.specs.Lines.{least_size, greatest_size, greatest}

pub greatest_most : (minus : Bool) → greatest minus ≤ least_size
unfolding greatest
greatest_most true = omega arith
greatest_most false = omega arith

pub least : (minus : Bool) (v : ℕ) → v ≡ least_size → v ≤ greatest minus → negsuc greatest_size ≡ sgn minus v
unfolding greatest sgn
least true v e h = rw e
least false v e h = absurd (omega arith)
