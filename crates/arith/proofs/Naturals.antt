-- What `natural_or` gives, and what it tells of its number. Assumes nothing.
use mathlib.Core.Path.{◌≡◌, refl}
use mathlib.Core.Bool.{true}
use Prim.Native.Nat.{ℕ}
use lib.IntN.{ℤ, pos, negsuc}
use Rattle.integers.specs.Signs.{negative}
use Rattle.integers.proofs.Tests.{false_true}
use Rattle.arith.specs.Naturals.{natural_or}

pub natural_of_negative : (x : ℤ) (other : ℕ) → negative x ≡ true → natural_or x other ≡ other
unfolding natural_or negative
natural_of_negative (negsuc n) other e = refl
natural_of_negative (pos n) other e = absurd (false_true e)

-- a value other than `other` is the number's own
pub natural_back : (x : ℤ) (other : ℕ) → (natural_or x other ≡ other → ⊥) → pos (natural_or x other) ≡ x
unfolding natural_or
natural_back (pos n) other f = refl
natural_back (negsuc n) other f = absurd (f refl)
