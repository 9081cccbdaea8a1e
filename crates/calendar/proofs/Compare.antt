-- A test of two whole numbers that are differences of naturals is a test of naturals. Assumes nothing.
use mathlib.Core.Path.{◌≡◌, refl, sym, ◌∙◌}
use Prim.Native.Nat.{ℕ, ◌+◌, ◌≤◌, ◌<◌}
use native.Mathlib.Decide.{dec_le}
use native.Mathlib.Omega.{arith}
use borrow.Author.Tests.{le-leb, lt-leb, ltb-true, ltb-false}
use lib.Dec.{leb}
use mathlib.Core.Bool.{true, false, true≢false}
use lib.IntN.{ℤ, pos, negsuc, nat_abs}
use lib.Signed.{le_z, lt_z}
use Rattle.calendar.specs.Calendar.{between}
use Rattle.integers.proofs.Tests.{is_true, is_false}
use Rattle.integers.proofs.Pairs.{Is, less, less⁻¹}

pub leZ_is : {x y : ℤ} {a b c d : ℕ} → Is x a b → Is y c d → le_z x y ≡ leb (a + d) (c + b)
leZ_is {x} {y} {a} {b} {c} {d} h k = go (dec_le (a + d) (c + b))
  where
    go : Dec (a + d ≤ c + b) → le_z x y ≡ leb (a + d) (c + b)
    go (yes l) = is_true (le_z x y) (less h k l).le ∙ sym (le-leb (a + d) (c + b) l)
    go (no f) = is_false (le_z x y) (λ t. f (less⁻¹ h k (record { le = t }))) ∙ sym (lt-leb (a + d) (c + b) (omega arith))

-- A number that has to be from 0 to l, by the two tests that the code makes.
pub between_in : (x : ℤ) (l : ℕ) → lt_z x (pos 0) ≡ false → lt_z (pos l) x ≡ false → between (pos 0) x (pos l) ≡ true
between_in (pos n) l h k = rw (le-leb 0 n (omega arith), le-leb n l (ltb-false l n k))
between_in (negsuc n) l h k = absurd (true≢false h)

pub between_below : (x : ℤ) (l : ℕ) → lt_z x (pos 0) ≡ true → between (pos 0) x (pos l) ≡ false
between_below (pos n) l h = let g : n < 0 = ltb-true n 0 h in absurd (omega arith)
between_below (negsuc n) l h = refl

pub between_above : (x : ℤ) (l : ℕ) → lt_z (pos l) x ≡ true → between (pos 0) x (pos l) ≡ false
between_above (pos n) l h = rw (le-leb 0 n (omega arith), lt-leb n l (ltb-true l n h))
between_above (negsuc n) l h = refl

pub natural_is : (x : ℤ) → lt_z x (pos 0) ≡ false → pos (nat_abs x) ≡ x
natural_is (pos n) h = refl
natural_is (negsuc n) h = absurd (true≢false h)
