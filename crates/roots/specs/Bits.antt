-- The floor root of a number, found bit by bit from the top: RULES, "The floor root bit by bit" (paper 02, C-15), which works one with a
-- pencil. The number is read in pairs of bits, and each pair gives one bit of the root. The statement is ByBits, of every number whatever
-- its size; it is shown in proofs/Theorems.antt. That the code takes these steps and no others is seen in src/lib.rt; its contracts say what
-- it holds after each of them.
use Rattle.std.specs.Prelude.{◌≡◌, ℕ, ◌+◌, ◌*◌, ◌/◌, ◌%◌, ◌^◌, ◌≤◌, ◌<◌}
use Rattle.integers.specs.Root.{root}
use Rattle.roots.specs.declared.Working.{Working}

-- ---- The steps.

-- n is the number as far as it has been read, and r the root found for it. The next pair makes the number 4 * n + pair. Its bit is kept, and
-- the root becomes 2 * r + 1, where the square of that is not past the number; else the bit is dropped, and the root becomes 2 * r.
pub data Bits : ℕ → ℕ → Type 0 where
  none : Bits 0 0
  kept : {n r pair : ℕ} → Bits n r → pair < 4 → (2 * r + 1) * (2 * r + 1) ≤ 4 * n + pair → Bits (4 * n + pair) (2 * r + 1)
  dropped : {n r pair : ℕ} → Bits n r → pair < 4 → 4 * n + pair < (2 * r + 1) * (2 * r + 1) → Bits (4 * n + pair) (2 * r)

-- The code holds the root, and the rest: what the number has above the root's square. So this is the number as far as it has been read.
abbrev pub read : Working → ℕ
read w = w.root * w.root + w.rest

-- The number n has been read, and the root is the one that the steps find for it.
pub record Worked (n : ℕ) (w : Working) : Type 0 where
  pub number : read w ≡ n
  pub bits : Bits n w.root

-- ---- Of the whole number n and its root r, at each place k, counted from 0 at the lowest bit.

-- The bit at place k.
abbrev pub bit : ℕ → ℕ → ℕ
bit k r = r / 2 ^ k % 2

-- What is tried at place k: the root's bits above it, a 1 there, and noughts below.
abbrev pub tried : ℕ → ℕ → ℕ
tried k r = r / 2 ^ (k + 1) * 2 ^ (k + 1) + 2 ^ k

-- The bit at place k is right: it is 1, kept, and leaves the square at or below the number; or it is 0, dropped, and a 1 there would make the
-- square greater than the number.
pub data RightBit (n r k : ℕ) : Type 0 where
  kept_fits : bit k r ≡ 1 → tried k r * tried k r ≤ n → RightBit n r k
  dropped_passes : bit k r ≡ 0 → n < tried k r * tried k r → RightBit n r k

pub record EveryBit (n r : ℕ) : Type 0 where
  -- When the number has been read down to place k, the steps have found the root's bits down to there.
  pub found : (k : ℕ) → Bits (n / 4 ^ k) (r / 2 ^ k)
  -- No place has a bit that is wrong.
  pub right : (k : ℕ) → RightBit n r k

-- What the steps find is the floor root and nothing else, and every bit of every floor root is right.
pub record ByBits : Type 0 where
  pub is_root : (n r : ℕ) → Bits n r → r ≡ root n
  pub every_bit : (n : ℕ) → EveryBit n (root n)
