-- Roots found bit by bit: each is the floor root, and a pair, a word more. Assumes nothing.
use mathlib.Core.Path.{◌≡◌, refl, sym, ap, subst, ◌∙◌}
use Prim.Native.Nat.{ℕ, suc, ◌+◌, ◌*◌, ◌/◌, ◌%◌, ◌^◌, ◌≤◌, ◌<◌}
use native.Mathlib.Omega.{arith}
use lib.Dec.{lit<}
use native.Mathlib.Nat.{pow-succ', pow-le-pow_right, mul-le-mul_left, le-add_right, lt_of_le_of_lt}
use Rattle.integers.specs.Root.{root}
use Rattle.integers.proofs.Root.{IsRoot, root_is}
use Rattle.roots.specs.Bits.{Bits, none, kept, dropped, Worked, read}
use Rattle.roots.specs.Machine.Word.{word, pairs}
use Rattle.roots.specs.declared.Working.{Working}
use Rattle.roots.proofs.TwoWords.{small_root}

bits_bounds : {n r : ℕ} → Bits n r → IsRoot n r
bits_bounds none = omega arith
bits_bounds (kept b p h) = record { low = h; high = let k = (bits_bounds b).high in omega arith }
bits_bounds (dropped b p h) = record { low = let k = (bits_bounds b).low in omega arith; high = h }

pub bits_root : {n r : ℕ} → Bits n r → r ≡ root n
bits_root b = root_is _ _ (bits_bounds b)

-- ---- a pair more

-- the rest is at most twice the root, since the root with 1 more is past the number
pub rest_small : {w : Working} → Worked (read w) w → w.rest ≤ 2 * w.root
rest_small h = let k = (bits_bounds h.bits).high in omega arith

-- by how much the square grows if the new bit is 1
abbrev trial : Working → ℕ
trial w = 4 * w.root + 1

-- the new bit and the square's growth by it
pub data Chosen (w : Working) (pair bit growth : ℕ) : Type 0 where
  one : trial w ≤ 4 * w.rest + pair → bit ≡ 1 → growth ≡ trial w → Chosen w pair bit growth
  nought : 4 * w.rest + pair < trial w → bit ≡ 0 → growth ≡ 0 → Chosen w pair bit growth

pub bit_small : {w : Working} {pair bit growth : ℕ} → Chosen w pair bit growth → bit ≤ 1
bit_small (one f e d) = omega arith
bit_small (nought f e d) = omega arith

pub growth_fits : {w : Working} {pair bit growth : ℕ} → Chosen w pair bit growth → growth ≤ 4 * w.rest + pair
growth_fits (one f e d) = omega arith
growth_fits (nought f e d) = omega arith

pub pair_worked : {w : Working} {pair bit growth : ℕ} (v : Working) → Worked (read w) w → pair < 4 → Chosen w pair bit growth
    → v.root ≡ 2 * w.root + bit → v.rest + growth ≡ 4 * w.rest + pair → Worked (4 * read w + pair) v
pair_worked {w} {pair} v h p (one f e d) r m =
    let q : v.root ≡ 2 * w.root + 1 = omega arith in
    record { number = rw q (omega arith); bits = subst (Bits (4 * read w + pair)) (sym q) (kept h.bits p (omega arith)) }
pair_worked {w} {pair} v h p (nought f e d) r m =
    let q : v.root ≡ 2 * w.root = omega arith in
    record { number = rw q (omega arith); bits = subst (Bits (4 * read w + pair)) (sym q) (dropped h.bits p (omega arith)) }

-- ---- a word more

-- n is the number with all of the word, and `done` pairs of the word have been read
pub record Reading (n : ℕ) (w : Working) (left done : ℕ) : Type 0 where
  pub worked : Worked (read w) w
  pub below : left < word
  pub turns : done ≤ pairs
  pub number : read w * word + left ≡ n * 4 ^ done

-- the working for a number is the working for the number that it has read
pub itself : {n : ℕ} {w : Working} → Worked n w → Worked (read w) w
itself {n} {w} h = record { number = refl; bits = subst (λ (t : ℕ). Bits t w.root) (sym h.number) h.bits }

pub nothing_read : Worked 0 (record { root = 0; rest = 0 })
nothing_read = record { number = refl; bits = none }

pub reading_begins : {w : Working} {next : ℕ} → Worked (read w) w → next < word → Reading (read w * word + next) w next 0
reading_begins h l = record { worked = h; below = l; turns = omega arith; number = omega arith }

pub next_power : (b j : ℕ) → b ^ (j + 1) ≡ b * b ^ j
next_power b j = let e : j + 1 ≡ suc j = omega arith in rw e (pow-succ' b j)

-- so many fours are at most a word
fours_fit : (j : ℕ) → j ≤ pairs → 4 ^ j ≤ word
fours_fit j h = pow-le-pow_right (lit< tt) h

-- what has been read is at most the number
read_most : {n : ℕ} {w : Working} {left done : ℕ} → Reading n w left done → read w ≤ n
read_most {n} {w} {left} {done} i =
    let e = i.number in
    let f : n * 4 ^ done ≤ n * word = mul-le-mul_left n (fours_fit done i.turns) in
    omega arith

-- so its root is below a word
pub root_below : {n : ℕ} {w : Working} {left done : ℕ} → Reading n w left done → n < word * word → w.root < word
root_below {n} {w} i h = small_root w.root (le-add_right (w.root * w.root) w.rest) (lt_of_le_of_lt (read_most i) h)

pub reading_on : {n : ℕ} {w v : Working} {left moved done : ℕ} → Reading n w left done → done < pairs → moved ≡ left * 4
    → Worked (4 * read w + moved / word) v → Reading n v (moved % word) (done + 1)
reading_on {n} {w} {v} {left} {moved} {done} i l m h =
    let e = i.number in
    let d : read v ≡ 4 * read w + moved / word = h.number in
    let f : n * 4 ^ (done + 1) ≡ n * (4 * 4 ^ done) = ap (λ (t : ℕ). n * t) (next_power 4 done) in
    record { worked = itself h; below = omega arith; turns = omega arith; number = omega arith }

pub reading_ends : {n : ℕ} {w : Working} {left done : ℕ} → Reading n w left done → pairs ≤ done → Worked n w
reading_ends {n} {w} {left} {done} i l =
    let t = i.turns in
    let b = i.below in
    let d : done ≡ pairs = omega arith in
    let e : read w * word + left ≡ n * word = i.number ∙ ap (λ (t : ℕ). n * 4 ^ t) d in
    let f : read w ≡ n = omega arith in
    subst (λ (t : ℕ). Worked t w) f i.worked
