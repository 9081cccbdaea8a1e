-- How long the packed form of a good beginning is: no longer than the longest series. Assumes nothing.
use mathlib.Core.Path.{◌≡◌}
use mathlib.Core.Bool.{true}
use mathlib.Core.List.{List, ◌++◌}
use Prim.Native.Nat.{ℕ, zero, suc, ◌+◌, ◌*◌, ◌/◌, ◌^◌, ◌≤◌, ◌<◌}
use native.Mathlib.Nat.{pow-succ'}
use native.Mathlib.Omega.{arith}
use borrow.Author.Tests.{ltb-true, ltb-false}
use lib.Dec.{ltb}
use lib.IntN.{ℤ, nat_abs}
use lib.ListN.{length, length-append}
use Rattle.units.specs.Units.{a_limit, b_limit, c_limit, series_limit}
use Rattle.packed_numbers.specs.Numbers.{group, groups, encode, folded}
use Rattle.packed_numbers.proofs.Folding.{folded_nat_abs}
use Rattle.limits.specs.declared.Tally.{Tally}
use Rattle.limits.specs.Limits.{opened, added, count_fits, a_fits, b_fits, c_fits}
use Rattle.limits.proofs.Passing.{count_passed}
use Rattle.packed.specs.Series.{pack_term}
use Rattle.packed_promises.specs.Bounds.{a_bytes, b_bytes, c_bytes, count_bytes, term_bytes, packed_limit}
use Rattle.series_lines.specs.Grammar.{size, value, CountLine, count, TermLine, TermInLimits, AnyLine, a_count, a_term, line_packed, any_packed}
use Rattle.integers.proofs.Tests.{by_cases}
use Rattle.text_promises.specs.Decided.{Beginning, empty, with_count, with_term}
use Rattle.text_promises.proofs.Beginnings.{packed_length, few}

-- A number takes no more groups than its size tells.
groups_within : (f n v : ℕ) → v < group ^ suc n → length (groups f v) ≤ suc n
unfolding groups
groups_within zero n v h = omega arith
groups_within (suc f) n v h =
    by_cases (ltb v group) (λ p. rw p (omega arith)) (λ p. rw p (go n h (ltb-false v group p) (λ m. groups_within f m (v / group))))
  where
    go : (n : ℕ) → v < group ^ suc n → group ≤ v → ((m : ℕ) → v / group < group ^ suc m → length (groups f (v / group)) ≤ suc m)
        → suc (length (groups f (v / group))) ≤ suc n
    go zero h l k = absurd (omega arith)
    go (suc m) h l k = omega (arith, k m (omega (arith, pow-succ' group (suc m))))

encode_within : (n v : ℕ) → v < group ^ suc n → length (encode v) ≤ suc n
unfolding encode
encode_within = groups_within 10

-- A count, and a term, within the limits.
count_within : (s : Tally) (l : CountLine) → count_fits s (count l) ≡ true → length (line_packed (a_count l)) ≤ count_bytes
unfolding line_packed
count_within s l f = encode_within 1 (count l) (omega (arith, (count_passed s (count l) f).few))

signed_within : (n limit : ℕ) (z : ℤ) → nat_abs z < limit → 2 * limit ≤ group ^ suc n → length (encode (folded z)) ≤ suc n
signed_within n limit z h l = encode_within n (folded z) (omega (arith, folded_nat_abs z))

term_within : (f : ℕ) (s : Tally) (l : TermLine) → TermInLimits f s l → length (line_packed (a_term l)) ≤ term_bytes
unfolding line_packed pack_term a_fits b_fits c_fits
term_within f s l h =
    let x = encode (folded (value l.a)) in
    let y = encode (size l.b) in
    let z = encode (folded (value l.c)) in
    sum x y z
    (signed_within 7 a_limit (value l.a) (ltb-true _ _ h.a) (omega arith))
    (encode_within 5 (size l.b) (omega (arith, ltb-true (size l.b) b_limit h.b)))
    (signed_within 8 c_limit (value l.c) (ltb-true _ _ h.c) (omega arith))
  where
    sum : (x y z : List ℕ) → length x ≤ a_bytes → length y ≤ b_bytes → length z ≤ c_bytes → length (x ++ y ++ z) ≤ term_bytes
    sum x y z p q r = omega (arith, length-append (x ++ y) z, length-append x y)

-- Of the terms of the counts so far, those of n are still to come.
record Within (ls : List AnyLine) (k n : ℕ) (s : Tally) : Type 0 where
  terms : s.terms ≤ series_limit
  long : length (any_packed ls) + term_bytes * n ≤ count_bytes * k + term_bytes * s.terms

within : {ls : List AnyLine} {k n : ℕ} {s : Tally} → Beginning ls k n s → Within ls k n s
unfolding any_packed opened added
within empty = record { terms = omega arith; long = omega arith }
within (with_count {ls} {k} {s} l b i g f) =
    let h = within b in
    record {
      terms = omega (arith, (count_passed s (count l) f).fewer);
      long = omega (arith, h.long, packed_length ls (a_count l), count_within s l f);
    }
within (with_term {ls} {k} {n} {s} l b g f) =
    let h = within b in
    record { terms = h.terms; long = omega (arith, h.long, packed_length ls (a_term l), term_within _ s l f) }

pub beginning_short : {ls : List AnyLine} {k n : ℕ} {s : Tally} → Beginning ls k n s → length (any_packed ls) ≤ packed_limit
beginning_short b = let h = within b in omega (arith, h.terms, h.long, few b)
