-- What is read does not depend on what follows: a reader that accepts x with a rest accepts x ++ y with the same value, at the
-- same offset, and y after that rest; and one that refuses x, but not for its end, refuses x ++ y so too. Assumes nothing.
use mathlib.Core.Path.{◌≡◌}
use mathlib.Core.Bool.{Bool, true, false, cond}
use mathlib.Core.List.{List, [], ◌∷◌, ◌++◌}
use Prim.Native.Nat.{ℕ, zero, suc, ◌+◌, ◌*◌, ◌-◌, ◌^◌}
use native.Mathlib.Omega.{arith}
use lib.Dec.{leb, ltb, eqb}
use lib.IntN.{ℤ}
use Rattle.units.specs.declared.Refusal.{Refusal}
use Rattle.units.specs.declared.Refusal.TheVariants.{OverLimit, TotalOverLimit, TooCoarse, EndedEarly}
use Rattle.packed_numbers.specs.Numbers.{group, Read, got, bad, next, closed, groups_from, number, unfolded}
use Rattle.units.specs.Units.{block_count}
use Rattle.limits.specs.declared.Term.{Term}
use Rattle.limits.specs.declared.Tally.{Tally}
use Rattle.limits.specs.Limits.{no_tally, opened, added, after_block, factor, count_fits, a_fits, b_fits, c_fits, total_fits, coarse_fits}
use Rattle.packed.specs.Series.{judged, read_a, read_b, read_c, read_term, read_terms, read_block, read_blocks, read_series}

-- The answer on x, and that on x ++ y.
data Longer {A : Type 0} (y : List ℕ) : Read A → Read A → Type 0 where
  same : {v : A} {to : ℕ} {rest : List ℕ} → Longer y (got v to rest) (got v to (rest ++ y))
  early : {n : ℕ} {r : Read A} → Longer y (bad (EndedEarly n)) r
  no_more : {q : Refusal} → Longer y (bad q) (bad q)

either : {A : Type 0} {y : List ℕ} {p q r s : Read A} (t : Bool) → Longer y p q → Longer y r s → Longer y (cond t p r) (cond t q s)
either true h k = h
either false h k = k

passed : {A : Type 0} {y : List ℕ} {p q : Read A} (t : Bool) (refusal : ℕ → Refusal) (to : ℕ) → Longer y p q
    → Longer y (judged t refusal to p) (judged t refusal to q)
unfolding judged
passed t refusal to h = either t h no_more

then : {A B : Type 0} {y : List ℕ} (p q : Read A) (f : A → ℕ → List ℕ → Read B) → Longer y p q
    → ((v : A) (to : ℕ) (rest : List ℕ) → Longer y (f v to rest) (f v to (rest ++ y))) → Longer y (next p f) (next q f)
unfolding next
then (got v to rest) (got v' to' rest') f same k = k v to rest
then (got v to rest) (bad q') f h k = elim h [ ]
then (bad (EndedEarly n)) r f early k = early
then (bad q) (bad q') f no_more k = no_more

groups_longer : (y x : List ℕ) (k acc at : ℕ) → Longer y (groups_from k acc at x) (groups_from k acc at (x ++ y))
unfolding groups_from closed
groups_longer y [] k acc at = early
groups_longer y (b ∷ x) k acc at =
    either (ltb b group) (either (eqb b 0) (either (eqb k 0) same no_more) same)
    (either (leb 8 k) no_more (groups_longer y x (k + 1) (acc + (b - group) * group ^ k) (at + 1)))

number_longer : (y : List ℕ) (at : ℕ) (x : List ℕ) → Longer y (number at x) (number at (x ++ y))
unfolding number
number_longer y at x = groups_longer y x 0 0 at

a_longer : (y : List ℕ) (s : Tally) (at : ℕ) (x : List ℕ) → Longer y (read_a s at x) (read_a s at (x ++ y))
unfolding read_a
a_longer y s at x =
    then (number at x) (number at (x ++ y)) _ (number_longer y at x) (λ v to rest.
    passed (a_fits (unfolded v)) OverLimit to (passed (total_fits s (unfolded v)) TotalOverLimit to same))

b_longer : (y : List ℕ) (at : ℕ) (x : List ℕ) → Longer y (read_b at x) (read_b at (x ++ y))
unfolding read_b
b_longer y at x = then (number at x) (number at (x ++ y)) _ (number_longer y at x) (λ v to rest. passed (b_fits v) OverLimit to same)

c_longer : (y : List ℕ) (f : ℕ) (s : Tally) (a : ℤ) (b at : ℕ) (x : List ℕ) → Longer y (read_c f s a b at x) (read_c f s a b at (x ++ y))
unfolding read_c
c_longer y f s a b at x =
    then (number at x) (number at (x ++ y)) _ (number_longer y at x) (λ v to rest.
    passed (c_fits (unfolded v)) OverLimit to (passed (coarse_fits f s a b (unfolded v)) TooCoarse to same))

term_longer : (y : List ℕ) (f : ℕ) (s : Tally) (at : ℕ) (x : List ℕ) → Longer y (read_term f s at x) (read_term f s at (x ++ y))
unfolding read_term
term_longer y f s at x =
    then (read_a s at x) (read_a s at (x ++ y)) _ (a_longer y s at x) (λ a to rest.
    then (read_b to rest) (read_b to (rest ++ y)) _ (b_longer y to rest) (λ b to rest.
    then (read_c f s a b to rest) (read_c f s a b to (rest ++ y)) _ (c_longer y f s a b to rest) (λ c to rest. same)))

terms_longer : (y : List ℕ) (n f : ℕ) (s : Tally) (at : ℕ) (x : List ℕ) → Longer y (read_terms n f s at x) (read_terms n f s at (x ++ y))
unfolding read_terms
terms_longer y zero f s at x = same
terms_longer y (suc n) f s at x =
    then (read_term f s at x) (read_term f s at (x ++ y)) _ (term_longer y f s at x) (λ t to rest.
    then (read_terms n f (added f s t) to rest) (read_terms n f (added f s t) to (rest ++ y)) _ (terms_longer y n f (added f s t) to rest) (λ ts to rest. same))

block_longer : (y : List ℕ) (k : ℕ) (s : Tally) (at : ℕ) (x : List ℕ) → Longer y (read_block k s at x) (read_block k s at (x ++ y))
unfolding read_block
block_longer y k s at x =
    then (number at x) (number at (x ++ y)) _ (number_longer y at x) (λ n to rest.
    passed (count_fits s n) OverLimit to (terms_longer y n (factor k) (opened k n s) to rest))

blocks_longer : (y : List ℕ) (n k : ℕ) (s : Tally) (at : ℕ) (x : List ℕ) → Longer y (read_blocks n k s at x) (read_blocks n k s at (x ++ y))
unfolding read_blocks
blocks_longer y zero k s at x = same
blocks_longer y (suc n) k s at x =
    then (read_block k s at x) (read_block k s at (x ++ y)) _ (block_longer y k s at x) (λ ts to rest.
    let more = read_blocks n (k + 1) (after_block k s ts) to in
    then (more rest) (more (rest ++ y)) _ (blocks_longer y n (k + 1) (after_block k s ts) to rest) (λ bs to rest. same))

longer_got : {A : Type 0} {y : List ℕ} {v : A} {to : ℕ} {rest : List ℕ} (p q : Read A) → Longer y p q → p ≡ got v to rest → q ≡ got v to (rest ++ y)
longer_got {y = y} {v = v} {to = to} {rest = rest} (got u i l) (got u' i' l') same e =
    let a : u ≡ v = cc in
    let b : i ≡ to = cc in
    let c : l ≡ rest = cc in
    rw (a, b, c)
longer_got (got u i l) (bad q') h e = elim h [ ]
longer_got (bad (EndedEarly n)) r early e = let z : ◌≡◌ {A = ℕ} 0 1 = cc in absurd (omega arith)
longer_got (bad q) (bad q') no_more e = let z : ◌≡◌ {A = ℕ} 0 1 = cc in absurd (omega arith)

-- A series with more bytes after it.
pub series_append : (at : ℕ) (x y : List ℕ) {blocks : List (List Term)} {to : ℕ} {rest : List ℕ} → read_series at x ≡ got blocks to rest
    → read_series at (x ++ y) ≡ got blocks to (rest ++ y)
unfolding read_series
series_append at x y = longer_got _ _ (blocks_longer y block_count 0 no_tally at x)

longer_bad : {A : Type 0} {y : List ℕ} (p q : Read A) (r : Refusal) → ((n : ℕ) → r ≡ EndedEarly n → ⊥) → Longer y p q → p ≡ bad r → q ≡ bad r
longer_bad (got u i l) (got u' i' l') r h same e = let z : ◌≡◌ {A = ℕ} 0 1 = cc in absurd (omega arith)
longer_bad (got u i l) (bad q') r h k e = elim k [ ]
longer_bad (bad (EndedEarly n)) q r h early e = let p : r ≡ EndedEarly n = cc in absurd (h n p)
longer_bad (bad q) (bad q') r h no_more e = e

-- Bytes that are refused, with more bytes after them.
pub series_bad : (at : ℕ) (x y : List ℕ) (r : Refusal) → ((n : ℕ) → r ≡ EndedEarly n → ⊥) → read_series at x ≡ bad r → read_series at (x ++ y) ≡ bad r
unfolding read_series
series_bad at x y r h = longer_bad _ _ r h (blocks_longer y block_count 0 no_tally at x)
