-- How many bytes a packed series can have, whole or ended early: so many for each number of a term, so many for each count. Assumes nothing.
use mathlib.Core.Path.{◌≡◌, refl, ap}
use mathlib.Core.Bool.{Bool, true, false}
use mathlib.Core.List.{List, [], ◌∷◌}
use Prim.Native.Nat.{ℕ, zero, suc, ◌+◌, ◌*◌, ◌-◌, ◌^◌, ◌≤◌, ◌<◌}
use native.Mathlib.Nat.{pow-succ', mul-le-mul_right}
use native.Mathlib.Numerals.{add-one}
use native.Mathlib.Decide.{dec_le, ℕ_discrete}
use native.Mathlib.Omega.{arith}
use borrow.Author.Tests.{lt-ltb, le-ltb, lt-leb, le-leb, eq-eqb, ne_eqb, ltb-true}
use lib.IntN.{ℤ, nat_abs}
use lib.ListN.{length}
use Rattle.units.specs.declared.Refusal.{Refusal}
use Rattle.units.specs.declared.Refusal.TheVariants.{OverLimit, TotalOverLimit, TooCoarse}
use Rattle.units.specs.declared.Refusal.TheVariants.{EndedEarly, NotShortest}
use Rattle.units.specs.Units.{a_limit, b_limit, c_limit, series_limit, block_count}
use Rattle.packed_numbers.specs.Numbers.{group, Read, got, bad, next, closed, groups_from, number, unfolded}
use Rattle.packed_numbers.proofs.Folding.{nat_abs_unfolded}
use Rattle.limits.specs.declared.Term.{Term}
use Rattle.limits.specs.declared.Tally.{Tally}
use Rattle.limits.specs.Limits.{no_tally, opened, added, after_block, factor, count_fits, a_fits, b_fits, c_fits, total_fits, coarse_fits}
use Rattle.limits.proofs.Passing.{count_passed}
use Rattle.packed.specs.Series.{judged, read_a, read_b, read_c, read_term, read_terms, read_block, read_blocks, read_series}
use Rattle.packed_promises.specs.Bounds.{a_bytes, b_bytes, c_bytes, count_bytes, term_bytes, packed_limit, early_limit}
use Rattle.packed.proofs.Blocks.{block_sums}

-- A reader that has read a value and come to an offset of which P holds, or a refusal that is 8 at most so far on.
pub data Bounded {A : Type 0} (P : A → ℕ → Type 0) (most : ℕ) : Read A → Type 0 where
  within : {x : A} {to : ℕ} {rest : List ℕ} → P x to → Bounded P most (got x to rest)
  stopped : {r : Refusal} → ((n : ℕ) → r ≡ EndedEarly n → n ≤ most) → Bounded P most (bad r)

weaker : {A : Type 0} {P Q : A → ℕ → Type 0} {most : ℕ} {r : Read A} (more : ℕ)
    → most ≤ more → ((x : A) (to : ℕ) → P x to → Q x to) → Bounded P most r → Bounded Q more r
weaker more l f (within {x = x} {to = to} p) = within (f x to p)
weaker {most = most} more l f (stopped h) = stopped (λ n e. step n (h n e))
  where
    step : (n : ℕ) → n ≤ most → n ≤ more
    step n h = omega arith

then : {A B : Type 0} {P : A → ℕ → Type 0} {most : ℕ} (Q : B → ℕ → Type 0) (more : ℕ) (r : Read A) (f : A → ℕ → List ℕ → Read B)
    → most ≤ more → Bounded P most r → ((x : A) (to : ℕ) (rest : List ℕ) → P x to → Bounded Q more (f x to rest)) → Bounded Q more (next r f)
unfolding next
then Q more (got x to rest) f l (within p) k = k x to rest p
then {most = most} Q more (bad r) f l (stopped h) k = stopped (λ n e. step n (h n e))
  where
    step : (n : ℕ) → n ≤ most → n ≤ more
    step n h = omega arith

abbrev NotEarly : (ℕ → Refusal) → Type 0
NotEarly refusal = (at n : ℕ) → refusal at ≡ EndedEarly n → ⊥

over : NotEarly OverLimit
over at n e = let z : ◌≡◌ {A = ℕ} 0 1 = cc in omega arith

total : NotEarly TotalOverLimit
total at n e = let z : ◌≡◌ {A = ℕ} 0 1 = cc in omega arith

coarse : NotEarly TooCoarse
coarse at n e = let z : ◌≡◌ {A = ℕ} 0 1 = cc in omega arith

padded : NotEarly NotShortest
padded at n e = let z : ◌≡◌ {A = ℕ} 0 1 = cc in omega arith

passed : {A : Type 0} {P : A → ℕ → Type 0} {most : ℕ} {r : Read A} (t : Bool) (refusal : ℕ → Refusal) (to : ℕ) → NotEarly refusal
    → (t ≡ true → Bounded P most r) → Bounded P most (judged t refusal to r)
unfolding judged
passed true refusal to h k = k refl
passed false refusal to h k = stopped (λ n e. absurd (h (to - 1) n e))

-- A number v read from offset at, after k groups: at least so large, and no longer than its size tells.
record Few (k at v to : ℕ) : Type 0 where
  large : 0 < k → group ^ k ≤ v
  few : (g : ℕ) → v < group ^ (k + suc g) → to ≤ at + suc g

power_next : (k : ℕ) → group ^ (k + 1) ≡ group * group ^ k
power_next k = rw add-one (pow-succ' group k)

one_more : (k at v to : ℕ) → Few (k + 1) (at + 1) v to → Few k at v to
one_more k at v to h = record { large = λ p. omega (arith, h.large (omega arith), power_next k); few = go }
  where
    go : (g : ℕ) → v < group ^ (k + suc g) → to ≤ at + suc g
    go zero l = let m = h.large (omega arith) in absurd (omega (arith, l, m))
    go (suc g) l =
        let e : k + suc (suc g) ≡ k + 1 + suc g = omega arith in
        omega (arith, h.few g (rw e at l))

last_group : (k acc b : ℕ) → (b ≡ 0 → ⊥) → group ^ k ≤ acc + b * group ^ k
last_group k acc b h =
    let p : 1 ≤ b = omega (arith, h) in
    omega (arith, mul-le-mul_right (group ^ k) p)

closed_bounded : (k acc at b : ℕ) (s : List ℕ) (most : ℕ) → Bounded (Few k at) most (closed k acc at b s)
unfolding closed
closed_bounded k acc at b s most = go (ℕ_discrete b 0) (ℕ_discrete k 0)
  where
    go : Dec (b ≡ 0) → Dec (k ≡ 0) → Bounded (Few k at) most (closed k acc at b s)
    go (yes p) (yes q) =
        rw (eq-eqb b 0 p, eq-eqb k 0 q)
        (within {x = 0} {to = at + 1} (record { large = λ h. absurd (omega (arith, h, q)); few = λ g h. omega arith }))
    go (yes p) (no q) = rw (eq-eqb b 0 p, ne_eqb k 0 q) (stopped (λ n e. absurd (padded at n e)))
    go (no p) q =
        rw (ne_eqb b 0 p)
        (within {x = acc + b * group ^ k} {to = at + 1} (record { large = λ h. last_group k acc b p; few = λ g h. omega arith }))

groups_bounded : (x : List ℕ) (k acc at : ℕ) → k ≤ 8 → Bounded (Few k at) (at + (8 - k)) (groups_from k acc at x)
unfolding groups_from
groups_bounded [] k acc at h = stopped {r = EndedEarly at} (λ n e. let p : at ≡ n = cc in omega arith)
groups_bounded (b ∷ x) k acc at h = go (λ l. groups_bounded x (k + 1) (acc + (b - group) * group ^ k) (at + 1) l) (dec_le group b) (dec_le 8 k)
  where
    go : (k + 1 ≤ 8 → Bounded (Few (k + 1) (at + 1)) (at + 1 + (8 - (k + 1))) (groups_from (k + 1) (acc + (b - group) * group ^ k) (at + 1) x))
        → Dec (group ≤ b) → Dec (8 ≤ k) → Bounded (Few k at) (at + (8 - k)) (groups_from k acc at (b ∷ x))
    go r (no l) q = let u : b < group = omega (arith, l) in rw (lt-ltb b group u) (closed_bounded k acc at b x (at + (8 - k)))
    go r (yes l) (yes q) = rw (le-ltb b group l, le-leb 8 k q) (stopped (λ n e. absurd (over at n e)))
    go r (yes l) (no q) =
        let u : k < 8 = omega (arith, q) in
        let m : at + 1 + (8 - (k + 1)) ≤ at + (8 - k) = omega arith in
        rw (le-ltb b group l, lt-leb 8 k u) (weaker (at + (8 - k)) m (one_more k at) (r (omega arith)))

number_bounded : (at : ℕ) (x : List ℕ) → Bounded (Few 0 at) (at + 8) (number at x)
unfolding number
number_bounded at x = groups_bounded x 0 0 at (omega arith)

-- The numbers of a term. What is left of an input that ends early is at most eight groups.
abbrev pub By : {A : Type 0} → ℕ → A → ℕ → Type 0
By limit x to = to ≤ limit

halves : (v limit : ℕ) → nat_abs (unfolded v) < limit → v < 2 * limit
halves v limit h = omega (arith, nat_abs_unfolded v)

a_bounded : (s : Tally) (at : ℕ) (x : List ℕ) → Bounded (By (at + a_bytes)) (at + 8) (read_a s at x)
unfolding read_a a_fits
a_bounded s at x =
    then (By (at + a_bytes)) (at + 8) (number at x) _ (omega arith) (number_bounded at x) (λ v to rest q.
    passed (a_fits (unfolded v)) OverLimit to over (λ h.
    passed (total_fits s (unfolded v)) TotalOverLimit to total (λ t.
    within (q.few (a_bytes - 1) (omega (arith, halves v a_limit (ltb-true _ _ h)))))))

b_bounded : (at : ℕ) (x : List ℕ) → Bounded (By (at + b_bytes)) (at + 8) (read_b at x)
unfolding read_b b_fits
b_bounded at x =
    then (By (at + b_bytes)) (at + 8) (number at x) _ (omega arith) (number_bounded at x) (λ v to rest q.
    passed (b_fits v) OverLimit to over (λ h. within (q.few (b_bytes - 1) (omega (arith, ltb-true v b_limit h)))))

c_bounded : (f : ℕ) (s : Tally) (a : ℤ) (b at : ℕ) (x : List ℕ) → Bounded (By (at + c_bytes)) (at + 8) (read_c f s a b at x)
unfolding read_c c_fits
c_bounded f s a b at x =
    then (By (at + c_bytes)) (at + 8) (number at x) _ (omega arith) (number_bounded at x) (λ v to rest q.
    passed (c_fits (unfolded v)) OverLimit to over (λ h.
    passed (coarse_fits f s a b (unfolded v)) TooCoarse to coarse (λ t.
    within (q.few (c_bytes - 1) (omega (arith, halves v c_limit (ltb-true _ _ h)))))))

term_bounded : (f : ℕ) (s : Tally) (at : ℕ) (x : List ℕ) → Bounded (By (at + term_bytes)) (at + term_bytes + 8) (read_term f s at x)
unfolding read_term
term_bounded f s at x =
    then (By (at + term_bytes)) (at + term_bytes + 8) (read_a s at x) _ (omega arith) (a_bounded s at x) (λ a i rest p.
    then (By (at + term_bytes)) (at + term_bytes + 8) (read_b i rest) _ (omega arith) (b_bounded i rest) (λ b j rest q.
    then (By (at + term_bytes)) (at + term_bytes + 8) (read_c f s a b j rest) _ (omega arith) (c_bounded f s a b j rest) (λ c to rest r.
    within {x = record { a = a; b = b; c = c }} {to = to} (sum i j to p q r))))
  where
    sum : (i j to : ℕ) → i ≤ at + a_bytes → j ≤ i + b_bytes → to ≤ j + c_bytes → to ≤ at + term_bytes
    sum i j to p q r = omega arith

-- n terms.
record Several (at n : ℕ) (ts : List Term) (to : ℕ) : Type 0 where
  short : to ≤ at + term_bytes * n
  many : length ts ≡ n

terms_bounded : (n f : ℕ) (s : Tally) (at : ℕ) (x : List ℕ) → Bounded (Several at n) (at + term_bytes * n + 8) (read_terms n f s at x)
unfolding read_terms
terms_bounded zero f s at x = within {x = []} {to = at} (record { short = omega arith; many = refl })
terms_bounded (suc n) f s at x =
    then (Several at (suc n)) (at + term_bytes * suc n + 8) (read_term f s at x) _ (omega arith) (term_bounded f s at x) (λ t i rest p.
    then (Several at (suc n)) (at + term_bytes * suc n + 8) (read_terms n f (added f s t) i rest) _ (omega arith)
    (terms_bounded n f (added f s t) i rest) (λ ts to rest q.
    within {x = t ∷ ts} {to = to} (record { short = sum i to p q.short; many = ap suc q.many })))
  where
    sum : (i to : ℕ) → i ≤ at + term_bytes → to ≤ i + term_bytes * n → to ≤ at + term_bytes * suc n
    sum i to p q = omega arith

-- A block, with its count.
record Counted (s : Tally) (at : ℕ) (ts : List Term) (to : ℕ) : Type 0 where
  short : to ≤ at + count_bytes + term_bytes * length ts
  fits : count_fits s (length ts) ≡ true

block_bounded : (k : ℕ) (s : Tally) (at : ℕ) (x : List ℕ)
    → Bounded (Counted s at) (at + count_bytes + term_bytes * (series_limit - s.terms) + 8) (read_block k s at x)
unfolding read_block
block_bounded k s at x =
    then (Counted s at) (at + count_bytes + term_bytes * (series_limit - s.terms) + 8) (number at x) _ (omega arith) (number_bounded at x) (λ n to rest q.
    passed (count_fits s n) OverLimit to over (λ h.
    let c = count_passed s n h in
    let l = q.few (count_bytes - 1) (omega (arith, c.few)) in
    weaker (at + count_bytes + term_bytes * (series_limit - s.terms) + 8) (room n to l c.fewer) (counted n to l h)
    (terms_bounded n (factor k) (opened k n s) to rest)))
  where
    room : (n to : ℕ) → to ≤ at + count_bytes → s.terms + n ≤ series_limit
        → to + term_bytes * n + 8 ≤ at + count_bytes + term_bytes * (series_limit - s.terms) + 8
    room n to l h = omega arith

    counted : (n to : ℕ) → to ≤ at + count_bytes → count_fits s n ≡ true → (ts : List Term) (end : ℕ) → Several to n ts end → Counted s at ts end
    counted n to l h ts end q = record { short = rw q.many (omega (arith, q.short)); fits = rw q.many h }

-- n blocks.
blocks_bounded : (n k : ℕ) (s : Tally) (at : ℕ) (x : List ℕ)
    → Bounded (By (at + n * count_bytes + term_bytes * (series_limit - s.terms))) (at + n * count_bytes + term_bytes * (series_limit - s.terms) + 8)
    (read_blocks n k s at x)
unfolding read_blocks
blocks_bounded zero k s at x = within {x = []} {to = at} (omega arith)
blocks_bounded (suc n) k s at x =
    then (By (at + suc n * count_bytes + term_bytes * (series_limit - s.terms))) (at + suc n * count_bytes + term_bytes * (series_limit - s.terms) + 8)
    (read_block k s at x) _ (omega arith) (block_bounded k s at x) (λ ts i rest p.
    let e = block_sums k s ts p.fits in
    let l = left i (length ts) (after_block k s ts).terms p.short e.terms e.few in
    then (By (at + suc n * count_bytes + term_bytes * (series_limit - s.terms))) (at + suc n * count_bytes + term_bytes * (series_limit - s.terms) + 8)
    (read_blocks n (k + 1) (after_block k s ts) i rest) _ (omega (arith, l)) (blocks_bounded n (k + 1) (after_block k s ts) i rest) (λ bs to rest q.
    within {x = ts ∷ bs} {to = to} (omega (arith, l, q))))
  where
    left : (i m terms : ℕ) → i ≤ at + count_bytes + term_bytes * m → terms ≡ s.terms + m → terms ≤ series_limit
        → i + n * count_bytes + term_bytes * (series_limit - terms) ≤ at + suc n * count_bytes + term_bytes * (series_limit - s.terms)
    left i m terms p e l = omega arith

pub series_bounded : (bytes : List ℕ) → Bounded (By packed_limit) early_limit (read_series 0 bytes)
unfolding read_series
series_bounded bytes = weaker early_limit (omega arith) (λ bs to h. h) (blocks_bounded block_count 0 no_tally 0 bytes)
