-- Where packed bytes are refused: the offset that a reader has come to and the bytes from there make up all the bytes; and no number is
-- refused as a byte after the end. Assumes nothing.
use mathlib.Core.Path.{◌≡◌}
use mathlib.Core.Bool.{Bool, true, false, cond}
use mathlib.Core.List.{List, [], ◌∷◌}
use Prim.Native.Nat.{ℕ, zero, suc, ◌+◌, ◌*◌, ◌-◌, ◌^◌, ◌≤◌, ◌<◌}
use native.Mathlib.Omega.{arith}
use lib.Dec.{leb, ltb, eqb}
use lib.IntN.{ℤ}
use lib.ListN.{length}
use Rattle.units.specs.Refusals as refusals
use Rattle.units.specs.declared.Refusal.{Refusal}
use Rattle.units.specs.declared.Refusal.TheVariants.{OverLimit, TotalOverLimit, TooCoarse, EndedEarly, NotShortest}
use Rattle.units.specs.Units.{block_count}
use Rattle.packed_numbers.specs.Numbers.{group, Read, got, bad, next, closed, groups_from, number, unfolded}
use Rattle.limits.specs.declared.Tally.{Tally}
use Rattle.limits.specs.Limits.{no_tally, opened, added, after_block, factor, count_fits, a_fits, b_fits, c_fits, total_fits, coarse_fits}
use Rattle.packed.specs.Series.{judged, read_a, read_b, read_c, read_term, read_terms, read_block, read_blocks, read_series}
use Rattle.packed_promises.specs.Bounds.{Where, over, total, coarse, early, unshortened}

module _ (bytes : List ℕ) where
  -- A refusal of a number: it says where, and is not that of a byte after the end.
  pub record NumberRefusal (r : Refusal) : Type 0 where
    pub place : Where bytes r
    pub not_after : refusals.number r ≡ refusals.byte_after_end → ⊥

  over_at : (at : ℕ) → at < length bytes → NumberRefusal (OverLimit at)
  over_at at l = record { place = over l; not_after = λ q. omega (arith, q) }

  total_at : (at : ℕ) → at < length bytes → NumberRefusal (TotalOverLimit at)
  total_at at l = record { place = total l; not_after = λ q. omega (arith, q) }

  coarse_at : (at : ℕ) → at < length bytes → NumberRefusal (TooCoarse at)
  coarse_at at l = record { place = coarse l; not_after = λ q. omega (arith, q) }

  early_at : (at : ℕ) → at ≡ length bytes → NumberRefusal (EndedEarly at)
  early_at at e = record { place = early e; not_after = λ q. omega (arith, q) }

  unshortened_at : (at : ℕ) → at < length bytes → NumberRefusal (NotShortest at)
  unshortened_at at l = record { place = unshortened l; not_after = λ q. omega (arith, q) }

  -- A reader in these bytes that has come to at least the offset low, or a refusal that says where.
  pub data Placed {A : Type 0} (low : ℕ) : Read A → Type 0 where
    on : {x : A} {to : ℕ} {rest : List ℕ} → to + length rest ≡ length bytes → low ≤ to → Placed low (got x to rest)
    off : {r : Refusal} → NumberRefusal r → Placed low (bad r)

  either : {A : Type 0} {low : ℕ} {q r : Read A} (t : Bool) → Placed low q → Placed low r → Placed low (cond t q r)
  either true h k = h
  either false h k = k

  later : {A : Type 0} {r : Read A} {low : ℕ} (lower : ℕ) → lower ≤ low → Placed low r → Placed lower r
  later lower l (on e h) = on e (omega arith)
  later lower l (off w) = off w

  then : {A B : Type 0} {low : ℕ} (lower : ℕ) (r : Read A) (f : A → ℕ → List ℕ → Read B) → Placed low r
      → ((x : A) (to : ℕ) (rest : List ℕ) → to + length rest ≡ length bytes → low ≤ to → Placed lower (f x to rest)) → Placed lower (next r f)
  unfolding next
  then lower (got x to rest) f (on e h) k = k x to rest e h
  then lower (bad r) f (off w) k = off w

  -- A refusal at the byte before the offset that a reader has come to.
  last : {A : Type 0} {low : ℕ} {r : Read A} (t : Bool) (refusal : ℕ → Refusal) (to : ℕ) (rest : List ℕ)
      → ((at : ℕ) → at < length bytes → NumberRefusal (refusal at)) → to + length rest ≡ length bytes → 1 ≤ to
      → Placed low r → Placed low (judged t refusal to r)
  unfolding judged
  last t refusal to rest w e h k = either t k (off (w (to - 1) (omega arith)))

  groups_placed : (x : List ℕ) (k acc at : ℕ) → at + length x ≡ length bytes → Placed (at + 1) (groups_from k acc at x)
  unfolding groups_from closed
  groups_placed [] k acc at e = off (early_at at (omega arith))
  groups_placed (b ∷ x) k acc at e =
      either (ltb b group)
      (either (eqb b 0)
      (either (eqb k 0) (on (omega arith) (omega arith)) (off (unshortened_at at (omega arith))))
      (on (omega arith) (omega arith)))
      (either (leb 8 k) (off (over_at at (omega arith)))
      (later (at + 1) (omega arith) (groups_placed x (k + 1) (acc + (b - group) * group ^ k) (at + 1) (omega arith))))

  number_placed : (at : ℕ) (x : List ℕ) → at + length x ≡ length bytes → Placed 1 (number at x)
  unfolding number
  number_placed at x e = later 1 (omega arith) (groups_placed x 0 0 at e)

  a_placed : (s : Tally) (at : ℕ) (x : List ℕ) → at + length x ≡ length bytes → Placed 1 (read_a s at x)
  unfolding read_a
  a_placed s at x e =
      then 1 (number at x) _ (number_placed at x e) (λ v to rest p h.
      last (a_fits (unfolded v)) OverLimit to rest over_at p h
      (last (total_fits s (unfolded v)) TotalOverLimit to rest total_at p h (on p h)))

  b_placed : (at : ℕ) (x : List ℕ) → at + length x ≡ length bytes → Placed 1 (read_b at x)
  unfolding read_b
  b_placed at x e = then 1 (number at x) _ (number_placed at x e) (λ v to rest p h. last (b_fits v) OverLimit to rest over_at p h (on p h))

  c_placed : (f : ℕ) (s : Tally) (a : ℤ) (b at : ℕ) (x : List ℕ) → at + length x ≡ length bytes → Placed 1 (read_c f s a b at x)
  unfolding read_c
  c_placed f s a b at x e =
      then 1 (number at x) _ (number_placed at x e) (λ v to rest p h.
      last (c_fits (unfolded v)) OverLimit to rest over_at p h
      (last (coarse_fits f s a b (unfolded v)) TooCoarse to rest coarse_at p h (on p h)))

  term_placed : (f : ℕ) (s : Tally) (at : ℕ) (x : List ℕ) → at + length x ≡ length bytes → Placed 1 (read_term f s at x)
  unfolding read_term
  term_placed f s at x e =
      then 1 (read_a s at x) _ (a_placed s at x e) (λ a to rest p h.
      then 1 (read_b to rest) _ (b_placed to rest p) (λ b to rest p h.
      then 1 (read_c f s a b to rest) _ (c_placed f s a b to rest p) (λ c to rest p h. on p h)))

  terms_placed : (n f : ℕ) (s : Tally) (at : ℕ) (x : List ℕ) → at + length x ≡ length bytes → Placed 0 (read_terms n f s at x)
  unfolding read_terms
  terms_placed zero f s at x e = on e (omega arith)
  terms_placed (suc n) f s at x e =
      then 0 (read_term f s at x) _ (term_placed f s at x e) (λ t to rest p h.
      then 0 (read_terms n f (added f s t) to rest) _ (terms_placed n f (added f s t) to rest p) (λ ts to rest p h. on p h))

  block_placed : (k : ℕ) (s : Tally) (at : ℕ) (x : List ℕ) → at + length x ≡ length bytes → Placed 0 (read_block k s at x)
  unfolding read_block
  block_placed k s at x e =
      then 0 (number at x) _ (number_placed at x e) (λ n to rest p h.
      last (count_fits s n) OverLimit to rest over_at p h (terms_placed n (factor k) (opened k n s) to rest p))

  blocks_placed : (n k : ℕ) (s : Tally) (at : ℕ) (x : List ℕ) → at + length x ≡ length bytes → Placed 0 (read_blocks n k s at x)
  unfolding read_blocks
  blocks_placed zero k s at x e = on e (omega arith)
  blocks_placed (suc n) k s at x e =
      then 0 (read_block k s at x) _ (block_placed k s at x e) (λ ts to rest p h.
      then 0 (read_blocks n (k + 1) (after_block k s ts) to rest) _ (blocks_placed n (k + 1) (after_block k s ts) to rest p) (λ bs to rest p h. on p h))

  pub series_placed : Placed 0 (read_series 0 bytes)
  unfolding read_series
  series_placed = blocks_placed block_count 0 no_tally 0 bytes (omega arith)
