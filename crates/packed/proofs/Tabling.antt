-- A table whose terms begin with those of the blocks holds the blocks. Assumes nothing.
use mathlib.Core.Path.{◌≡◌, refl, sym, ap, ◌∙◌}
use mathlib.Core.List.{List, [], ◌∷◌, ◌++◌, map, append_assoc, append-nil}
use Prim.Native.Nat.{ℕ, zero, suc, ◌+◌, ◌-◌, ◌≤◌}
use native.Mathlib.Numerals.{add-one}
use native.Mathlib.Omega.{arith}
use lib.ListN.{length, get_or, take, drop, take-append-drop, length-append, length-map}
use lib.Seq.{sets, sets-eq, take_at, length-take-le}
use Rattle.packed_numbers.specs.declared.quick.PackedTerm.{PackedTerm}
use Rattle.packed_numbers.proofs.Folding.{unfolded_folded}
use Rattle.limits.specs.declared.Term.{Term}
use Rattle.limits.specs.declared.Tally.{Tally}
use Rattle.limits.specs.Limits.{after_block}
use Rattle.limits.specs.Allowed.{term_count}
use Rattle.packed.specs.declared.table.Table.{Table}
use Rattle.packed.specs.Machine.Table.{term_at, terms_at, blocks_at, ends, block_ends, table_blocks}
use Rattle.packed.specs.Machine.Tallies.{tally_rows}
use Rattle.packed.specs.Machine.Answers.{packed_term}

-- All terms as they are packed, in order.
unfoldable pub all_rows : List (List Term) → List PackedTerm
all_rows [] = []
all_rows (ts ∷ blocks) = map packed_term ts ++ all_rows blocks

pub rows_more : (done : List (List Term)) (ts : List Term) → all_rows (done ++ ts ∷ []) ≡ all_rows done ++ map packed_term ts
unfolding all_rows
rows_more [] ts = append-nil (map packed_term ts)
rows_more (x ∷ done) ts = rw (rows_more done ts) (sym (append_assoc (map packed_term x) (all_rows done) (map packed_term ts)))

pub count_more : (done : List (List Term)) (ts : List Term) → term_count (done ++ ts ∷ []) ≡ term_count done + length ts
unfolding term_count
count_more [] ts = omega arith
count_more (x ∷ done) ts = rw (count_more done ts) (omega arith)

pub ends_more : (k : ℕ) (done : List (List Term)) (ts : List Term)
    → block_ends k (done ++ ts ∷ []) ≡ block_ends k done ++ (k + term_count done + length ts) ∷ []
unfolding block_ends term_count
ends_more k [] ts = ap (λ (n : ℕ). n ∷ []) (omega arith)
ends_more k (x ∷ done) ts =
    rw (ends_more (k + length x) done ts) (ap (λ (n : ℕ). (k + length x) ∷ (block_ends (k + length x) done ++ n ∷ [])) (omega arith))

-- The tally after blocks, the first of which is block k after the tally s; and after one more.
unfoldable pub tally_upto : ℕ → Tally → List (List Term) → Tally
tally_upto k s [] = s
tally_upto k s (ts ∷ blocks) = tally_upto (k + 1) (after_block k s ts) blocks

pub upto_more : (k : ℕ) (s : Tally) (done : List (List Term)) (ts : List Term)
    → tally_upto k s (done ++ ts ∷ []) ≡ after_block (k + length done) (tally_upto k s done) ts
unfolding tally_upto
upto_more k s [] ts = let e : k + 0 ≡ k = omega arith in rw e
upto_more k s (x ∷ done) ts = let e : k + 1 + length done ≡ k + suc (length done) = omega arith in rw (← e) (upto_more (k + 1) (after_block k s x) done ts)

pub tallies_more : (k : ℕ) (s : Tally) (done : List (List Term)) (ts : List Term)
    → tally_rows k s (done ++ ts ∷ []) ≡ tally_rows k s done ++ after_block (k + length done) (tally_upto k s done) ts ∷ []
unfolding tally_rows tally_upto
tallies_more k s [] ts = let e : k + 0 ≡ k = omega arith in rw e
tallies_more k s (x ∷ done) ts =
    let e : k + 1 + length done ≡ k + suc (length done) = omega arith in
    rw (← e) (ap (λ (l : List Tally). after_block k s x ∷ l) (tallies_more (k + 1) (after_block k s x) done ts))

-- A list that goes on from place k with an element, and one that goes on with a list.
pub head_is : {X : Type 0} (k : ℕ) (l : List X) (x d : X) (m : List X) → drop k l ≡ x ∷ m → get_or l k d ≡ x
head_is zero [] x d m e = let z : ◌≡◌ {A = ℕ} 0 1 = cc in absurd (omega arith)
head_is zero (y ∷ l) x d m e = cc
head_is (suc k) [] x d m e = let z : ◌≡◌ {A = ℕ} 0 1 = cc in absurd (omega arith)
head_is (suc k) (y ∷ l) x d m e = head_is k l x d m e

tail_is : {X : Type 0} (k : ℕ) (l : List X) (x : X) (m : List X) → drop k l ≡ x ∷ m → drop (suc k) l ≡ m
tail_is zero [] x m e = let z : ◌≡◌ {A = ℕ} 0 1 = cc in absurd (omega arith)
tail_is zero (y ∷ l) x m e = cc
tail_is (suc k) [] x m e = let z : ◌≡◌ {A = ℕ} 0 1 = cc in absurd (omega arith)
tail_is (suc k) (y ∷ l) x m e = tail_is k l x m e

pub tail_one : {X : Type 0} (k : ℕ) (l : List X) (x : X) (m : List X) → drop k l ≡ x ∷ m → drop (k + 1) l ≡ m
tail_one k l x m e = rw add-one (tail_is k l x m e)

past : (k : ℕ) (rows : List PackedTerm) (ts : List Term) (q : List PackedTerm) → drop k rows ≡ map packed_term ts ++ q → drop (k + length ts) rows ≡ q
past k rows [] q e = let z : k + 0 ≡ k = omega arith in rw z e
past k rows (t ∷ ts) q e =
    let z : k + suc (length ts) ≡ k + 1 + length ts = omega arith in
    rw z (past (k + 1) rows ts q (tail_one k rows (packed_term t) (map packed_term ts ++ q) e))

module _ (rows : Table) where
  terms_law : (ts : List Term) (k : ℕ) (q : List PackedTerm) → drop k rows.terms ≡ map packed_term ts ++ q → terms_at rows k (length ts) ≡ ts
  unfolding terms_at term_at
  terms_law [] k q e = refl
  terms_law (t ∷ ts) k q e =
      rw (head_is k rows.terms (packed_term t) (record { a = 0; b = 0; c = 0 }) _ e, unfolded_folded t.a, unfolded_folded t.c)
      (ap (λ (l : List Term). t ∷ l) (terms_law ts (k + 1) q (tail_one k rows.terms (packed_term t) _ e)))

  blocks_law : (blocks : List (List Term)) (k : ℕ) (q : List PackedTerm) → drop k rows.terms ≡ all_rows blocks ++ q
      → blocks_at rows k (block_ends k blocks) ≡ blocks
  unfolding blocks_at block_ends all_rows
  blocks_law [] k q e = refl
  blocks_law (ts ∷ blocks) k q e =
      let f = e ∙ append_assoc (map packed_term ts) (all_rows blocks) q in
      let n : k + length ts - k ≡ length ts = omega arith in
      rw (n, terms_law ts k _ f) (ap (λ (l : List (List Term)). ts ∷ l) (blocks_law blocks (k + length ts) q (past k rows.terms ts _ f)))

  pub table_law : (blocks : List (List Term)) (n : ℕ) → take n rows.terms ≡ all_rows blocks → ends rows ≡ block_ends 0 blocks → table_blocks rows ≡ blocks
  unfolding table_blocks
  table_law blocks n e p =
      ap (λ (es : List ℕ). blocks_at rows 0 es) p ∙ blocks_law blocks 0 (drop n rows.terms) (rw (← e) (sym (take-append-drop n rows.terms)))

-- A block's terms are stored: the terms so far have one block more.
pub rows_stored : (rows : List PackedTerm) (k : ℕ) (ts : List Term) → k + length ts ≤ length rows
    → take (k + length ts) (sets rows k (map packed_term ts)) ≡ take k rows ++ map packed_term ts
rows_stored rows k ts h =
    let n : length (map packed_term ts) ≡ length ts = length-map ts packed_term in
    let m : length (take k rows ++ map packed_term ts) ≡ k + length ts =
    rw (length-append (take k rows) (map packed_term ts), n, length-take-le k rows (omega arith)) in
    rw (sets-eq (map packed_term ts) rows k (rw n h)) (take_at (take k rows ++ map packed_term ts) _ (k + length ts) m)
