-- A block: each case of its count, and what holds of the tally after its terms. Assumes nothing.
use mathlib.Core.Path.{◌≡◌, refl, sym, ap, subst}
use mathlib.Core.Bool.{true, false}
use mathlib.Core.List.{List, [], ◌∷◌}
use Prim.Native.Nat.{ℕ, zero, suc, ◌+◌, ◌-◌, ◌≤◌}
use native.Mathlib.Nat.{le_refl}
use native.Mathlib.Omega.{arith}
use lib.ListN.{length, drop}
use Rattle.units.specs.declared.Refusal.{Refusal}
use Rattle.units.specs.declared.Refusal.TheVariants.{OverLimit}
use Rattle.packed_numbers.specs.Numbers.{Read, got, bad, next, number}
use Rattle.packed_numbers.proofs.Reading.{After, moved, later, next_after, number_after}
use Rattle.units.specs.Units.{series_limit}
use Rattle.limits.specs.declared.Term.{Term}
use Rattle.limits.specs.declared.Tally.{Tally}
use Rattle.limits.specs.Limits.{factor, opened, added, summed, after_block, count_fits}
use Rattle.limits.proofs.Passing.{count_passed, good_of}
use Rattle.limits.proofs.Terms.{summed_terms, GoodTerms, good_none, good_term}
use Rattle.limits.proofs.Series.{GoodBlock, GoodBlocks, none, more}
use Rattle.packed.specs.Series.{judged, read_term, read_terms, read_block, read_blocks}
use Rattle.packed_numbers.specs.Machine.Answers.{shown}
use Rattle.packed.proofs.ReadCases.{judged_after, term_after}
use Rattle.packed.proofs.Accepting.{next_got, judged_got, term_accepted}

-- The count of a block.
module _ (k : ℕ) (s : Tally) (at : ℕ) (x : List ℕ) where
  pub block_bad : (q : Refusal) → number at x ≡ bad q → read_block k s at x ≡ bad q
  unfolding read_block next
  block_bad q e = rw e

  module _ (n to : ℕ) (rest : List ℕ) (e : number at x ≡ got n to rest) where
    pub block_over : count_fits s n ≡ false → read_block k s at x ≡ bad (OverLimit (to - 1))
    unfolding read_block next judged
    block_over h = rw (e, h)

    pub block_got : count_fits s n ≡ true → read_block k s at x ≡ read_terms n (factor k) (opened k n s) to rest
    unfolding read_block next judged
    block_got h = rw (e, h)

-- Where the readers of terms and blocks come to.
pub terms_after : (s : List ℕ) (n f : ℕ) (tally : Tally) (at : ℕ) → After s at (read_terms n f tally at (drop at s))
unfolding read_terms
terms_after s zero f tally at = moved refl (le_refl at)
terms_after s (suc n) f tally at =
    next_after (read_term f tally at (drop at s)) _ (later at (up at) (term_after s f tally at)) (λ t to.
    next_after (read_terms n f (added f tally t) to (drop to s)) _ (terms_after s n f (added f tally t) to) (λ ts to. moved refl (le_refl to)))
  where
    up : (n : ℕ) → n ≤ n + 1
    up n = omega arith

pub block_after : (s : List ℕ) (k : ℕ) (tally : Tally) (at : ℕ) → After s at (read_block k tally at (drop at s))
unfolding read_block
block_after s k tally at =
    later at (up at)
    (next_after (number at (drop at s)) _ (number_after s at) (λ n to.
    judged_after (count_fits tally n) OverLimit to (terms_after s n (factor k) (opened k n tally) to)))
  where
    up : (n : ℕ) → n ≤ n + 1
    up n = omega arith

-- The terms that were read, one after the other.
pub data TermsAt (f : ℕ) : ℕ → Tally → ℕ → List ℕ → List Term → ℕ → List ℕ → Type 0 where
  no_terms : {s : Tally} {at : ℕ} {x : List ℕ} → TermsAt f 0 s at x [] at x
  a_term : {n : ℕ} {s : Tally} {at : ℕ} {x : List ℕ} {t : Term} {mid : ℕ} {y : List ℕ} {ts : List Term} {to : ℕ} {rest : List ℕ}
      → read_term f s at x ≡ got t mid y → TermsAt f n (added f s t) mid y ts to rest → TermsAt f (suc n) s at x (t ∷ ts) to rest

carry : {f n : ℕ} {s : Tally} {at : ℕ} {x : List ℕ} {y ts : List Term} {i to : ℕ} {l rest : List ℕ} → got y i l ≡ got ts to rest
    → TermsAt f n s at x y i l → TermsAt f n s at x ts to rest
carry {y = y} {ts = ts} {i = i} {to = to} {l = l} {rest = rest} e h =
    let p : y ≡ ts = cc in
    let q : i ≡ to = cc in
    let r : l ≡ rest = cc in
    rw (p, q, r) at h

pub terms_accepted : (n f : ℕ) (s : Tally) (at : ℕ) (x : List ℕ) (ts : List Term) (to : ℕ) (rest : List ℕ) → read_terms n f s at x ≡ got ts to rest
    → TermsAt f n s at x ts to rest
unfolding read_terms
terms_accepted zero f s at x ts to rest e = carry e no_terms
terms_accepted (suc n) f s at x ts to rest e =
    let a = next_got (read_term f s at x) _ e in
    let b = next_got (read_terms n f (added f s a.x) a.at a.rest) _ a.second in
    carry b.second (a_term a.first (terms_accepted n f (added f s a.x) a.at a.rest b.x b.at b.rest b.first))

pub terms_length : {f n : ℕ} {s : Tally} {at : ℕ} {x : List ℕ} {ts : List Term} {to : ℕ} {rest : List ℕ} → TermsAt f n s at x ts to rest → length ts ≡ n
terms_length no_terms = refl
terms_length (a_term e h) = ap suc (terms_length h)

-- They are good, one by one.
pub terms_are_good : {f n : ℕ} {s : Tally} {at : ℕ} {x : List ℕ} {ts : List Term} {to : ℕ} {rest : List ℕ} → TermsAt f n s at x ts to rest → GoodTerms f s ts
terms_are_good no_terms = good_none
terms_are_good {f} {s = s} {at = at} {x = x} (a_term e h) = good_term (good_of f s _ (term_accepted f s at x e).passes) (terms_are_good h)

-- A block that was read: its count and its terms.
pub record BlockAt (k : ℕ) (s : Tally) (at : ℕ) (x : List ℕ) (ts : List Term) (to : ℕ) (rest : List ℕ) : Type 0 where
  pub at_terms : ℕ
  pub from_terms : List ℕ
  pub count : number at x ≡ got (length ts) at_terms from_terms
  pub fits : count_fits s (length ts) ≡ true
  pub terms : TermsAt (factor k) (length ts) (opened k (length ts) s) at_terms from_terms ts to rest

pub block_accepted : (k : ℕ) (s : Tally) (at : ℕ) (x : List ℕ) (ts : List Term) (to : ℕ) (rest : List ℕ)
    → read_block k s at x ≡ got ts to rest → BlockAt k s at x ts to rest
unfolding read_block
block_accepted k s at x ts to rest e =
    let a = next_got (number at x) _ e in
    let n = a.x in
    let p = judged_got (count_fits s n) OverLimit a.at _ a.second in
    let h = terms_accepted n (factor k) (opened k n s) a.at a.rest ts to rest p.is in
    let l : length ts ≡ n = terms_length h in
    record {
      at_terms = a.at;
      from_terms = a.rest;
      count = rw l a.first;
      fits = rw l p.passed;
      terms = rw l h;
    }

pub block_is_good : (k : ℕ) (s : Tally) (at : ℕ) (x : List ℕ) (ts : List Term) (to : ℕ) (rest : List ℕ) → BlockAt k s at x ts to rest → GoodBlock k s ts
block_is_good k s at x ts to rest b =
    let c = count_passed s (length ts) b.fits in record { few = c.few; fewer = c.fewer; terms = terms_are_good b.terms }

-- The terms so far, after a block.
pub record AfterBlock (k : ℕ) (s : Tally) (ts : List Term) : Type 0 where
  pub terms : (after_block k s ts).terms ≡ s.terms + length ts
  pub few : (after_block k s ts).terms ≤ series_limit

pub block_sums : (k : ℕ) (s : Tally) (ts : List Term) → count_fits s (length ts) ≡ true → AfterBlock k s ts
unfolding after_block opened
block_sums k s ts h =
    let e : (after_block k s ts).terms ≡ s.terms + length ts = summed_terms (factor k) (opened k (length ts) s) ts in
    record { terms = e; few = rw e (count_passed s (length ts) h).fewer }

-- The answer of a walk over n terms is that of the walk over the block.
pub walked_block : (k n : ℕ) (s : Tally) (at : ℕ) (x : List ℕ)
    → shown (summed (factor k) (opened k n s)) (read_terms n (factor k) (opened k n s) at x)
    ≡ shown (after_block k s) (read_terms n (factor k) (opened k n s) at x)
unfolding shown after_block
walked_block k n s at x =
    go (read_terms n (factor k) (opened k n s) at x)
    (λ ts to rest e. terms_length (terms_accepted n (factor k) (opened k n s) at x ts to rest e))
  where
    go : (r : Read (List Term)) → ((ts : List Term) (to : ℕ) (rest : List ℕ) → r ≡ got ts to rest → length ts ≡ n)
        → shown (summed (factor k) (opened k n s)) r ≡ shown (after_block k s) r
    go (got ts to rest) h = rw (h ts to rest refl)
    go (bad q) h = refl

-- The terms with a count that fits.
pub record Ready (s r : Tally) : Type 0 where
  pub from : s.terms ≤ r.terms
  pub few : r.terms ≤ series_limit

pub opened_ready : (k n : ℕ) (s r : Tally) → r ≡ opened k n s → count_fits s n ≡ true → Ready s r
unfolding opened
opened_ready k n s r e h = rw e (record { from = omega arith; few = (count_passed s n h).fewer })

-- The walk over the terms of a block, with the block's count, factor and tally, is the walk over the block.
pub block_read : (k n f to : ℕ) (s r : Tally) (x : List ℕ) {b : Read (List Term)} → f ≡ factor k → r ≡ opened k n s
    → b ≡ read_terms n (factor k) (opened k n s) to x → read_terms (r.terms - s.terms) f r to x ≡ b
unfolding opened
block_read k n f to s r x ef er eb =
    let m : s.terms + n - s.terms ≡ n = omega arith in
    rw (ef, er, m) (sym eb)

pub block_walked : (k n f to : ℕ) (s r : Tally) (x : List ℕ) {b : Read (List Term)} → f ≡ factor k → r ≡ opened k n s
    → b ≡ read_terms n (factor k) (opened k n s) to x → shown (summed f r) (read_terms (r.terms - s.terms) f r to x) ≡ shown (after_block k s) b
block_walked k n f to s r x {b} ef er eb =
    rw (block_read k n f to s r x ef er eb, ef, er, eb) (walked_block k n s to x)

-- Blocks that were read are good, one by one.
pub record BlocksAre (n k : ℕ) (s : Tally) (bs : List (List Term)) : Type 0 where
  pub many : length bs ≡ n
  pub good : GoodBlocks k s bs

pub blocks_are_good : (n k : ℕ) (s : Tally) (at : ℕ) (x : List ℕ) (bs : List (List Term)) (to : ℕ) (rest : List ℕ)
    → read_blocks n k s at x ≡ got bs to rest → BlocksAre n k s bs
unfolding read_blocks
blocks_are_good zero k s at x bs to rest e = let p : [] ≡ bs = cc in rw p at (none_are k s)
  where
    none_are : (k : ℕ) (s : Tally) → BlocksAre 0 k s []
    none_are k s = record { many = refl; good = none }
blocks_are_good (suc n) k s at x bs to rest e =
    let u = next_got (read_block k s at x) _ e in
    let v = next_got (read_blocks n (k + 1) (after_block k s u.x) u.at u.rest) _ u.second in
    let b = block_accepted k s at x u.x u.at u.rest u.first in
    let i = blocks_are_good n (k + 1) (after_block k s u.x) u.at u.rest v.x v.at v.rest v.first in
    let p : (u.x ∷ v.x) ≡ bs = same v.second in
    subst (BlocksAre (suc n) k s) p
    (record { many = ap suc i.many; good = more (block_is_good k s at x u.x u.at u.rest b) i.good })
  where
    same : {y z : List (List Term)} {i j : ℕ} {l m : List ℕ} → got y i l ≡ got z j m → y ≡ z
    same h = cc
