-- The walk over a block's terms: what is left, after the terms done, gives what the whole gives. Assumes nothing.
use mathlib.Core.Path.{◌≡◌, refl, sym, ap, ◌∙◌}
use mathlib.Core.List.{List, [], ◌∷◌, ◌++◌, map, append_assoc, append-nil}
use Prim.Native.Nat.{ℕ, suc, ◌+◌, ◌-◌, ◌≤◌, ◌<◌}
use native.Mathlib.Nat.{add-zero}
use native.Mathlib.Omega.{arith}
use lib.ListN.{length, drop, set, length-append}
use lib.Seq.{sets}
use Rattle.units.specs.declared.Refusal.{Refusal}
use Rattle.packed_numbers.specs.declared.quick.PackedTerm.{PackedTerm}
use Rattle.packed_numbers.specs.Numbers.{Read, got, bad, next}
use Rattle.packed_numbers.proofs.Folding.{folded_unfolded}
use Rattle.packed_numbers.proofs.Reading.{After, moved}
use Rattle.limits.specs.declared.Term.{Term}
use Rattle.limits.specs.declared.Tally.{Tally}
use Rattle.std.proofs.Common.{Ok}
use Rattle.packed_numbers.specs.declared.Found.{Found}
use Rattle.packed_numbers.specs.Machine.Answers.{shown}
use Rattle.limits.specs.Limits.{added, summed}
use Rattle.packed.specs.Series.{read_term, read_terms}
use Rattle.packed.specs.Machine.Answers.{packed_term, term_of, stored, filled}

-- What was read, from the tally with it.
pub record Stepped {A : Type 0} (tally : A → Tally) (s : List ℕ) (r : Read A) (read : Found Tally) : Type 0 where
  pub x : A
  pub is : r ≡ got x read.next (drop read.next s)
  pub with : read.value ≡ tally x

pub stepped : {A : Type 0} {s : List ℕ} {low : ℕ} (g : A → Tally) (r : Read A) (read : Found Tally) → After s low r → Ok read ≡ shown g r
    → Stepped g s r read
unfolding shown
stepped g (got x end rest) read (moved e h) q =
    let p : read ≡ record { value = g x; next = end } = cc in
    rw p (record { x = x; is = rw e; with = refl })
stepped g (bad r) read h q = let n : ◌≡◌ {A = ℕ} 0 1 = cc in absurd (omega arith)

-- One term is stored, as it was packed.
pub store_none : (k : ℕ) (r : Read Term) (q : Refusal) (rows : List PackedTerm) → r ≡ bad q → rows ≡ stored k r rows
unfolding stored
store_none k r q rows e = rw e

pub store : (k : ℕ) (r : Read Term) (t : Term) (to : ℕ) (rest : List ℕ) (rows : List PackedTerm) → r ≡ got t to rest
    → stored k r rows ≡ set rows k (packed_term t)
unfolding stored
store k r t to rest rows e = rw e

pub store_term : (k : ℕ) (r : Read Term) (p : PackedTerm) (to : ℕ) (rest : List ℕ) (rows : List PackedTerm) → r ≡ got (term_of p.a p.b p.c) to rest
    → set rows k p ≡ stored k r rows
store_term k r p to rest rows e = rw (store k r (term_of p.a p.b p.c) to rest rows e, folded_unfolded p.a, folded_unfolded p.c)

-- Terms in front of those that a reader reads.
unfoldable pub joined : {A : Type 0} → List A → Read (List A) → Read (List A)
joined done r = next r (λ ts at rest. got (done ++ ts) at rest)

pub joined_none : {A : Type 0} (r : Read (List A)) → joined [] r ≡ r
unfolding joined next
joined_none (got ts at rest) = refl
joined_none (bad q) = refl

pub joined_more : {A : Type 0} (done : List A) (t : A) (r : Read (List A))
    → joined done (next r (λ ts at rest. got (t ∷ ts) at rest)) ≡ joined (done ++ t ∷ []) r
unfolding joined next
joined_more done t (got ts at rest) = ap (λ (l : List _). got l at rest) (sym (append_assoc done (t ∷ []) ts))
joined_more done t (bad q) = refl

summed_more : (f : ℕ) (s : Tally) (done : List Term) (t : Term) → summed f s (done ++ t ∷ []) ≡ added f (summed f s done) t
unfolding summed
summed_more f s [] t = refl
summed_more f s (x ∷ done) t = summed_more f (added f s x) done t

-- One term more after those that were stored.
put_more : (done : List Term) (t : Term) (from : ℕ) (rows : List PackedTerm)
    → set (sets rows from (map packed_term done)) (from + length done) (packed_term t) ≡ sets rows from (map packed_term (done ++ t ∷ []))
put_more [] t from rows = rw (add-zero from)
put_more (x ∷ done) t from rows =
    let e : from + suc (length done) ≡ suc from + length done = omega arith in
    rw e (put_more done t (suc from) (set rows from (packed_term x)))

-- After a refusal nothing is said.
pub filled_bad : (k : ℕ) (r : Read (List Term)) (q : Refusal) (before after : List PackedTerm) → r ≡ bad q → filled k r before after
unfolding filled
filled_bad k r q before after e = rw e tt

-- The loop's invariant, with the terms that are done.
pub record Taken (s : List ℕ) (at f from end : ℕ) (first : Tally) (rows₀ rows : List PackedTerm) (tally : Tally) (i k : ℕ) : Type 0 where
  pub done : List Term
  pub place : k ≡ from + length done
  pub bound : k ≤ end
  pub whole : read_terms (end - from) f first at (drop at s) ≡ joined done (read_terms (end - k) f tally i (drop i s))
  pub with : tally ≡ summed f first done
  pub held : rows ≡ sets rows₀ from (map packed_term done)

module _ (s : List ℕ) (at f from end : ℕ) (first : Tally) (rows₀ : List PackedTerm) where
  pub taken_none : from ≤ end → Taken s at f from end first rows₀ rows₀ first at from
  unfolding summed
  taken_none h =
      record {
        done = [];
        place = omega arith;
        bound = h;
        whole = sym (joined_none _);
        with = refl;
        held = refl;
      }

  module _ (rows : List PackedTerm) (tally : Tally) (i k : ℕ) (l : Taken s at f from end first rows₀ rows tally i k) where
    -- One term of those that are left.
    some : (n : ℕ) → k < end → n ≡ end - (k + 1) → end - k ≡ suc n
    some n h e = omega arith

    left_got : (t : Term) (to : ℕ) → k < end → read_term f tally i (drop i s) ≡ got t to (drop to s)
        → read_terms (end - from) f first at (drop at s) ≡ joined (l.done ++ t ∷ []) (read_terms (end - (k + 1)) f (added f tally t) to (drop to s))
    unfolding read_terms next
    left_got t to h e =
        l.whole ∙ rw (some (end - (k + 1)) h refl, e) (joined_more l.done t (read_terms (end - (k + 1)) f (added f tally t) to (drop to s)))

    pub taken_stop : (q : Refusal) → k < end → read_term f tally i (drop i s) ≡ bad q → read_terms (end - from) f first at (drop at s) ≡ bad q
    unfolding read_terms next joined
    taken_stop q h e = l.whole ∙ rw (some (end - (k + 1)) h refl, e)

    pub taken_last : end ≤ k → read_terms (end - from) f first at (drop at s) ≡ got l.done i (drop i s)
    unfolding read_terms next joined
    taken_last h = let z : end - k ≡ 0 = omega arith in l.whole ∙ rw z (ap (λ (d : List Term). got d i (drop i s)) (append-nil l.done))

    pub taken_more : (read : Found Tally) (rows' : List PackedTerm) → k < end → Stepped (added f tally) s (read_term f tally i (drop i s)) read
        → rows' ≡ stored k (read_term f tally i (drop i s)) rows → Taken s at f from end first rows₀ rows' read.value read.next (k + 1)
    unfolding added
    taken_more read rows' h w e =
        let t = w.x in
        let p = e ∙ store k _ t read.next _ rows w.is in
        record {
          done = l.done ++ t ∷ [];
          place = rw (length-append l.done (t ∷ [])) (omega (arith, l.place));
          bound = omega arith;
          whole = left_got t read.next h w.is ∙ rw w.with;
          with = w.with ∙ rw l.with (sym (summed_more f first l.done t));
          held = p ∙ rw (l.held, l.place) (put_more l.done t from rows₀);
        }

    -- The whole block is read, or a refusal ends it.
    pub filled_last : end ≤ k → filled from (read_terms (end - from) f first at (drop at s)) rows₀ rows
    unfolding filled
    filled_last h = rw (taken_last h) l.held

    pub filled_stop : (q : Refusal) (after : List PackedTerm) → k < end → read_term f tally i (drop i s) ≡ bad q
        → filled from (read_terms (end - from) f first at (drop at s)) rows₀ after
    filled_stop q after h e = filled_bad from _ q rows₀ after (taken_stop q h e)
