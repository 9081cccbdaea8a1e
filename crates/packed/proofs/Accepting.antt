-- What holds of the numbers that a reader has accepted. Assumes nothing.
use mathlib.Core.Path.{◌≡◌, refl, sym, ap, ◌∙◌, subst}
use mathlib.Core.Bool.{Bool, true, false}
use mathlib.Core.List.{List}
use Prim.Native.Nat.{ℕ}
use native.Mathlib.Omega.{arith}
use lib.IntN.{ℤ}
use Rattle.units.specs.declared.Refusal.{Refusal}
use Rattle.units.specs.declared.Refusal.TheVariants.{OverLimit, TotalOverLimit, TooCoarse}
use Rattle.packed_numbers.specs.Numbers.{Read, got, bad, next, number, folded, unfolded}
use Rattle.packed_numbers.specs.Machine.Answers.{shown, plain}
use Rattle.packed_numbers.proofs.Folding.{folded_unfolded, unfolded_folded}
use Rattle.packed_numbers.proofs.Reading.{After, Got, got_shown}
use Rattle.limits.specs.declared.Term.{Term}
use Rattle.limits.specs.declared.Sizes.{Sizes}
use Rattle.limits.specs.declared.Tally.{Tally}
use Rattle.limits.specs.Limits.{a_fits, b_fits, c_fits, total_fits, coarse_fits, term_may_come, added}
use Rattle.limits.specs.Machine.Magnitudes.{unsigned}
use Rattle.limits.proofs.Magnitudes.{may_come_size, added_size}
use Rattle.limits.proofs.Passing.{Passes}
use Rattle.packed.specs.Series.{judged, read_a, read_b, read_c, read_term}
use Rattle.packed.specs.Machine.Answers.{packed_term, packed_sizes, term_of}
use Rattle.std.proofs.Common.{Ok}
use Rattle.packed_numbers.specs.declared.Found.{Found}
use Rattle.packed_numbers.specs.declared.quick.PackedTerm.{PackedTerm}
use Rattle.packed.proofs.ReadCases.{a_got, b_got, c_got}

-- Two readers, one after the other.
pub record Twice {A B : Type 0} (r : Read A) (f : A → ℕ → List ℕ → Read B) (z : Read B) : Type 0 where
  pub x : A
  pub at : ℕ
  pub rest : List ℕ
  pub first : r ≡ got x at rest
  pub second : f x at rest ≡ z

pub next_got : {A B : Type 0} {y : B} {to : ℕ} {left : List ℕ} (r : Read A) (f : A → ℕ → List ℕ → Read B) → next r f ≡ got y to left → Twice r f (got y to left)
unfolding next
next_got (got x at rest) f e = record { x = x; at = at; rest = rest; first = refl; second = e }
next_got (bad q) f e = let z : ◌≡◌ {A = ℕ} 0 1 = cc in absurd (omega arith)

pub record Passed {A : Type 0} (t : Bool) (r z : Read A) : Type 0 where
  pub passed : t ≡ true
  pub is : r ≡ z

pub judged_got : {A : Type 0} {y : A} {to : ℕ} {left : List ℕ} (t : Bool) (refusal : ℕ → Refusal) (end : ℕ) (r : Read A)
    → judged t refusal end r ≡ got y to left → Passed t r (got y to left)
unfolding judged
judged_got true refusal end r e = record { passed = refl; is = e }
judged_got false refusal end r e = let z : ◌≡◌ {A = ℕ} 0 1 = cc in absurd (omega arith)

same : {A : Type 0} {y z : A} {i j : ℕ} {l m : List ℕ} → got y i l ≡ got z j m → y ≡ z
same h = cc

-- A number that stands for y was read, and then y was answered at the same place.
read_as : {A : Type 0} {y : A} {i j : ℕ} {l m : List ℕ} (h : A → ℕ) (g : ℕ → A) (v at : ℕ) (x : List ℕ) → ((n : ℕ) → h (g n) ≡ n)
    → number at x ≡ got v i l → got (g v) i l ≡ got y j m → number at x ≡ got (h y) j m
read_as {y = y} {i = i} {j = j} {l = l} {m = m} h g v at x k e q =
    let p : g v ≡ y = same q in
    let w : v ≡ h y = sym (k v) ∙ ap h p in
    let u : i ≡ j = cc in
    let t : l ≡ m = cc in
    rw (w, u, t) at e

-- A number that was read, and what holds of its value.
pub record Accepted (P : Type 0) (at : ℕ) (x : List ℕ) (v to : ℕ) (rest : List ℕ) : Type 0 where
  pub read : number at x ≡ got v to rest
  pub good : P

-- The tests that a and c pass.
pub record PassedA (s : Tally) (a : ℤ) : Type 0 where
  pub fits : a_fits a ≡ true
  pub total : total_fits s a ≡ true

record PassedC (f : ℕ) (s : Tally) (a : ℤ) (b : ℕ) (c : ℤ) : Type 0 where
  fits : c_fits c ≡ true
  coarse : coarse_fits f s a b c ≡ true

pub a_accepted : (s : Tally) (at : ℕ) (x : List ℕ) {a : ℤ} {to : ℕ} {rest : List ℕ}
    → read_a s at x ≡ got a to rest → Accepted (PassedA s a) at x (folded a) to rest
unfolding read_a
a_accepted s at x {a} e =
    let n = next_got (number at x) _ e in
    let v = n.x in
    let p = judged_got (a_fits (unfolded v)) OverLimit n.at _ n.second in
    let q = judged_got (total_fits s (unfolded v)) TotalOverLimit n.at _ p.is in
    let i : unfolded v ≡ a = same q.is in
    record {
      read = read_as folded unfolded v at x folded_unfolded n.first q.is;
      good = record { fits = rw i at p.passed; total = rw i at q.passed };
    }

b_accepted : (at : ℕ) (x : List ℕ) {b to : ℕ} {rest : List ℕ} → read_b at x ≡ got b to rest → Accepted (b_fits b ≡ true) at x b to rest
unfolding read_b
b_accepted at x {b} e =
    let n = next_got (number at x) _ e in
    let v = n.x in
    let p = judged_got (b_fits v) OverLimit n.at _ n.second in
    let i : v ≡ b = same p.is in
    record { read = read_as plain plain v at x (λ n. refl) n.first p.is; good = rw i at p.passed }

c_accepted : (f : ℕ) (s : Tally) (a : ℤ) (b at : ℕ) (x : List ℕ) {c : ℤ} {to : ℕ} {rest : List ℕ}
    → read_c f s a b at x ≡ got c to rest → Accepted (PassedC f s a b c) at x (folded c) to rest
unfolding read_c
c_accepted f s a b at x {c} e =
    let n = next_got (number at x) _ e in
    let v = n.x in
    let p = judged_got (c_fits (unfolded v)) OverLimit n.at _ n.second in
    let q = judged_got (coarse_fits f s a b (unfolded v)) TooCoarse n.at _ p.is in
    let i : unfolded v ≡ c = same q.is in
    record {
      read = read_as folded unfolded v at x folded_unfolded n.first q.is;
      good = record { fits = rw i at p.passed; coarse = rw i at q.passed };
    }

abbrev whole : ℤ → ℕ → ℤ → Term
whole a b c = record { a = a; b = b; c = c }

-- A term that was read: its three numbers, and that it is within the limits.
pub record TermAt (f : ℕ) (s : Tally) (at : ℕ) (x : List ℕ) (t : Term) (to : ℕ) (rest : List ℕ) : Type 0 where
  pub at_b : ℕ
  pub from_b : List ℕ
  pub at_c : ℕ
  pub from_c : List ℕ
  pub number_a : number at x ≡ got (folded t.a) at_b from_b
  pub number_b : number at_b from_b ≡ got t.b at_c from_c
  pub number_c : number at_c from_c ≡ got (folded t.c) to rest
  pub passes : Passes f s t

pub term_accepted : (f : ℕ) (s : Tally) (at : ℕ) (x : List ℕ) {t : Term} {to : ℕ} {rest : List ℕ} → read_term f s at x ≡ got t to rest
    → TermAt f s at x t to rest
unfolding read_term
term_accepted f s at x {t} {to} {rest} e =
    let ra = next_got (read_a s at x) _ e in
    let rb = next_got (read_b ra.at ra.rest) _ ra.second in
    let rc = next_got (read_c f s ra.x rb.x rb.at rb.rest) _ rb.second in
    let i : whole ra.x rb.x rc.x ≡ t = same rc.second in
    let m : rc.at ≡ to = at_of rc.second in
    let l : rc.rest ≡ rest = rest_of rc.second in
    let pa = a_accepted s at x ra.first in
    let pb = b_accepted ra.at ra.rest rb.first in
    let pc = c_accepted f s ra.x rb.x rb.at rb.rest rc.first in
    subst (λ (t : Term). TermAt f s at x t to rest) i
    (record {
      at_b = ra.at;
      from_b = ra.rest;
      at_c = rb.at;
      from_c = rb.rest;
      number_a = pa.read;
      number_b = pb.read;
      number_c = rw (m, l) at pc.read;
      passes =
          record {
            a = pa.good.fits;
            total = pa.good.total;
            b = pb.good;
            c = pc.good.fits;
            coarse = pc.good.coarse;
          };
    })
  where
    at_of : {y z : Term} {i j : ℕ} {l m : List ℕ} → got y i l ≡ got z j m → i ≡ j
    at_of h = cc

    rest_of : {y z : Term} {i j : ℕ} {l m : List ℕ} → got y i l ≡ got z j m → l ≡ m
    rest_of h = cc

-- And back: three numbers within the limits are read as a term.
pub term_made : (f : ℕ) (s : Tally) (at : ℕ) (x : List ℕ) (t : Term) (to : ℕ) (rest : List ℕ)
    → TermAt f s at x t to rest → read_term f s at x ≡ got t to rest
unfolding read_term next
term_made f s at x t to rest h =
    let p = h.passes in
    let ea : unfolded (folded t.a) ≡ t.a = unfolded_folded t.a in
    let ec : unfolded (folded t.c) ≡ t.c = unfolded_folded t.c in
    let ra : read_a s at x ≡ got t.a h.at_b h.from_b =
    rw ea at (a_got s at x _ _ _ h.number_a (rw ea p.a) (rw ea p.total)) in
    let rb : read_b h.at_b h.from_b ≡ got t.b h.at_c h.from_c = b_got _ _ _ _ _ h.number_b p.b in
    let rc : read_c f s t.a t.b h.at_c h.from_c ≡ got t.c to rest =
    rw ec at (c_got f s t.a t.b h.at_c h.from_c _ _ _ h.number_c (rw ec p.c) (rw ec p.coarse)) in
    rw (ra, rb, rc)

-- What was read, from the answer that found it.
pub term_packed : (t : Term) → term_of (packed_term t).a (packed_term t).b (packed_term t).c ≡ t
term_packed t = rw (unfolded_folded t.a, unfolded_folded t.c)

pub was_found : {s : List ℕ} {low : ℕ} {r : Read Term} (n : Found PackedTerm) → After s low r → shown packed_term r ≡ Ok n
    → Got s low r (term_of n.value.a n.value.b n.value.c) n.next
was_found n h e = got_shown packed_term (λ (p : PackedTerm). term_of p.a p.b p.c) term_packed n h e

-- The answer, from what was read.
pub packed_back : (p : PackedTerm) → p ≡ packed_term (term_of p.a p.b p.c)
packed_back p = rw (folded_unfolded p.a, folded_unfolded p.c)

-- What the limits say of its sizes they say of the term.
module _ (f : ℕ) (s : Tally) (p : PackedTerm) (z : Sizes) (e : z ≡ packed_sizes p) where
  pub packed_may_come : term_may_come f s (unsigned z.a z.b z.c) ≡ term_may_come f s (term_of p.a p.b p.c)
  packed_may_come = rw e (may_come_size f s (term_of p.a p.b p.c) refl refl)

  pub packed_added : added f s (unsigned z.a z.b z.c) ≡ added f s (term_of p.a p.b p.c)
  packed_added = rw e (added_size f s (term_of p.a p.b p.c) refl refl)
