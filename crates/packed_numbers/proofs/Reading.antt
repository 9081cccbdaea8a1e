-- The offset that a reader has come to stands for the bytes from there, and what a function answers tells what was read. Assumes nothing.
use mathlib.Core.Path.{◌≡◌, refl, sym, ap, ◌∙◌}
use mathlib.Core.Bool.{Bool, true, false, cond}
use mathlib.Core.List.{List, [], ◌∷◌}
use Prim.Native.Nat.{ℕ, zero, suc, ◌+◌, ◌*◌, ◌-◌, ◌^◌, ◌≤◌}
use native.Mathlib.Nat.{le_trans}
use native.Mathlib.Numerals.{add-one}
use native.Mathlib.Omega.{arith}
use lib.Dec.{leb, ltb, eqb}
use lib.IntN.{ℤ}
use lib.ListN.{drop}
use Rattle.units.specs.declared.Refusal.{Refusal}
use Rattle.std.proofs.Common.{Result, Ok, Err}
use Rattle.std.specs.Result.{IsErrAnd}
use Rattle.std.proofs.lemmas.Result.{err_from_is_err_and}
use Rattle.packed_numbers.specs.declared.Found.{Found}
use Rattle.packed_numbers.specs.Numbers.{group, Read, got, bad, next, closed, groups_from, number, folded, unfolded}
use Rattle.packed_numbers.specs.Machine.Answers.{shown, plain}
use Rattle.packed_numbers.proofs.Folding.{unfolded_folded}

-- A reader in s that has come to at least the offset low, and the rest is the bytes of s from there.
pub data After {A : Type 0} (s : List ℕ) (low : ℕ) : Read A → Type 0 where
  moved : {x : A} {to : ℕ} {rest : List ℕ} → rest ≡ drop to s → low ≤ to → After s low (got x to rest)
  stopped : {r : Refusal} → After s low (bad r)

pub cond_after : {A : Type 0} {s : List ℕ} {low : ℕ} {q r : Read A} (t : Bool) → After s low q → After s low r → After s low (cond t q r)
cond_after true h k = h
cond_after false h k = k

pub later : {A : Type 0} {s : List ℕ} {r : Read A} {low : ℕ} (lower : ℕ) → lower ≤ low → After s low r → After s lower r
later lower l (moved e h) = moved e (le_trans l h)
later lower l stopped = stopped

pub next_after : {A B : Type 0} {s : List ℕ} {low : ℕ} (r : Read A) (f : A → ℕ → List ℕ → Read B) → After s low r
    → ((x : A) (to : ℕ) → After s to (f x to (drop to s))) → After s low (next r f)
unfolding next
next_after {low = low} (got x to rest) f (moved e h) k = rw e (later low h (k x to))
next_after (bad r) f stopped k = stopped

-- One byte on.
tail : (i : ℕ) (s : List ℕ) (b : ℕ) (x : List ℕ) → b ∷ x ≡ drop i s → x ≡ drop (i + 1) s
tail i s b x e = rw add-one (go i s e)
  where
    go : (i : ℕ) (s : List ℕ) → b ∷ x ≡ drop i s → x ≡ drop (suc i) s
    go zero [] e = let z : ◌≡◌ {A = ℕ} 0 1 = cc in absurd (omega arith)
    go zero (y ∷ s) e = cc
    go (suc i) [] e = let z : ◌≡◌ {A = ℕ} 0 1 = cc in absurd (omega arith)
    go (suc i) (y ∷ s) e = go i s e

groups_after : (s x : List ℕ) (k acc at : ℕ) → x ≡ drop at s → After s (at + 1) (groups_from k acc at x)
unfolding groups_from closed
groups_after s [] k acc at e = stopped
groups_after s (b ∷ x) k acc at e =
    let t = tail at s b x e in
    cond_after (ltb b group)
    (cond_after (eqb b 0) (cond_after (eqb k 0) (moved t (omega arith)) stopped) (moved t (omega arith)))
    (cond_after (leb 8 k) stopped (later (at + 1) (omega arith) (groups_after s x (k + 1) (acc + (b - group) * group ^ k) (at + 1) t)))

pub number_after : (s : List ℕ) (at : ℕ) → After s (at + 1) (number at (drop at s))
unfolding number
number_after s at = groups_after s (drop at s) 0 0 at refl

-- What was read, from an answer that is a value.
pub record Got {A : Type 0} (s : List ℕ) (low : ℕ) (r : Read A) (x : A) (to : ℕ) : Type 0 where
  pub is : r ≡ got x to (drop to s)
  pub forward : low ≤ to

got_of : {A : Type 0} {s : List ℕ} {low : ℕ} {x y : A} {to end : ℕ} {rest : List ℕ} → After s low (got x end rest) → x ≡ y → end ≡ to
    → Got s low (got x end rest) y to
got_of (moved e h) p q = record { is = rw (e, p, q); forward = rw q at h }

pub got_shown : {A B : Type 0} {s : List ℕ} {low : ℕ} (f : A → B) (g : B → A) → ((x : A) → g (f x) ≡ x) → {r : Read A} (n : Found B) → After s low r
    → shown f r ≡ Ok n → Got s low r (g n.value) n.next
unfolding shown
got_shown f g back {r = got x end rest} n h e =
    let q : ◌≡◌ {A = Found _} (record { value = f x; next = end }) n = cc in
    got_of h (sym (back x) ∙ ap (λ (m : Found _). g m.value) q) (ap (λ (m : Found _). m.next) q)
got_shown f g back {r = bad q} n h e = let z : ◌≡◌ {A = ℕ} 0 1 = cc in absurd (omega arith)

pub got_plain : {s : List ℕ} {low : ℕ} {r : Read ℕ} (n : Found ℕ) → After s low r → shown plain r ≡ Ok n → Got s low r n.value n.next
got_plain n h e = got_shown plain plain (λ x. refl) n h e

pub got_folded : {s : List ℕ} {low : ℕ} {r : Read ℤ} (n : Found ℕ) → After s low r → shown folded r ≡ Ok n → Got s low r (unfolded n.value) n.next
got_folded n h e = got_shown folded unfolded unfolded_folded n h e

-- And from one that is a refusal.
pub was_bad : {A B : Type 0} (f : A → B) (r : Read A) (q : Refusal) → shown f r ≡ Err q → r ≡ bad q
unfolding shown
was_bad f (got x to rest) q e = let z : ◌≡◌ {A = ℕ} 0 1 = cc in absurd (omega arith)
was_bad f (bad r) q e = let p : r ≡ q = cc in ap bad p

-- The answers, from what was read.
pub show_bad : {A B : Type 0} {r : Read A} {q : Refusal} (f : A → B) → r ≡ bad q → Err q ≡ shown f r
unfolding shown
show_bad f e = sym (ap (shown f) e)

pub show_got : {A B : Type 0} {r : Read A} {x : A} {to : ℕ} {rest : List ℕ} {y : B} (f : A → B) → r ≡ got x to rest → y ≡ f x
    → Ok (record { value = y; next = to }) ≡ shown f r
unfolding shown
show_got {to = to} f e p = ap (λ (v : _). Ok (record { value = v; next = to })) p ∙ sym (ap (shown f) e)

-- What `number_at` has found.
pub number_found : (s : List ℕ) (at : ℕ) (n : Found ℕ) → Ok n ≡ shown plain (number at (drop at s)) → Got s (at + 1) (number at (drop at s)) n.value n.next
number_found s at n e = got_plain n (number_after s at) (sym e)

-- A refusal that is passed on: the reader f's answer, and what the whole reader g then answers.
pub pass_on : {A B C D : Type 0} {r : Read A} {z : Read C} {q : Refusal} (f : A → B) (g : C → D) (answer : Result (Found D) Refusal)
    → IsErrAnd answer (λ e. e ≡ q) → Err q ≡ shown f r → (r ≡ bad q → z ≡ bad q) → answer ≡ shown g z
pass_on {r = r} {q = q} f g answer h e k = let p = err_from_is_err_and answer h in p.1 ∙ ap Err p.2 ∙ show_bad g (k (was_bad f r q (sym e)))
