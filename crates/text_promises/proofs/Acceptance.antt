-- An acceptance is only given at the end, after block 18, of a text that was taken. Assumes nothing.
use mathlib.Core.Path.{◌≡◌, refl, sym, ap, ◌∙◌}
use mathlib.Core.Bool.{false}
use mathlib.Core.List.{List, [], ◌∷◌}
use Prim.Native.Nat.{ℕ}
use native.Mathlib.Omega.{arith}
use borrow.Author.Tests.{eqb-true}
use lib.Dec.{eqb}
use lib.ListN.{length}
use Rattle.units.specs.Refusals.{of_number}
use Rattle.units.specs.declared.Refusal.{Refusal}
use Rattle.series_lines.specs.declared.Reader.{Reader}
use Rattle.series_lines.specs.declared.Outcome.TheVariants.{Accepted, Refused}
use Rattle.series_lines.specs.Lexer.{lex, whole_count, whole_term}
use Rattle.series_lines.specs.Reader.{uncounted, told}
use Rattle.text.specs.Reader.{verdict, begun, other, step, step_out, run, ended, whole}
use Rattle.series_lines.specs.Grammar.{TermLine}
use Rattle.integers.proofs.Tests.{by_cases}
use Rattle.text_promises.proofs.Verdicts.{count_among, term_among, wrote_status}
use Rattle.text_promises.proofs.Lines.{Taken}

pub nothing : (ls : List TermLine) → length ls ≡ 0 → ls ≡ []
nothing [] e = refl
nothing (l ∷ ls) e = absurd (omega (arith, e))

-- A refusal is no acceptance.
pub not_accepted : {r : Refusal} {n : ℕ} → Refused r ≡ Accepted n → ⊥
not_accepted e = let z : ◌≡◌ {A = ℕ} 0 1 = cc in omega arith

-- No refusal has the number 1.
verdict_not_one : (r : Reader) → (verdict r).refusal ≡ 1 → ⊥
unfolding verdict
verdict_not_one r =
    by_cases (whole_count r.line)
    (λ p. rw p (count_among Not (λ e. omega (arith, e)) (λ e. omega (arith, e)) (λ e. omega (arith, e)) _ _ _))
    (λ p. by_cases (whole_term r.line)
    (λ q. rw (p, q)
    (term_among Not (λ e. omega (arith, e)) (λ e. omega (arith, e)) (λ e. omega (arith, e)) (λ e. omega (arith, e)) _ _ _ _))
    (λ q. rw (p, q) (λ e. omega (arith, e))))
  where
    Not : ℕ → Type 0
    Not n = n ≡ 1 → ⊥

other_not_one : (r : Reader) (byte : ℕ) → (other r byte).status ≡ 1 → ⊥
unfolding other
other_not_one r byte = by_cases (eqb (lex r.line byte).spot 31) (λ p. rw p (λ e. omega (arith, e))) (λ p. rw p (λ e. omega (arith, e)))

step_not_one : (r : Reader) (out : List ℕ) (byte : ℕ) → (r.status ≡ 1 → ⊥) → (step r out byte).status ≡ 1 → ⊥
unfolding step
step_not_one r out byte h =
    by_cases (eqb r.status 0)
    (λ p. by_cases (uncounted r) (λ q. rw (p, q) (λ e. omega (arith, e)))
    (λ q. by_cases (eqb r.line.spot 30) (λ u. rw (p, q, u) (λ e. omega (arith, e)))
    (λ u. by_cases (eqb byte 10)
    (λ v. rw (p, q, u, v) (wrote_status 1 (λ e. omega (arith, e)) (λ e. omega (arith, e)) r out (verdict r) (verdict_not_one r)))
    (λ v. rw (p, q, u, v) (other_not_one r byte)))))
    (λ p. rw p h)

run_not_one : (xs : List ℕ) (r : Reader) (out : List ℕ) → (r.status ≡ 1 → ⊥) → (run r out xs).reader.status ≡ 1 → ⊥
unfolding run
run_not_one [] r out h = h
run_not_one (x ∷ xs) r out h = run_not_one xs (step r out x) (step_out r out x) (step_not_one r out x h)

-- What an acceptance says.
told_refused : (r : Reader) → eqb r.status 0 ≡ false → eqb r.status 1 ≡ false → told r ≡ Refused (of_number r.status r.place)
unfolding told
told_refused r p q = rw (p, q)

ended_same : (r : Reader) → eqb r.status 0 ≡ false → ended r ≡ r
unfolding ended
ended_same r p = rw p

told_accepted : (r : Reader) (n : ℕ) → (r.status ≡ 1 → ⊥) → told (ended r) ≡ Accepted n → (r.status ≡ 0) × (r.line.spot ≡ 30) × (n ≡ r.written)
unfolding told ended
told_accepted r n h =
    by_cases (eqb r.status 0)
    (λ p. by_cases (eqb r.line.spot 30)
    (λ q. rw (p, q) (λ e. (eqb-true _ _ p, eqb-true _ _ q, same r.written e)))
    (λ q. rw (p, q) (λ e. absurd (not_accepted e))))
    (λ p. by_cases (eqb r.status 1)
    (λ q. absurd (h (eqb-true _ _ q)))
    (λ q. λ e. absurd (not_accepted (sym (told_refused r p q) ∙ ap told (sym (ended_same r p)) ∙ e))))
  where
    same : (w : ℕ) → Accepted w ≡ Accepted n → n ≡ w
    same w e = cc

pub accepted_by : (text out : List ℕ) (n : ℕ) → told (whole text out).reader ≡ Accepted n
    → Taken (run begun out text) × (n ≡ (run begun out text).reader.written)
accepted_by text out n e =
    let t = told_accepted (run begun out text).reader n (run_not_one text begun out (λ q. omega (arith, q))) e in
    (record { status = t.0; spot = t.1 }, t.2)
