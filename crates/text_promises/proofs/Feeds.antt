-- A line feed is refused as a bad byte exactly when the bytes before it are no whole line of the grammar. Assumes nothing.
use mathlib.Core.Path.{◌≡◌, refl, sym, ap, ◌∙◌}
use mathlib.Core.Bool.{false}
use mathlib.Core.List.{List}
use Prim.Native.Nat.{ℕ}
use native.Mathlib.Omega.{arith}
use borrow.Author.Tests.{ne_eqb}
use Rattle.units.specs.Refusals.{bad_byte}
use Rattle.series_lines.specs.declared.Line.{Line}
use Rattle.series_lines.specs.declared.Reader.{Reader}
use Rattle.series_lines.specs.Lexer.{fresh, lexes, whole_count, whole_term}
use Rattle.series_lines.specs.Judge.{Verdict, count_end, term_end}
use Rattle.series_lines.specs.Reader.{stopped, wrote}
use Rattle.text.specs.Reader.{verdict, step}
pub use Rattle.text_promises.specs.Decided.{IsTerm, IsCount}
use Rattle.integers.proofs.Tests.{by_cases}
use Rattle.text.proofs.Branches.{verdict_count, verdict_term, verdict_early}
use Rattle.text_promises.proofs.GoodLines.{count_run, term_run}
use Rattle.text_promises.proofs.TakenTerms.{term_in}
use Rattle.text_promises.proofs.TakenCounts.{count_in}
use Rattle.text_promises.proofs.Lines.{Going, step_feed}
use Rattle.text_promises.proofs.Verdicts.{not_count, not_term, is_whole, count_among, term_among, wrote_status}

Not : ℕ → Type 0
Not n = n ≡ bad_byte → ⊥

refused : (r : Reader) (out : List ℕ) (v : Verdict) → v.refusal ≡ bad_byte → wrote r out v ≡ stopped r bad_byte
unfolding wrote
refused r out v e = let z = ne_eqb v.refusal 0 (λ q. omega (arith, q, e)) in rw (z, e)

none_term : (r : Reader) → (term_end r).refusal ≡ bad_byte → ⊥
unfolding Not
none_term r = term_among Not (λ e. omega (arith, e)) (λ e. omega (arith, e)) (λ e. omega (arith, e)) (λ e. omega (arith, e)) _ _ _ _

none_count : (r : Reader) → (count_end r).refusal ≡ bad_byte → ⊥
unfolding Not
none_count r = count_among Not (λ e. omega (arith, e)) (λ e. omega (arith, e)) (λ e. omega (arith, e)) _ _ _

-- By whether the line is whole.
module _ (r : Reader) (out : List ℕ) (g : Going r) where
  early_feed : whole_count r.line ≡ false → whole_term r.line ≡ false → step r out 10 ≡ stopped r bad_byte
  early_feed p q = (step_feed r out g).0 ∙ refused r out (verdict r) (verdict_early r p q)

  whole_feed : ((verdict r).refusal ≡ bad_byte → ⊥) → step r out 10 ≡ stopped r bad_byte → ⊥
  whole_feed h e =
      wrote_status bad_byte (λ q. omega (arith, q)) (λ q. omega (arith, q)) r out (verdict r) h
      (ap (λ (q : Reader). q.status) (sym (step_feed r out g).0 ∙ e))

  pub feed_term : (xs : List ℕ) → r.line ≡ lexes (fresh 0) xs
      → (step r out 10 ≡ stopped r bad_byte → IsTerm xs → ⊥) × ((IsTerm xs → ⊥) → step r out 10 ≡ stopped r bad_byte)
  unfolding whole_term
  feed_term xs e =
      let n : whole_count r.line ≡ false = ap (λ (l : Line). whole_count l) e ∙ not_count xs in (
        (λ s t. let l = e ∙ ap (λ (ys : List ℕ). lexes (fresh 0) ys) t.is ∙ term_run t.t t.good in
            let v = verdict_term r n (ap (λ (x : Line). whole_term x) l) in
            whole_feed (λ q. none_term r (sym (ap (λ (x : Verdict). x.refusal) v) ∙ q)) s),
        (λ h. by_cases (whole_term (lexes (fresh 0) xs))
            (λ p. let t = term_in xs (lexes (fresh 0) xs) p refl in absurd (h (record { t = t.t; good = t.good; is = t.is })))
            (λ p. early_feed n (ap (λ (l : Line). whole_term l) e ∙ p))),
      )

  pub feed_count : (xs : List ℕ) → r.line ≡ lexes (fresh 20) xs
      → (step r out 10 ≡ stopped r bad_byte → IsCount xs → ⊥) × ((IsCount xs → ⊥) → step r out 10 ≡ stopped r bad_byte)
  feed_count xs e = (
    (λ s t. let l = e ∙ ap (λ (ys : List ℕ). lexes (fresh 20) ys) t.is ∙ count_run t.c t.good in
        let v = verdict_count r (ap (λ (x : Line). whole_count x) l ∙ is_whole t.c t.good) in
        whole_feed (λ q. none_count r (sym (ap (λ (x : Verdict). x.refusal) v) ∙ q)) s),
    (λ h. by_cases (whole_count (lexes (fresh 20) xs))
        (λ p. let t = count_in xs (lexes (fresh 20) xs) p refl in absurd (h (record { c = t.k; good = t.good; is = t.is })))
        (λ p. early_feed (ap (λ (l : Line). whole_count l) e ∙ p) (ap (λ (l : Line). whole_term l) e ∙ not_term xs))),
  )
