-- An acceptance is only given at the end of a file that was read to its end, so of one whose bytes can be counted. Assumes nothing.
use mathlib.Core.Path.{◌≡◌, sym, ap, ◌∙◌}
use mathlib.Core.Bool.{Bool, true, false, cond}
use mathlib.Core.List.{List, [], ◌∷◌}
use Prim.Native.Nat.{ℕ, ◌+◌, ◌≤◌}
use native.Mathlib.Omega.{arith}
use borrow.Author.Tests.{eqb-true}
use lib.Dec.{eqb}
use lib.ListN.{length}
use Rattle.units.specs.Refusals.{over_limit, bad_heading, bad_number, of_number}
use Rattle.limits.specs.declared.Term.{Term}
use Rattle.limits.specs.declared.Tally.{Tally}
use Rattle.limits.specs.Limits.{count_fits}
use Rattle.series_lines.specs.declared.Outcome.TheVariants.{Accepted, Refused}
use Rattle.series_lines.specs.Lexer.{spot_bad}
use Rattle.series_lines.specs.Judge.{term_line_refusal}
use Rattle.series_lines.specs.Reader.{last_offset, uncounted}
use Rattle.series_lines.specs.Reader as lines
use Rattle.series_lines.specs.Calls.{Run}
use Rattle.published_records.specs.Rows.{lex_row, whole_row}
use Rattle.published_headings.specs.Judge.{in_order, heading_refusal, record_refusal}
use Rattle.published.specs.declared.Published.{Published}
use Rattle.published.specs.Reader.{begun_file, at_heading, other, verdict, complete, step, step_out, run, ended, told, whole}
use Rattle.integers.proofs.Tests.{by_cases}
use Rattle.text_promises.proofs.Acceptance.{not_accepted}
use Rattle.text_promises.proofs.Verdicts.{term_among, wrote_status}
use Rattle.published_promises.proofs.Lines.{run_none, run_one}
use Rattle.published_promises.proofs.Counted.{counted}

-- No refusal has the number 1, which says that a file was accepted.
abbrev NotOne : ℕ → Type 0
NotOne n = n ≡ 1 → ⊥

heading_not_one : (k : ℕ) (s : Tally) (v c p n : ℕ) → NotOne (heading_refusal k s v c p n)
unfolding heading_refusal
heading_not_one k s v c p n = go (in_order k v c p) (count_fits s n)
  where
    go : (b d : Bool) → NotOne (cond b (cond d 0 over_limit) bad_heading)
    go true true e = omega (arith, e)
    go true false e = omega (arith, e)
    go false d e = omega (arith, e)

record_not_one : (last number f : ℕ) (s : Tally) (m : ℕ) (t : Term) → NotOne (record_refusal last number f s m t)
unfolding record_refusal
record_not_one last number f s m t = go (eqb number (last + 1))
  where
    go : (b : Bool) → NotOne (cond b (term_line_refusal f s m t) bad_number)
    go true = term_among NotOne (λ e. omega (arith, e)) (λ e. omega (arith, e)) (λ e. omega (arith, e)) (λ e. omega (arith, e)) f s m t
    go false = λ e. omega (arith, e)

verdict_not_one : (p : Published) → NotOne (verdict p).refusal
unfolding verdict
verdict_not_one p =
    by_cases (whole_row (at_heading p) p.row)
    (λ w. by_cases (at_heading p) (λ h. rw (w, h) (heading_not_one _ _ _ _ _ _)) (λ h. rw (w, h) (record_not_one _ _ _ _ _ _)))
    (λ w. rw w (λ e. omega (arith, e)))

other_not_one : (p : Published) (byte : ℕ) → NotOne (other p byte).reader.status
unfolding other
other_not_one p byte =
    by_cases (eqb (lex_row (at_heading p) p.row byte).line.spot spot_bad) (λ z. rw z (λ e. omega (arith, e))) (λ z. rw z (λ e. omega (arith, e)))

step_not_one : (p : Published) (out : List ℕ) (byte : ℕ) → NotOne p.reader.status → NotOne (step p out byte).reader.status
unfolding step
step_not_one p out byte h =
    by_cases (eqb p.reader.status 0)
    (λ z. by_cases (uncounted p.reader) (λ q. rw (z, q) (λ e. omega (arith, e)))
    (λ q. by_cases (complete p) (λ u. rw (z, q, u) (λ e. omega (arith, e)))
    (λ u. by_cases (eqb byte 10)
    (λ v. rw (z, q, u, v) (wrote_status 1 (λ e. omega (arith, e)) (λ e. omega (arith, e)) p.reader out (verdict p) (verdict_not_one p)))
    (λ v. rw (z, q, u, v) (other_not_one p byte)))))
    (λ z. rw z h)

run_not_one : (xs : List ℕ) (p : Published) (out : List ℕ) → NotOne p.reader.status → NotOne (run p out xs).reader.reader.status
run_not_one [] p out h e = h (ap (λ (x : Run Published). x.reader.reader.status) (sym (run_none p out)) ∙ e)
run_not_one (x ∷ xs) p out h e =
    run_not_one xs (step p out x) (step_out p out x) (step_not_one p out x h)
    (ap (λ (y : Run Published). y.reader.reader.status) (sym (run_one p out x xs)) ∙ e)

-- So a reader that is told to have accepted was reading on before the end.
refused_told : (p : Published) → eqb p.reader.status 0 ≡ false → eqb p.reader.status 1 ≡ false
    → told p ≡ Refused (of_number p.reader.status p.reader.place)
unfolding lines.told
refused_told p z q = rw (z, q)

ended_same : (p : Published) (out : List ℕ) → eqb p.reader.status 0 ≡ false → ended p out ≡ p
unfolding ended
ended_same p out z = rw z

pub accepted_counted : (file out : List ℕ) (n : ℕ) → told (whole file out).reader ≡ Accepted n → length file ≤ last_offset
accepted_counted file out n e =
    let r = run begun_file out file in
    by_cases (eqb r.reader.reader.status 0)
    (λ z. omega (arith, (counted file begun_file out (omega arith) (eqb-true _ _ z)).1))
    (λ z. by_cases (eqb r.reader.reader.status 1)
    (λ q. absurd (run_not_one file begun_file out (λ y. omega (arith, y)) (eqb-true _ _ q)))
    (λ q. absurd (not_accepted (sym (refused_told r.reader z q) ∙ ap (λ (p : Published). told p) (sym (ended_same r.reader r.out z)) ∙ e))))
