-- A reader of published files that reads on has counted its bytes; of more bytes than can be counted, it reads only those. Assumes nothing.
use mathlib.Core.Path.{◌≡◌, refl, sym, ap, ◌∙◌}
use mathlib.Core.List.{List, [], ◌∷◌}
use Prim.Native.Nat.{ℕ, ◌+◌, ◌-◌, ◌≤◌, ◌<◌}
use native.Mathlib.Nat.{add-zero}
use native.Mathlib.Omega.{arith}
use borrow.Author.Tests.{eqb-true, eqb-false, eq-eqb}
use lib.Dec.{eqb}
use lib.ListN.{length, take, drop, length-drop, take-append-drop}
use lib.Seq.{length-take-le}
use Rattle.units.specs.Refusals.{bad_byte}
use Rattle.series_lines.specs.declared.Reader.{Reader}
use Rattle.series_lines.specs.Judge.{Verdict}
use Rattle.series_lines.specs.Lexer.{spot_bad}
use Rattle.series_lines.specs.Reader.{last_offset, fits, wrote, uncounted}
use Rattle.series_lines.specs.Calls.{Run}
use Rattle.series_lines.proofs.Calls as folds
use Rattle.published_records.specs.Rows.{lex_row}
use Rattle.published.specs.declared.Published.{Published}
use Rattle.published.specs.Reader.{begun_file, at_heading, halted, other, verdict, complete, step, step_out, run}
use Rattle.integers.proofs.Tests.{by_cases}
use Rattle.published_promises.proofs.Lines.{run_none, run_one, stays}

-- A record that was judged and written, and a byte within a record, are one byte more.
wrote_on : (r : Reader) (out : List ℕ) (v : Verdict) → (wrote r out v).status ≡ 0 → (wrote r out v).at ≡ r.at + 1
unfolding wrote
wrote_on r out v =
    by_cases (eqb v.refusal 0)
    (λ p. by_cases (fits v.bytes r.written out) (λ q. rw (p, q) (λ e. refl)) (λ q. rw (p, q) (λ e. absurd (omega (arith, e)))))
    (λ p. rw p (λ e. absurd (eqb-false v.refusal 0 p e)))

other_on : (p : Published) (byte : ℕ) → (other p byte).reader.status ≡ 0 → (other p byte).reader.at ≡ p.reader.at + 1
unfolding other
other_on p byte =
    by_cases (eqb (lex_row (at_heading p) p.row byte).line.spot spot_bad)
    (λ z. rw z (λ e. absurd (omega (arith, e))))
    (λ z. rw z (λ e. refl))

step_on : (p : Published) (out : List ℕ) (byte : ℕ) → (step p out byte).reader.status ≡ 0
    → ((step p out byte).reader.at ≡ p.reader.at + 1) × (p.reader.at ≡ last_offset → ⊥)
unfolding step uncounted
step_on p out byte =
    by_cases (eqb p.reader.status 0)
    (λ z. by_cases (eqb p.reader.at last_offset) (λ q. rw (z, q) (λ e. absurd (omega (arith, e))))
    (λ q. by_cases (complete p) (λ u. rw (z, q, u) (λ e. absurd (omega (arith, e))))
    (λ u. by_cases (eqb byte 10)
    (λ v. rw (z, q, u, v) (λ e. (wrote_on p.reader out (verdict p) e, eqb-false p.reader.at last_offset q)))
    (λ v. rw (z, q, u, v) (λ e. (other_on p byte e, eqb-false p.reader.at last_offset q))))))
    (λ z. rw z (λ e. absurd (eqb-false p.reader.status 0 z e)))

pub counted : (xs : List ℕ) (p : Published) (out : List ℕ) → p.reader.at ≤ last_offset → (run p out xs).reader.reader.status ≡ 0
    → ((run p out xs).reader.reader.at ≡ p.reader.at + length xs) × (p.reader.at + length xs ≤ last_offset)
counted [] p out h e = (ap (λ (x : Run Published). x.reader.reader.at) (run_none p out) ∙ sym (add-zero p.reader.at), omega arith)
counted (x ∷ xs) p out h e =
    let o = run_one p out x xs in
    let f = ap (λ (y : Run Published). y.reader.reader.status) (sym o) ∙ e in
    by_cases (eqb (step p out x).reader.status 0)
    (λ z. let t = step_on p out x (eqb-true (step p out x).reader.status 0 z) in
    let c = counted xs (step p out x) (step_out p out x) (omega (arith, t.0, t.1)) f in
    (ap (λ (y : Run Published). y.reader.reader.at) o ∙ c.0 ∙ next t.0, omega (arith, c.1, t.0)))
    (λ z. let n = eqb-false (step p out x).reader.status 0 z in
    absurd (n (ap (λ (y : Run Published). y.reader.reader.status) (sym (stays (step p out x) n (step_out p out x) xs)) ∙ f)))
  where
    next : {i : ℕ} → i ≡ p.reader.at + 1 → i + length xs ≡ p.reader.at + length (x ∷ xs)
    next e = omega (arith, e)

-- Bytes past those that can be counted leave the output as it was.
module _ (p : Published) (out : List ℕ) (x : ℕ) (s : p.reader.status ≡ 0) (e : p.reader.at ≡ last_offset) where
  step_last : (step p out x ≡ halted p bad_byte) × (step_out p out x ≡ out)
  unfolding step step_out uncounted
  step_last =
      let a = eq-eqb p.reader.status 0 s in
      let b = eq-eqb p.reader.at last_offset e in
      (rw (a, b), rw (a, b))

past : (xs : List ℕ) (p : Published) (out : List ℕ) → (p.reader.status ≡ 0 → p.reader.at ≡ last_offset) → (run p out xs).out ≡ out
past [] p out h = ap (λ (y : Run Published). y.out) (run_none p out)
past (x ∷ xs) p out h =
    by_cases (eqb p.reader.status 0)
    (λ z. let s = eqb-true p.reader.status 0 z in
    let t = step_last p out x s (h s) in
    ap (λ (y : Run Published). y.out)
    (run_one p out x xs ∙ ap (λ (o : List ℕ). run (step p out x) o xs) t.1 ∙ ap (λ (q : Published). run q out xs) t.0
    ∙ stays (halted p bad_byte) (λ e. omega (arith, e)) out xs))
    (λ z. ap (λ (y : Run Published). y.out) (stays p (eqb-false p.reader.status 0 z) out (x ∷ xs)))

pub uncounted_out : (file out : List ℕ) → (run begun_file out file).out ≡ (run begun_file out (take last_offset file)).out
uncounted_out file out =
    ap (λ (t : List ℕ). (run begun_file out t).out) (sym (take-append-drop last_offset file))
    ∙ ap (λ (x : Run Published). x.out) (folds.cut step step_out begun_file out (take last_offset file) (drop last_offset file))
    ∙ rest (drop last_offset file) (length-drop last_offset file)
  where
    full : (at : ℕ) → at ≡ 0 + length (take last_offset file) → last_offset < length file → at ≡ last_offset
    full at e h = omega (arith, e, length-take-le last_offset file (omega arith))

    rest : (b : List ℕ) → length b ≡ length file - last_offset
        → (run (run begun_file out (take last_offset file)).reader (run begun_file out (take last_offset file)).out b).out
        ≡ (run begun_file out (take last_offset file)).out
    rest [] e =
        ap (λ (y : Run Published). y.out)
        (run_none (run begun_file out (take last_offset file)).reader (run begun_file out (take last_offset file)).out)
    rest (x ∷ b) e =
        past (x ∷ b) (run begun_file out (take last_offset file)).reader (run begun_file out (take last_offset file)).out
        (λ s. let c = counted (take last_offset file) begun_file out (omega arith) s in
        full (run begun_file out (take last_offset file)).reader.reader.at c.0 (omega (arith, e)))
