-- A reader that reads on has counted its bytes; of more bytes than can be counted, it reads only those. Assumes nothing.
use mathlib.Core.Path.{◌≡◌, refl, sym, ap, ◌∙◌}
use mathlib.Core.List.{List, [], ◌∷◌, ◌++◌}
use Prim.Native.Nat.{ℕ, ◌+◌, ◌-◌, ◌≤◌, ◌<◌}
use native.Mathlib.Nat.{add-zero}
use native.Mathlib.Omega.{arith}
use borrow.Author.Tests.{eqb-true, eqb-false, eq-eqb}
use lib.Dec.{eqb}
use lib.ListN.{length, take, drop, length-drop, take-append-drop}
use lib.Seq.{length-take-le}
use Rattle.units.specs.Refusals.{bad_byte}
use Rattle.series_lines.specs.declared.Reader.{Reader}
use Rattle.series_lines.specs.Lexer.{lex}
use Rattle.series_lines.specs.Judge.{Verdict}
use Rattle.series_lines.specs.Reader.{last_offset, stopped, fits, wrote, uncounted}
use Rattle.series_lines.proofs.Calls as fold
use Rattle.text.specs.Reader.{verdict, begun, other, step, step_out, Run, run}
use Rattle.integers.proofs.Tests.{by_cases}
use Rattle.text_promises.proofs.Lines.{stays, step_last}

-- A line that was judged and written, and a byte within a line, are one byte more.
wrote_on : (r : Reader) (out : List ℕ) (v : Verdict) → (wrote r out v).status ≡ 0 → (wrote r out v).at ≡ r.at + 1
unfolding wrote
wrote_on r out v =
    by_cases (eqb v.refusal 0)
    (λ p. by_cases (fits v.bytes r.written out) (λ q. rw (p, q) (λ e. refl)) (λ q. rw (p, q) (λ e. absurd (omega (arith, e)))))
    (λ p. rw p (λ e. absurd (eqb-false v.refusal 0 p e)))

other_on : (r : Reader) (byte : ℕ) → (other r byte).status ≡ 0 → (other r byte).at ≡ r.at + 1
unfolding other
other_on r byte = by_cases (eqb (lex r.line byte).spot 31) (λ p. rw p (λ e. absurd (omega (arith, e)))) (λ p. rw p (λ e. refl))

step_on : (r : Reader) (out : List ℕ) (byte : ℕ) → (step r out byte).status ≡ 0 → ((step r out byte).at ≡ r.at + 1) × (r.at ≡ last_offset → ⊥)
unfolding step uncounted
step_on r out byte =
    by_cases (eqb r.status 0)
    (λ p. by_cases (eqb r.at last_offset) (λ q. rw (p, q) (λ e. absurd (omega (arith, e))))
    (λ q. by_cases (eqb r.line.spot 30) (λ u. rw (p, q, u) (λ e. absurd (omega (arith, e))))
    (λ u. by_cases (eqb byte 10)
    (λ v. rw (p, q, u, v) (λ e. (wrote_on r out (verdict r) e, eqb-false r.at last_offset q)))
    (λ v. rw (p, q, u, v) (λ e. (other_on r byte e, eqb-false r.at last_offset q))))))
    (λ p. rw p (λ e. absurd (eqb-false r.status 0 p e)))

pub counted : (xs : List ℕ) (r : Reader) (out : List ℕ) → r.at ≤ last_offset → (run r out xs).reader.status ≡ 0
    → ((run r out xs).reader.at ≡ r.at + length xs) × (r.at + length xs ≤ last_offset)
unfolding run
counted [] r out h e = (sym (add-zero r.at), omega arith)
counted (x ∷ xs) r out h e =
    by_cases (eqb (step r out x).status 0)
    (λ z. let t = step_on r out x (eqb-true (step r out x).status 0 z) in
    let c = counted xs (step r out x) (step_out r out x) (omega (arith, t.0, t.1)) e in
    (omega (arith, c.0, t.0), omega (arith, c.1, t.0)))
    (λ z. let n = eqb-false (step r out x).status 0 z in
    absurd (n (ap (λ (y : Run). y.reader.status) (sym (stays xs (step r out x) (step_out r out x) n)) ∙ e)))

-- Bytes past those that can be counted leave the output as it was.
past : (xs : List ℕ) (r : Reader) (out : List ℕ) → (r.status ≡ 0 → r.at ≡ last_offset) → (run r out xs).out ≡ out
past [] r out h = unfold run in refl
past (x ∷ xs) r out h =
    by_cases (eqb r.status 0)
    (λ z. let s = eqb-true r.status 0 z in
    let t = step_last r out x s (h s) in
    ap (λ (y : Run). y.out)
    (first r out x xs ∙ ap (λ (o : List ℕ). run (step r out x) o xs) (last_out r out x s (h s)) ∙ ap (λ (q : Reader). run q out xs) t
    ∙ stays xs (stopped r bad_byte) out (λ e. omega (arith, e))))
    (λ z. ap (λ (y : Run). y.out) (stays (x ∷ xs) r out (eqb-false r.status 0 z)))
  where
    first : (r : Reader) (out : List ℕ) (x : ℕ) (xs : List ℕ) → run r out (x ∷ xs) ≡ run (step r out x) (step_out r out x) xs
    first r out x xs = unfold run in refl

    last_out : (r : Reader) (out : List ℕ) (x : ℕ) → r.status ≡ 0 → r.at ≡ last_offset → step_out r out x ≡ out
    last_out r out x s e = unfold step_out uncounted in rw (eq-eqb r.status 0 s, eq-eqb r.at last_offset e)

-- The cutting rule: two calls are one with the bytes of both.
pub cut : (r : Reader) (out xs ys : List ℕ) → run r out (xs ++ ys) ≡ run (run r out xs).reader (run r out xs).out ys
unfolding run
cut = fold.cut step step_out

pub uncounted_out : (text out : List ℕ) → (run begun out text).out ≡ (run begun out (take last_offset text)).out
uncounted_out text out =
    ap (λ (t : List ℕ). (run begun out t).out) (sym (take-append-drop last_offset text))
    ∙ ap (λ (x : Run). x.out) (cut begun out (take last_offset text) (drop last_offset text))
    ∙ rest (drop last_offset text) (length-drop last_offset text)
  where
    full : (at : ℕ) → at ≡ 0 + length (take last_offset text) → last_offset < length text → at ≡ last_offset
    full at e h = omega (arith, e, length-take-le last_offset text (omega arith))

    rest : (b : List ℕ) → length b ≡ length text - last_offset
        → (run (run begun out (take last_offset text)).reader (run begun out (take last_offset text)).out b).out ≡ (run begun out (take last_offset text)).out
    rest [] e = unfold run in refl
    rest (x ∷ b) e =
        past (x ∷ b) (run begun out (take last_offset text)).reader (run begun out (take last_offset text)).out
        (λ s. let c = counted (take last_offset text) begun out (omega arith) s in
        full (run begun out (take last_offset text)).reader.at c.0 (omega (arith, e)))
