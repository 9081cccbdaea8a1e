-- The promises of the reader of published files. Assumes nothing.
use mathlib.Core.Path.{◌≡◌, ap, ◌∙◌}
use mathlib.Core.List.{List}
use Prim.Native.Nat.{ℕ, ◌≤◌, ◌<◌}
use native.Mathlib.Omega.{arith}
use borrow.Author.Tests.{eqb-false, ne_eqb}
use lib.Dec.{eqb}
use lib.ListN.{length, take, length-take}
use Rattle.series_lines.specs.declared.Outcome.{Outcome}
use Rattle.series_lines.specs.Reader.{last_offset, fits}
pub use Rattle.series_lines.specs.Calls.{Run, joined}
use Rattle.series_lines.proofs.Calls as folds
use Rattle.published.specs.declared.Published.{Published}
use Rattle.published.specs.Reader.{begun_file, step, step_out, run, inside, missing, ended, ended_out, told, whole}
pub use Rattle.published.specs.Reader.{calls, end_of}
use Rattle.published_promises.specs.Decided.{Answers, AnswersSoFar}
use Rattle.integers.proofs.Tests.{by_cases}
use Rattle.published_promises.proofs.Lines.{keeps, keeps_out}
use Rattle.published_promises.proofs.Counted.{counted, uncounted_out}
use Rattle.published_promises.proofs.Decided.{decided, decided_so_far}

-- Some calls are one call with the bytes of all.
pub cutting : (p : Published) (out : List ℕ) (ps : List (List ℕ)) → calls p out ps ≡ run p out (joined ps)
cutting p out ps = folds.cutting step step_out p out ps

-- However a file is cut into calls, it comes to what one call with all of it comes to.
pub any_cutting : (file out : List ℕ) (ps : List (List ℕ)) → joined ps ≡ file → end_of (calls begun_file out ps) ≡ whole file out
any_cutting file out ps e = ap (λ (x : Run Published). end_of x) (cutting begun_file out ps ∙ ap (λ (t : List ℕ). run begun_file out t) e)

-- A reader that has refused or ended changes no more, and neither does the output.
pub repeats : (p : Published) (out : List ℕ) (ps : List (List ℕ)) → (p.reader.status ≡ 0 → ⊥) → calls p out ps ≡ record { reader = p; out = out }
repeats p out ps h = folds.repeats step step_out p (keeps p h) (keeps_out p h) out ps

pub repeats_end : (p : Published) (out : List ℕ) → (p.reader.status ≡ 0 → ⊥) → (ended p out ≡ p) × (ended_out p out ≡ out)
unfolding ended ended_out
repeats_end p out h = let z = ne_eqb p.reader.status 0 h in (rw z, rw z)

-- After the end it has: whatever state and output the last call found, later calls and ends repeat its answer and write nothing, in any output.
ended_stops : (p : Published) (out : List ℕ) → (ended p out).reader.status ≡ 0 → ⊥
unfolding ended
ended_stops p out =
    by_cases (eqb p.reader.status 0)
    (λ z. by_cases (inside p) (λ i. rw (z, i) (λ e. omega (arith, e)))
    (λ i. by_cases (fits (missing p) p.reader.written out) (λ f. rw (z, i, f) (λ e. omega (arith, e))) (λ f. rw (z, i, f) (λ e. omega (arith, e)))))
    (λ z. rw z (eqb-false p.reader.status 0 z))

pub repeats_ended : (p : Published) (out later : List ℕ) (ps : List (List ℕ)) → calls (ended p out) later ps ≡ record { reader = ended p out; out = later }
repeats_ended p out later ps = repeats (ended p out) later ps (ended_stops p out)

pub ended_again : (p : Published) (out later : List ℕ) → (ended (ended p out) later ≡ ended p out) × (ended_out (ended p out) later ≡ later)
ended_again p out later = repeats_end (ended p out) later (ended_stops p out)

-- A file of more bytes than can be counted has been refused before its end, which then writes nothing.
pub uncounted_end : (file out : List ℕ) → last_offset < length file → whole file out ≡ run begun_file out file
uncounted_end file out h =
    let r = run begun_file out file in
    let t = repeats_end r.reader r.out (λ e. omega (arith, h, (counted file begun_file out (omega arith) e).1)) in
    same t.0 t.1
  where
    same : {p q : Published} {o l : List ℕ} → p ≡ q → o ≡ l → ◌≡◌ {A = Run Published} record { reader = p; out = o } record { reader = q; out = l }
    same e f = cc

-- However a file that can be counted is cut into calls, its answer and what the output then holds are those of specs/Decided.
pub decided_cut : (file out : List ℕ) (ps : List (List ℕ)) → joined ps ≡ file → length file ≤ last_offset
    → Answers file out (told (end_of (calls begun_file out ps)).reader) (end_of (calls begun_file out ps)).out
decided_cut file out ps e c =
    let q = any_cutting file out ps e in
    let i = ap (λ (x : Run Published). told x.reader) q in
    let j = ap (λ (x : Run Published). x.out) q in
    rw (i, j) (decided file out c)

-- So are the answer after some calls, and the output, where the file has not ended.
pub decided_calls : (out : List ℕ) (ps : List (List ℕ)) → length (joined ps) ≤ last_offset
    → AnswersSoFar (joined ps) out (told (calls begun_file out ps).reader) (calls begun_file out ps).out
decided_calls out ps c =
    let q = cutting begun_file out ps in
    let i = ap (λ (x : Run Published). told x.reader) q in
    let j = ap (λ (x : Run Published). x.out) q in
    rw (i, j) (decided_so_far (joined ps) out c)

-- Any file, however long, leaves in the output the packed form of the records of a good beginning of its bytes that can be counted, and
-- nothing else; what comes after these records is refused at a byte, or is a record that can go on, or the series is whole.
pub output : (file out : List ℕ) → (o : Outcome) × AnswersSoFar (take last_offset file) out o (run begun_file out file).out
output file out =
    let t = take last_offset file in
    (told (run begun_file out t).reader, rw (uncounted_out file out) (decided_so_far t out (omega (arith, length-take last_offset file))))
