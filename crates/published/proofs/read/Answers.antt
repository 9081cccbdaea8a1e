-- `published::read` meets its contract. Assumes nothing.
use mathlib.Core.Path.{◌≡◌, ap, ◌∙◌}
use mathlib.Core.List.{List}
use Prim.Native.Nat.{ℕ}
use Rattle.published.specs.declared.Published.{Published}
use Rattle.published.specs.Reader.{begun_file, run, ended, ended_out, told}
use Rattle.published.proofs.read.Goals as goal

-- The end of what a run left.
ending : (p : Published) (out text : List ℕ) (q e : Published) (o o₂ : List ℕ) → p ≡ begun_file
    → (q ≡ (run p out text).reader) × (o ≡ (run p out text).out) → (e ≡ ended q o) × (o₂ ≡ ended_out q o)
    → let r = run begun_file out text in (e ≡ ended r.reader r.out) × (o₂ ≡ ended_out r.reader r.out)
ending p out text q e o o₂ b r f = let s = rw b at r in (f.0 ∙ rw (s.0, s.1), f.1 ∙ rw (s.0, s.1))

pub returns : goal.returns
returns c =
    let a = c.args in
    let e =
    ending _ a.out.now a.text.now _ _ _ _ c.start.ensures c.piece-p.ensures c.end.ensures in
    (c.answer.ensures ∙ ap told e.0, e.1)
