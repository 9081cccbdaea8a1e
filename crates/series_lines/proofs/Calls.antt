-- Calls that fold a step: they may be cut anywhere, and a reader that every step keeps stays. Assumes nothing.
use mathlib.Core.Path.{◌≡◌, refl, sym, ap, ◌∙◌}
use mathlib.Core.List.{List, [], ◌∷◌, ◌++◌}
use Prim.Native.Nat.{ℕ, ◌+◌, ◌≤◌, ◌<◌}
use native.Mathlib.Numerals.{add-one}
use lib.ListN.{length, get_or, drop, drop_of_length-le}
use lib.Seq.{drop-cons}
use Rattle.series_lines.specs.Calls.{run, calls, joined}

module _ {R : Type 0} (step : R → List ℕ → ℕ → R) (step_out : R → List ℕ → ℕ → List ℕ) where
  -- The cutting rule: two calls are one with the bytes of both.
  pub cut : (r : R) (out xs ys : List ℕ)
      → run step step_out r out (xs ++ ys) ≡ run step step_out (run step step_out r out xs).reader (run step step_out r out xs).out ys
  unfolding run
  cut r out [] ys = refl
  cut r out (byte ∷ xs) ys = cut (step r out byte) (step_out r out byte) xs ys

  -- Some calls are one call with the bytes of all.
  pub cutting : (r : R) (out : List ℕ) (ps : List (List ℕ)) → calls step step_out r out ps ≡ run step step_out r out (joined ps)
  unfolding calls joined
  cutting r out [] = unfold run in refl
  cutting r out (p ∷ ps) =
      cutting (run step step_out r out p).reader (run step step_out r out p).out ps ∙ sym (cut r out p (joined ps))

  -- A reader that every step keeps, with its output, stays as it is: one call and some calls change nothing.
  module _ (r : R) (keeps : (out : List ℕ) (byte : ℕ) → step r out byte ≡ r) (keeps_out : (out : List ℕ) (byte : ℕ) → step_out r out byte ≡ out) where
    pub stays : (out xs : List ℕ) → run step step_out r out xs ≡ record { reader = r; out = out }
    unfolding run
    stays out [] = refl
    stays out (x ∷ xs) =
        ap (λ (o : List ℕ). run step step_out (step r out x) o xs) (keeps_out out x)
        ∙ ap (λ (q : R). run step step_out q out xs) (keeps out x)
        ∙ stays out xs

    pub repeats : (out : List ℕ) (ps : List (List ℕ)) → calls step step_out r out ps ≡ record { reader = r; out = out }
    repeats out ps = cutting r out ps ∙ stays out (joined ps)

  -- A turn of a loop over the bytes: what is left to run.
  pub run_more : (r s : R) (out after bytes : List ℕ) (i byte : ℕ) → byte ≡ get_or bytes i 0 → i < length bytes
      → s ≡ step r out byte → after ≡ step_out r out byte
      → run step step_out r out (drop i bytes) ≡ run step step_out s after (drop (i + 1) bytes)
  unfolding run
  run_more r s out after bytes i byte e h p q =
      let d : drop i bytes ≡ byte ∷ drop (i + 1) bytes = rw (e, add-one) (drop-cons bytes i 0 h) in
      rw (d, p, q)

  pub run_end : (r : R) (out bytes : List ℕ) (i : ℕ) → length bytes ≤ i
      → run step step_out r out (drop i bytes) ≡ record { reader = r; out = out }
  unfolding run
  run_end r out bytes i h = rw (drop_of_length-le bytes h)
