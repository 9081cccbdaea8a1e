-- A call of a reader, with any state, folds the step of one byte over the call's bytes: so how an input is cut into calls cannot matter
-- (proofs/Calls.antt).
use Rattle.std.specs.Prelude.{List, [], ◌∷◌, ◌++◌, ℕ}

-- What a call leaves: the reader and the output.
pub record Run (R : Type 0) : Type 0 where
  pub reader : R
  pub out : List ℕ

-- The bytes of all calls.
unfoldable pub joined : List (List ℕ) → List ℕ
joined [] = []
joined (p ∷ ps) = p ++ joined ps

-- From the reader, the output and a byte: the reader after it and the output after it.
module _ {R : Type 0} (step : R → List ℕ → ℕ → R) (step_out : R → List ℕ → ℕ → List ℕ) where
  -- A call, with its bytes.
  unfoldable pub run : R → List ℕ → List ℕ → Run R
  run r out [] = record { reader = r; out = out }
  run r out (byte ∷ bytes) = run (step r out byte) (step_out r out byte) bytes

  -- Some calls, one after the other; each may have any bytes or none.
  unfoldable pub calls : R → List ℕ → List (List ℕ) → Run R
  calls r out [] = record { reader = r; out = out }
  calls r out (p ∷ ps) = calls (run r out p).reader (run r out p).out ps
