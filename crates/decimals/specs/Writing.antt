-- What a function that writes leaves in the output.
use Rattle.std.specs.Prelude.{◌≡◌, List, ℕ, ◌+◌, length}
use Rattle.std.proofs.lemmas.List.Edits.{sets}

-- `result` is `out` with the text written at `at`, and r is the place after it.
abbrev pub Put : List ℕ → ℕ → List ℕ → ℕ → List ℕ → Type 0
Put out at text r result = (r ≡ at + length text) × (result ≡ sets out at text)
