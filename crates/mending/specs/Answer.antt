-- RULES, "Mending": the answer to a text, and what stands then in both buffers.
use Rattle.std.specs.Prelude.{Bool, cond, List, ℕ, ◌/◌, leb, length}
use Rattle.std.proofs.lemmas.List.Edits.{sets}
use Rattle.units.specs.declared.Refusal.TheVariants.{NoRoom}
use Rattle.text.specs.Judge.{judgement}
use Rattle.std.specs.Prelude.{Err, Ok, Result}
use Rattle.mending.specs.declared.Clean.{Clean}
use Rattle.units.specs.declared.Refusal.{Refusal}
use Rattle.mending.specs.Rule.{mended, changes, change_numbers, numbers}

-- There is room for the mended text, and in the list for the numbers of every change.
unfoldable pub text_fits : List ℕ → List ℕ → Bool
text_fits text out = leb (length (mended text)) (length out)

unfoldable pub list_fits : List ℕ → List ℕ → Bool
list_fits text list = leb (length (changes text)) (length list / change_numbers)

-- The answer: the mended text is judged as the reader of texts judges it with room enough.
unfoldable pub mending : List ℕ → List ℕ → List ℕ → Result Clean Refusal
mending text out list =
    cond (text_fits text out)
    (cond (list_fits text list)
    (Ok (record { length = length (mended text); changes = length (changes text); verdict = judgement (mended text) }))
    (Err (NoRoom (length (changes text)))))
    (Err (NoRoom (length (mended text))))

-- Both buffers afterwards: where either does not fit, both as they were lent.
unfoldable pub mending_out : List ℕ → List ℕ → List ℕ → List ℕ
mending_out text out list = cond (text_fits text out) (cond (list_fits text list) (sets out 0 (mended text)) out) out

unfoldable pub mending_list : List ℕ → List ℕ → List ℕ → List ℕ
mending_list text out list = cond (text_fits text out) (cond (list_fits text list) (sets list 0 (numbers (changes text))) list) list
