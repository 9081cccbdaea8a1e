-- What the functions of this crate answer for what the definitions of Numbers read and write: the offset past it stands for the
-- bytes from there. Held by the code, no part of the rules.
use Rattle.std.specs.Prelude.{Bool, cond, List, ℕ, ◌+◌, leb, length, drop, Result, Ok, Err}
use Rattle.std.proofs.lemmas.List.Edits.{sets}
use Rattle.units.specs.declared.Refusal.{Refusal}
use Rattle.packed_numbers.specs.declared.Found.{Found}
use Rattle.packed_numbers.specs.declared.NoRoom.{NoRoom}
use Rattle.packed_numbers.specs.Numbers.{Read, got, bad, encode}

-- What a reader reads at an offset of bytes.
abbrev pub at_offset : {A : Type 0} → (ℕ → List ℕ → Read A) → ℕ → List ℕ → Read A
at_offset reader at bytes = reader at (drop at bytes)

-- What a function shows of a reader's answer: what f makes of what was read, and the offset past it.
unfoldable pub shown : {A B : Type 0} → (A → B) → Read A → Result (Found B) Refusal
shown f (got x at rest) = Ok (record { value = f x; next = at })
shown f (bad r) = Err r

-- The number that was read, as it is.
abbrev pub plain : ℕ → ℕ
plain v = v

-- There is room from at for the packed form of v.
unfoldable pub room_for : ℕ → ℕ → List ℕ → Bool
room_for v at out = leb (at + length (encode v)) (length out)

-- What a writer answers: x where there is room, and otherwise how many bytes it needs.
abbrev pub put_or : {A : Type 0} → A → ℕ → Bool → Result A NoRoom
put_or x needed room = cond room (Ok x) (Err (record { needed = needed }))

-- The offset past it where there is room, and otherwise how many bytes it needs.
unfoldable pub put_answer : ℕ → ℕ → List ℕ → Result ℕ NoRoom
put_answer v at out = put_or (at + length (encode v)) (length (encode v)) (room_for v at out)

-- It is written where there is room, and otherwise nothing is.
unfoldable pub put_out : ℕ → ℕ → List ℕ → List ℕ
put_out v at out = cond (room_for v at out) (sets out at (encode v)) out
