-- What `unpack` answers for the whole of its input, of which it holds no more than its first buffer.
use Rattle.std.specs.Prelude.{◌≡◌, List, ◌++◌, ℕ, ◌≤◌, ◌<◌, length, take}
use Rattle.units.specs.declared.Refusal.TheVariants.{NoRoom}
use Rattle.packed.specs.Series.{parse}
use Rattle.packed_promises.specs.Bounds.{early_limit}
use Rattle.printer.specs.Printer.{text_limit, printed, printed_out}
use Rattle.std.specs.Prelude.{Err, Result}
use Rattle.units.specs.declared.Refusal.{Refusal}

-- The input is the first n bytes of the buffer; or the buffer is full, and the input goes on.
pub data Input (n : ℕ) (buffer : List ℕ) : List ℕ → Type 0 where
  all : Input n buffer (take n buffer)
  begins : (rest : List ℕ) → n ≡ length buffer → Input n buffer (buffer ++ rest)

-- The buffers are long enough.
pub record Roomy (n : ℕ) (buffer out : List ℕ) : Type 0 where
  pub held : n ≤ length buffer
  pub series : early_limit < length buffer
  pub text : text_limit ≤ length out

-- The answer and the text are those of the whole input, and there is never too little room for the text.
pub record Answered (input before : List ℕ) (r : Result ℕ Refusal) (after : List ℕ) : Type 0 where
  pub answer : r ≡ printed (parse input) before
  pub text : after ≡ printed_out (parse input) before
  pub room : (k : ℕ) → r ≡ Err (NoRoom k) → ⊥

-- So for every input of which the buffer holds n bytes.
abbrev pub AnswersAny : ℕ → List ℕ → List ℕ → Result ℕ Refusal → List ℕ → Type 0
AnswersAny n buffer before r after = (input : List ℕ) → Input n buffer input → Answered input before r after
