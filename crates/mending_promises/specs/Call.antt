-- What is promised of a call of `mend` that is answered, from its answer c and from what both buffers hold before it and after it; and of one
-- that is refused. proofs/Calls.antt proves it of every call, and asks of one that is answered only that the bytes of its text can be counted, as
-- those of every slice can. mending/specs/Answer.antt says what a call answers and leaves.
use Rattle.std.specs.Prelude.{◌≡◌, List, ℕ, ◌*◌, ◌/◌, ◌≤◌, ◌<◌, length, take, drop}
use Rattle.units.specs.declared.Refusal.{Refusal}
use Rattle.units.specs.declared.Refusal.TheVariants.{NoRoom}
use Rattle.packed_promises.specs.Bounds.{packed_limit}
use Rattle.series_lines.specs.declared.Outcome.TheVariants.{More, Accepted, Refused}
use Rattle.series_lines.specs.Reader.{told}
use Rattle.text.specs.Reader.{whole}
use Rattle.mending.specs.declared.Clean.{Clean}
use Rattle.mending.specs.Rule.{mended, changes, numbers}
use Rattle.mending_promises.specs.Made.{read_off, made}
use Rattle.mending_promises.specs.Promises.{Mends}

-- The bytes of the answered length at the beginning of a buffer.
abbrev pub clean_text : Clean → List ℕ → List ℕ
clean_text c out_after = take c.length out_after

pub record Answered (text out list : List ℕ) (c : Clean) (out_after list_after : List ℕ) : Type 0 where
  -- The output begins with the mended text, of the answered length; what lies past it is as it was lent.
  pub text_there : clean_text c out_after ≡ mended text
  pub text_rest : drop c.length out_after ≡ drop c.length out
  pub text_room : (length out_after ≡ length out) × (c.length ≤ length out)
  -- The list begins with two numbers for each change; what lies past them is as it was lent.
  pub list_there : take (2 * c.changes) list_after ≡ numbers (changes text)
  pub list_rest : drop (2 * c.changes) list_after ≡ drop (2 * c.changes) list
  pub list_room : (length list_after ≡ length list) × (2 * c.changes ≤ length list)
  -- These numbers, read as changes and made to the input, give the bytes in the output exactly; and they are the changes of the rule.
  pub gives : made (read_off (take (2 * c.changes) list_after)) text ≡ clean_text c out_after
  pub are : read_off (take (2 * c.changes) list_after) ≡ changes text
  -- Of which all this holds.
  pub mends : Mends text
  -- The verdict is the reader's answer for the bytes in the output, whatever buffer with room for the longest series it packs them into; and if
  -- they are accepted, any buffer with room for their packed form does.
  pub verdict : (buffer : List ℕ) → packed_limit ≤ length buffer → told (whole (clean_text c out_after) buffer).reader ≡ c.verdict
  pub accepted : (buffer : List ℕ) (n : ℕ) → c.verdict ≡ Accepted n → n ≤ length buffer → told (whole (clean_text c out_after) buffer).reader ≡ Accepted n
  -- It is never for want of room, and never that more may come.
  pub never_seven : (p : ℕ) → c.verdict ≡ Refused (NoRoom p) → ⊥
  pub never_more : (n : ℕ) → c.verdict ≡ More n → ⊥

-- Refused is a call only for want of room: for the text, or, where the text has room, for the list. Both buffers are then as they were lent.
pub data RefusedFor (text out list : List ℕ) : Refusal → Type 0 where
  text_long : length out < length (mended text) → RefusedFor text out list (NoRoom (length (mended text)))
  list_long : length (mended text) ≤ length out → length list / 2 < length (changes text) → RefusedFor text out list (NoRoom (length (changes text)))

pub record RefusedCall (text out list : List ℕ) (f : Refusal) (out_after list_after : List ℕ) : Type 0 where
  pub why : RefusedFor text out list f
  pub text_lent : out_after ≡ out
  pub list_lent : list_after ≡ list
