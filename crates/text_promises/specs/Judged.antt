-- The reader that only judges (text/specs/Judge.antt) held against the reader, for a text that can be counted. proofs/Judgement.antt proves it of
-- each.
use Rattle.std.specs.Prelude.{◌≡◌, List, ◌⊎◌, ℕ, ◌≤◌, length}
use Rattle.units.specs.declared.Refusal.TheVariants.{NoRoom}
use Rattle.packed_promises.specs.Bounds.{packed_limit}
use Rattle.series_lines.specs.declared.Outcome.TheVariants.{More, Accepted, Refused}
use Rattle.series_lines.specs.Reader.{told}
use Rattle.text.specs.Reader.{whole}
use Rattle.text.specs.Judge.{judgement}
use Rattle.text_promises.specs.Decided.{Answers}

pub record Judged (text : List ℕ) : Type 0 where
  -- With every output that has room for the longest series, the reader's answer is the judgement, whatever the output holds.
  pub with_room : (out : List ℕ) → packed_limit ≤ length out → told (whole text out).reader ≡ judgement text
  -- With every other output it is the judgement too, or the refusal for want of room.
  pub any_output : (out : List ℕ) → (told (whole text out).reader ≡ judgement text) ⊎ ((p : ℕ) × (told (whole text out).reader ≡ Refused (NoRoom p)))
  -- Judged to be accepted with n bytes, it is accepted with every output of n bytes; accepted with some output, it is judged so.
  pub accepts : (out : List ℕ) (n : ℕ) → judgement text ≡ Accepted n → n ≤ length out → told (whole text out).reader ≡ Accepted n
  pub accepted : (out : List ℕ) (n : ℕ) → told (whole text out).reader ≡ Accepted n → judgement text ≡ Accepted n
  -- The judgement is never for want of room, and never that more may come.
  pub never_seven : (p : ℕ) → judgement text ≡ Refused (NoRoom p) → ⊥
  pub never_more : (n : ℕ) → judgement text ≡ More n → ⊥
  -- It is the answer that the grammar and the limits give the text.
  pub by_rules : (out : List ℕ) → packed_limit ≤ length out → Answers text out (judgement text) (whole text out).out
