-- The reader of a text that only judges: it has no output and writes nothing. What it says of a text is what the reader says with room enough
-- (text_promises/specs/Judged.antt, proved in proofs/Judgement.antt).
use Rattle.std.specs.Prelude.{List, [], ◌∷◌, ℕ}
use Rattle.series_lines.specs.declared.Reader.{Reader}
use Rattle.series_lines.specs.declared.Outcome.{Outcome}
use Rattle.series_lines.specs.Reader.{judged, last_offset, told}
use Rattle.text.specs.Reader.{begun, verdict, stepped, ended}

-- After one byte, as if there were an output with room for so many bytes.
unfoldable pub judge_step : ℕ → Reader → ℕ → Reader
judge_step room r byte = stepped r byte (judged room r (verdict r))

-- After some bytes.
unfoldable pub judge : ℕ → Reader → List ℕ → Reader
judge room r [] = r
judge room r (byte ∷ bytes) = judge room (judge_step room r byte) bytes

-- What the reader says of a whole text and its end, where an output would have as many bytes as can be counted.
unfoldable pub judgement : List ℕ → Outcome
judgement text = told (ended (judge last_offset begun text))
