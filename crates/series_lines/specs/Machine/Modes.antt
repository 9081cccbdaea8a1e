-- One code reads a text that is packed and a text that is only judged: writes says which. Held by the code, no part of the rules.
use Rattle.std.specs.Prelude.{Bool, true, false, cond, Result, List, ℕ, ◌+◌, leb, eqb, length}
use Rattle.packed_numbers.specs.declared.NoRoom.{NoRoom}
use Rattle.packed_numbers.specs.Machine.Answers.{put_or}
use Rattle.series_lines.specs.declared.Reader.{Reader}
use Rattle.series_lines.specs.Judge.{Verdict}
use Rattle.series_lines.specs.Reader.{settled, fits, put_bytes, last_offset}

-- There is room for a line's bytes: in the output, or for as many as can be counted.
unfoldable pub has_room : Bool → List ℕ → ℕ → List ℕ → Bool
has_room true bytes at out = fits bytes at out
has_room false bytes at out = leb (at + length bytes) last_offset

-- The offset past the bytes where there is room for them, and otherwise how many they are.
abbrev pub kept_answer : Bool → List ℕ → ℕ → List ℕ → Result ℕ NoRoom
kept_answer writes bytes at out = put_or (at + length bytes) (length bytes) (has_room writes bytes at out)

-- The output afterwards.
unfoldable pub kept_out : Bool → List ℕ → ℕ → List ℕ → List ℕ
kept_out true bytes at out = put_bytes bytes at out
kept_out false bytes at out = out

-- The reader and the output after the judgement of a line.
unfoldable pub line_ended : Bool → Reader → List ℕ → Verdict → Reader
line_ended writes r out v = settled (has_room writes v.bytes r.written out) r v

unfoldable pub line_left : Bool → Reader → List ℕ → Verdict → List ℕ
line_left writes r out v = cond (eqb v.refusal 0) (kept_out writes v.bytes r.written out) out
