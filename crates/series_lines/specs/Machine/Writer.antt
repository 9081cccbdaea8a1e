-- What the writer of a line's bytes writes and answers. Held by the code, no part of the rules.
use Rattle.std.specs.Prelude.{Result, List, ◌++◌, ℕ, ◌+◌, length}
use Rattle.packed_numbers.specs.declared.NoRoom.{NoRoom}
use Rattle.packed_numbers.specs.Numbers.{encode}
use Rattle.packed_numbers.specs.Machine.Answers.{put_or}
use Rattle.series_lines.specs.Reader.{fits}

-- Three numbers, packed one after the other.
abbrev pub three_packed : ℕ → ℕ → ℕ → List ℕ
three_packed a b c = encode a ++ encode b ++ encode c

-- The offset past the bytes where there is room for them, and otherwise how many they are.
abbrev pub put_bytes_answer : List ℕ → ℕ → List ℕ → Result ℕ NoRoom
put_bytes_answer bytes at out = put_or (at + length bytes) (length bytes) (fits bytes at out)
