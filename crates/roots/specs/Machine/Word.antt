-- A number in two words: the upper one counts multiples of this, and each of them is below it.
use Rattle.std.specs.Prelude.{ℕ, ◌^◌}

abbrev pub word : ℕ
word = 2 ^ 48

-- A word has so many pairs of bits.
abbrev pub pairs : ℕ
pairs = 24
