-- The base of the digits of a long division.
use Rattle.std.specs.Prelude.{ℕ}

-- 2^16: with a divisor and a factor of at most 2^47, a rest and a digit's product together fit 64 bits.
abbrev pub base : ℕ
base = 65536
