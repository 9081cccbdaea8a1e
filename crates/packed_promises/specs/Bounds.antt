-- RULES, "Series, as text and packed" and "Refusals and what they leave": where packed bytes are refused, and how many of them a series may have.
use Rattle.std.specs.Prelude.{◌≡◌, List, ℕ, ◌+◌, ◌*◌, ◌-◌, ◌<◌, length}
use Rattle.units.specs.declared.Refusal.{Refusal}
use Rattle.units.specs.declared.Refusal.TheVariants.{OverLimit, TotalOverLimit, TooCoarse, EndedEarly, ByteAfterEnd, NotShortest}
use Rattle.units.specs.Units.{series_limit, block_count}
use Rattle.packed_numbers.specs.Numbers.{group_limit}

-- What the figure of a refusal of packed bytes is: with one the number of the bytes, with the others the offset of one of them. There is no other.
pub data Where (bytes : List ℕ) : Refusal → Type 0 where
  over : {at : ℕ} → at < length bytes → Where bytes (OverLimit at)
  total : {at : ℕ} → at < length bytes → Where bytes (TotalOverLimit at)
  coarse : {at : ℕ} → at < length bytes → Where bytes (TooCoarse at)
  early : {n : ℕ} → n ≡ length bytes → Where bytes (EndedEarly n)
  after : {at : ℕ} → at < length bytes → Where bytes (ByteAfterEnd at)
  unshortened : {at : ℕ} → at < length bytes → Where bytes (NotShortest at)

-- The most bytes that a, b and c of a term within its limits take, and the count of a block.
abbrev pub a_bytes : ℕ
a_bytes = 8

abbrev pub b_bytes : ℕ
b_bytes = 6

abbrev pub c_bytes : ℕ
c_bytes = 9

abbrev pub count_bytes : ℕ
count_bytes = 2

abbrev pub term_bytes : ℕ
term_bytes = a_bytes + b_bytes + c_bytes

-- An accepted series has at most so many bytes.
abbrev pub packed_limit : ℕ
packed_limit = series_limit * term_bytes + block_count * count_bytes

-- Bytes that end early are at most so many: those of whole numbers, and the groups of one that has not ended.
abbrev pub early_limit : ℕ
early_limit = packed_limit + (group_limit - 1)
