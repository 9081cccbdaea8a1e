-- A whole number as a natural one, and what stands for it where it is none.
use Rattle.std.specs.Prelude.{ℕ, ℤ, pos, negsuc}

-- x where it is not negative, else `other`.
unfoldable pub natural_or : ℤ → ℕ → ℕ
natural_or (pos n) other = n
natural_or (negsuc n) other = other
