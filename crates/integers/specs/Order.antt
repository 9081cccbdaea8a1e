-- The order of whole numbers, with a fixity below that of the sums (`◌≤ℤ◌` of the language's library binds tighter than `◌+ℤ◌`).
use Rattle.std.specs.Prelude.{ℤ, ◌≤ℤ◌, ◌<ℤ◌}

infix 4 ◌≼◌ ◌≺◌
abbrev pub ◌≼◌ : ℤ → ℤ → Type 0
x ≼ y = x ≤ℤ y

abbrev pub ◌≺◌ : ℤ → ℤ → Type 0
x ≺ y = x <ℤ y
