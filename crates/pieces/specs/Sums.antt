-- RULES, "Working cosine and sums": the sum of a block at t.
use Rattle.std.specs.Prelude.{List, [], ◌∷◌, ℤ, pos, ◌+ℤ◌}
use Rattle.cosine.specs.Terms.{term_value}
use Rattle.limits.specs.declared.Term.{Term}

unfoldable pub block_sum : ℤ → List Term → ℤ
block_sum t [] = pos 0
block_sum t (x ∷ xs) = term_value x.a x.b x.c t +ℤ block_sum t xs
