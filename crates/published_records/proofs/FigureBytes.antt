-- A byte of a figure that is no space and no point is taken as the lexer of a text takes it. Assumes nothing.
use mathlib.Core.Path.{◌≡◌}
use Prim.Native.Nat.{ℕ}
use native.Mathlib.Omega.{arith}
use Rattle.std.proofs.lemmas.Bool.Decides.{nat_tests}
use Rattle.series_lines.specs.declared.Line.{Line}
use Rattle.series_lines.specs.Grammar.{space, point}
use Rattle.series_lines.specs.Lexer.{lex}
use Rattle.published_records.specs.Machine.Figures.{figure_byte}

pub lexed : (l : Line) (byte : ℕ) → (byte ≡ space → ⊥) → (byte ≡ point → ⊥) → figure_byte l byte ≡ lex l byte
unfolding figure_byte lex
lexed l byte s p = grind (arith, nat_tests)
