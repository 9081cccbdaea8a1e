-- What the code asks of a byte of a figure that is no space and no point. Held by the code, no part of the rules.
use Rattle.std.specs.Prelude.{cond, ℕ, ◌+◌, ◌-◌, ltb, eqb}
use Rattle.series_lines.specs.declared.Line.{Line}
use Rattle.series_lines.specs.Grammar.{minus_sign, digit_0}
use Rattle.series_lines.specs.Lexer.{bad, with_digit, with_minus}

-- A minus or a digit, as the lexer of a text takes it; any other byte is bad.
unfoldable pub figure_byte : Line → ℕ → Line
figure_byte l byte =
    cond (eqb byte minus_sign) (with_minus l)
    (cond (ltb byte digit_0) bad
    (cond (ltb byte (digit_0 + 10)) (with_digit l (byte - digit_0))
    bad))
