-- One code reads a text that is packed and a text that is only judged: writes says which. Held by the code, no part of the rules.
use Rattle.std.specs.Prelude.{Bool, cond, List, ℕ, eqb}
use Rattle.series_lines.specs.declared.Reader.{Reader}
use Rattle.series_lines.specs.Grammar.{feed}
use Rattle.series_lines.specs.Lexer.{spot_after}
use Rattle.series_lines.specs.Reader.{reading, uncounted}
use Rattle.series_lines.specs.Calls as fold
use Rattle.series_lines.specs.Machine.Modes.{line_ended, line_left}
use Rattle.text.specs.Reader.{verdict, stepped, Run}

-- The reader and the output after one byte.
unfoldable pub moved : Bool → Reader → List ℕ → ℕ → Reader
moved writes r out byte = stepped r byte (line_ended writes r out (verdict r))

unfoldable pub moved_out : Bool → Reader → List ℕ → ℕ → List ℕ
moved_out writes r out byte =
    cond (eqb r.status reading)
    (cond (uncounted r) out
    (cond (eqb r.line.spot spot_after) out
    (cond (eqb byte feed) (line_left writes r out (verdict r)) out)))
    out

-- A call.
unfoldable pub passed : Bool → Reader → List ℕ → List ℕ → Run
unfolding fold.run
passed writes = fold.run (moved writes) (moved_out writes)
