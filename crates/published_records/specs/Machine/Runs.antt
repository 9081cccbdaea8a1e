-- What the code asks of a run of bytes before a line feed. Held by the code, no part of the rules.
use Rattle.std.specs.Prelude.{Bool, List, [], ◌∷◌, ◌≡◌, ℕ, ◌-◌, ◌≤◌, eqb, length, take, drop}
use Rattle.series_lines.specs.Grammar.{feed}
use Rattle.series_lines.specs.Lexer.{spot_bad}
use Rattle.published_records.specs.declared.Row.{Row}
use Rattle.published_records.specs.Rows.{lex_row, lex_rows}

-- The bytes of a text from one index to another.
abbrev pub between : List ℕ → ℕ → ℕ → List ℕ
between text from next = take (next - from) (drop from text)

-- A byte came that cannot stand in the record.
unfoldable pub is_bad : Row → Bool
is_bad r = eqb r.line.spot spot_bad

-- The record goes on with each of these bytes: none is a line feed, and after none it is bad.
unfoldable pub RunsOn : Bool → Row → List ℕ → Type 0
RunsOn heading r [] = Unit {0}
RunsOn heading r (byte ∷ bytes) =
    (byte ≡ feed → ⊥) × (((lex_row heading r byte).line.spot ≡ spot_bad → ⊥) × RunsOn heading (lex_row heading r byte) bytes)

-- A row after the bytes from one index to another, with which the record goes on.
pub record Takes (heading : Bool) (r : Row) (text : List ℕ) (from : ℕ) (after : Row) (next : ℕ) : Type 0 where
  pub onward : from ≤ next
  pub inside : from ≤ length text → next ≤ length text
  pub goes_on : RunsOn heading r (between text from next)
  pub same : after ≡ lex_rows heading r (between text from next)
