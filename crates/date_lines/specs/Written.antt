-- The words of the theorems in proofs/Theorems: lines as they are written. Their numbers are those of decimals/specs/Numerals.
use Rattle.std.specs.Prelude.{◌≡◌, List, [], ◌∷◌, ◌++◌, ℕ, ℤ, Result, Ok, Err}
use Rattle.decimals.specs.Texts.{text, line_feed}
use Rattle.decimals.specs.Numerals.{Numeral}
use Rattle.calendar.specs.declared.Date.{Date}
use Rattle.date_lines.specs.Lines.{space, greatest, numbers}
use Rattle.date_lines.specs.declared.reader.Fault.{Fault}

-- Bytes without a line feed.
abbrev pub NoFeed : List ℕ → Type 0
NoFeed [] = Unit {0}
NoFeed (b ∷ bs) = (b ≡ line_feed → ⊥) × NoFeed bs

-- A line of three numbers, parted by single spaces, and nothing else.
pub record ThreeNumbers (line : List ℕ) (y m d : ℤ) : Type 0 where
  pub ys : List ℕ
  pub ms : List ℕ
  pub ds : List ℕ
  pub year : Numeral greatest ys y
  pub month : Numeral greatest ms m
  pub day : Numeral greatest ds d
  pub line_is : line ≡ ys ++ (space ∷ (ms ++ (space ∷ ds)))

-- Each line is decided: it has three numbers and is read as these, or it has not and is read as a fault.
pub data Decided (line : List ℕ) (r : Result Date Fault) : Type 0 where
  three : (y m d : ℤ) → ThreeNumbers line y m d → r ≡ Ok (numbers y m d) → Decided line r
  fault : (f : Fault) → ((y m d : ℤ) → ThreeNumbers line y m d → ⊥) → r ≡ Err f → Decided line r

-- The two lines of the rules, and their replies.
abbrev pub example_lines : List ℕ
example_lines = text "1582 10 4" ++ (line_feed ∷ (text "1582 10 10" ++ (line_feed ∷ [])))

abbrev pub example_replies : List ℕ
example_replies = text "2299160" ++ (line_feed ∷ (text "refused 1" ++ (line_feed ∷ [])))
