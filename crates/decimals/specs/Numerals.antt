-- Which texts are numbers: a minus or none, then one or more digits, leading zeros too, of a size within a limit.
use Rattle.std.specs.Prelude.{◌≡◌, Bool, List, [], ◌∷◌, ℕ, ◌+◌, ◌*◌, ◌-◌, ◌≤◌, ℤ}
use Rattle.integers.specs.Signs.{sgn}
use Rattle.decimals.specs.Decimals.{zero_digit, nine_digit, written}
use Rattle.std.specs.Prelude.{None, Option, Some}

-- Bytes that are digits.
abbrev pub Digits : List ℕ → Type 0
Digits [] = Unit {0}
Digits (b ∷ ds) = (zero_digit ≤ b) × (b ≤ nine_digit) × Digits ds

-- The number that they are, after v.
unfoldable pub value : ℕ → List ℕ → ℕ
value v [] = v
value v (b ∷ ds) = value (10 * v + (b - zero_digit)) ds

-- A number as it is written: a minus or none, a first digit, and more; its size within the limit, which may be another with a minus.
pub record Decimal (limit : Bool → ℕ) (minus : Bool) (first : ℕ) (more : List ℕ) : Type 0 where
  pub digits : Digits (first ∷ more)
  pub small : value 0 (first ∷ more) ≤ limit minus

-- The bytes are written for the number n.
pub record Numeral (limit : Bool → ℕ) (bytes : List ℕ) (n : ℤ) : Type 0 where
  pub minus : Bool
  pub first : ℕ
  pub more : List ℕ
  pub decimal : Decimal limit minus first more
  pub bytes_are : bytes ≡ written minus (first ∷ more)
  pub is : n ≡ sgn minus (value 0 (first ∷ more))

-- The greatest size of an argument that is a number: nine digits, of those that count.
abbrev pub nine_digits : Bool → ℕ
nine_digits minus = 999999999

-- What a text is read as: the number that it is, or, where it is none, another text.
pub data Decided (bytes : List ℕ) (r : Option ℤ) : Type 0 where
  number : (n : ℤ) → Numeral nine_digits bytes n → r ≡ Some n → Decided bytes r
  other : ((n : ℤ) → Numeral nine_digits bytes n → ⊥) → r ≡ None → Decided bytes r

-- The text is read in one way.
pub record OneReading (bytes : List ℕ) : Type 0 where
  pub the : Option ℤ
  pub decided : Decided bytes the
  pub only : (r : Option ℤ) → Decided bytes r → r ≡ the
