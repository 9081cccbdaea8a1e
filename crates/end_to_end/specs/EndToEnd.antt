-- RULES, "Series, as text and packed" (paper 02, C-21): series stored end to end, with nothing between them, are told apart in one way only,
-- and `check` (for texts `read`) finds where each ends. Strings are lists of any numbers and of any length; where they must be bytes, as those
-- of every slice are, it is said. The statements, shown in proofs/Theorems.antt: KindsToldApart, FoundByCheck, FoundByRead,
-- PrintTellsApart.
use Rattle.std.specs.Prelude.{◌≡◌, List, [], ◌∷◌, ◌++◌, ℕ, ◌≤◌, ◌<◌, length, take, drop}
use Rattle.units.specs.declared.Refusal.TheVariants.{EndedEarly, ByteAfterEnd}
use Rattle.packed_numbers.specs.Numbers.{AllBytes}
use Rattle.packed.specs.declared.Content.{Content}
use Rattle.std.specs.Prelude.{Err, Ok}
use Rattle.packed.specs.Series.{parse, checked}
use Rattle.packed_promises.specs.Bounds.{packed_limit}
use Rattle.series_lines.specs.declared.Outcome.TheVariants.{Accepted, Refused}
use Rattle.series_lines.specs.Reader.{last_offset, told}
use Rattle.series_lines.specs.Calls.{joined}
use Rattle.text.specs.Reader.{whole}
use Rattle.printer.specs.Printer.{printed, printed_out}

-- ---- What is stored.

-- A packed series: `check` answers what it holds.
pub record PackedSeries (x : List ℕ) : Type 0 where
  pub content : Content
  pub is : checked (parse x) ≡ Ok content

-- A text that `read` accepts with this output.
pub record ReadInto (out text : List ℕ) : Type 0 where
  pub size : ℕ
  pub is : told (whole text out).reader ≡ Accepted size

-- A series text: `read` accepts it with some output.
pub record SeriesText (text : List ℕ) : Type 0 where
  pub out : List ℕ
  pub read : ReadInto out text

-- The text that `print` writes for packed bytes, into some output.
pub record Prints (x text : List ℕ) : Type 0 where
  pub are_bytes : AllBytes x
  pub out : List ℕ
  pub answer : printed (parse x) out ≡ Ok (length text)
  pub written : take (length text) (printed_out (parse x) out) ≡ text

-- A text that `print` writes for some packed bytes.
pub record PrintedText (text : List ℕ) : Type 0 where
  pub packed : List ℕ
  pub prints : Prints packed text

-- ---- Told apart.

-- Each string of a list is P.
unfoldable pub Each : (List ℕ → Type 0) → List (List ℕ) → Type 0
Each P [] = Unit {0}
Each P (x ∷ xs) = P x × Each P xs

-- The strings that are P can be stored end to end.
pub record ToldApart (P : List ℕ → Type 0) : Type 0 where
  -- The string without a byte is none of them.
  pub not_empty : P [] → ⊥
  -- None of them is the beginning of another.
  pub no_beginning : (x y : List ℕ) → P x → P (x ++ y) → y ≡ []
  -- No string is made of them in two ways.
  pub one_split : (xs ys : List (List ℕ)) → Each P xs → Each P ys → joined xs ≡ joined ys → xs ≡ ys

pub record KindsToldApart : Type 0 where
  pub packed : ToldApart PackedSeries
  pub texts : ToldApart SeriesText
  pub printed : ToldApart PrintedText

-- ---- Found again.

-- What `check` finds in bytes, series after series: where it accepts the rest, this is the last one; where it refuses the rest with 9, the
-- bytes before that offset are one, and the next begins there.
pub data Found : List ℕ → List (List ℕ) → Type 0 where
  at_end : {x : List ℕ} {c : Content} → checked (parse x) ≡ Ok c → Found x (x ∷ [])
  goes_on : {bytes : List ℕ} {at : ℕ} {xs : List (List ℕ)} → checked (parse bytes) ≡ Err (ByteAfterEnd at)
      → Found (drop at bytes) xs → Found bytes (take at bytes ∷ xs)

-- Packed series stored end to end are found, and nothing else is.
pub record FoundByCheck : Type 0 where
  -- Where bytes follow a series, `check` refuses with 9 and the offset of the first of them,
  pub followed : (x y : List ℕ) (b : ℕ) → PackedSeries x → checked (parse (x ++ (b ∷ y))) ≡ Err (ByteAfterEnd (length x))
  -- and only there.
  pub front : (bytes : List ℕ) (at : ℕ) → AllBytes bytes → checked (parse bytes) ≡ Err (ByteAfterEnd at)
      → PackedSeries (take at bytes) × (at < length bytes)
  -- Where only the beginning of a series is there, `check` refuses with 8 and the number of bytes.
  pub cut_short : (x y : List ℕ) (b : ℕ) → PackedSeries (x ++ (b ∷ y)) → checked (parse x) ≡ Err (EndedEarly (length x))
  -- So a list of series, joined, is found again,
  pub finds : (x : List ℕ) (xs : List (List ℕ)) → Each PackedSeries (x ∷ xs) → Found (joined (x ∷ xs)) (x ∷ xs)
  -- and what is found are series, which make up all of the bytes.
  pub found : (bytes : List ℕ) (xs : List (List ℕ)) → AllBytes bytes → Found bytes xs → Each PackedSeries xs × (joined xs ≡ bytes)

-- Texts are found by `read` so, one step at a time, where a usize counts all the bytes that are given.
pub record FoundByRead : Type 0 where
  -- Where bytes follow a text, `read` refuses with 9 and the offset of the first of them,
  pub followed : (text more out : List ℕ) (b : ℕ) → ReadInto out text → length (text ++ (b ∷ more)) ≤ last_offset
      → told (whole (text ++ (b ∷ more)) out).reader ≡ Refused (ByteAfterEnd (length text))
  -- and only there.
  pub front : (text out : List ℕ) (at : ℕ) → length text ≤ last_offset → told (whole text out).reader ≡ Refused (ByteAfterEnd at)
      → ReadInto out (take at text) × (at < length text)
  -- Where only the beginning of a text is there, `read` refuses with 8 and the number of bytes.
  pub cut_short : (text more out : List ℕ) (b : ℕ) → ReadInto out (text ++ (b ∷ more))
      → told (whole text out).reader ≡ Refused (EndedEarly (length text))
  -- An output with room for the longest series does for every series text.
  pub room : (text out : List ℕ) → SeriesText text → packed_limit ≤ length out → ReadInto out text

-- ---- Printed.

pub record PrintTellsApart : Type 0 where
  -- `print` writes a text for each packed series,
  pub has_text : (x : List ℕ) → AllBytes x → PackedSeries x → (text : List ℕ) × Prints x text
  -- which is a series text,
  pub is_series_text : (text : List ℕ) → PrintedText text → SeriesText text
  -- and the same one for two only if they are equal.
  pub same : (x y text : List ℕ) → Prints x text → Prints y text → x ≡ y
