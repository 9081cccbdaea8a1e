-- The words of the theorems in proofs/Theorems: what "exactly one date" means, and the rules' marked figures of the calendar.
use Rattle.std.specs.Prelude.{◌≡◌, List, [], ◌∷◌, ℤ, pos, neg_ℤ}
use Rattle.units.specs.declared.Instant.{Instant}
use Rattle.units.specs.declared.Refusal.TheVariants.{NoSuchDate}
use Rattle.calendar.specs.Calendar.{day_of_date, instant_of_date}
use Rattle.calendar.specs.declared.Date.{Date}
use Rattle.std.specs.Prelude.{Err, Ok, Result}
use Rattle.units.specs.declared.Refusal.{Refusal}

-- The calls, of a date in one piece.
abbrev pub day_of : Date → Result ℤ Refusal
day_of w = day_of_date w.year w.month w.day

abbrev pub instant_of : Date → ℤ → Result Instant Refusal
instant_of w ms = instant_of_date w.year w.month w.day ms

-- The day number n has a date, and no other.
pub record OneDate (n : ℤ) : Type 0 where
  pub the : Date
  pub has : day_of the ≡ Ok n
  pub only : (w : Date) → day_of w ≡ Ok n → w ≡ the

-- The instant t has a date with milliseconds, and no other.
pub record OneMoment (t : Instant) : Type 0 where
  pub the : Date
  pub ms : ℤ
  pub has : instant_of the ms ≡ Ok t
  pub only : (w : Date) (k : ℤ) → instant_of w k ≡ Ok t → (w ≡ the) × (k ≡ ms)

-- A date, or a date with milliseconds, and the answer that the rules give it.
pub data Figure : Type 0 where
  number : ℤ → ℤ → ℤ → Result ℤ Refusal → Figure
  moment : ℤ → ℤ → ℤ → ℤ → Result Instant Refusal → Figure

-- The marked figures of the rules that are the calendar's.
abbrev pub marked : List Figure
marked =
    number (pos 2000) (pos 1) (pos 1) (Ok (pos 2451545))
    ∷ number (pos 1582) (pos 10) (pos 4) (Ok (pos 2299160))
    ∷ number (pos 1582) (pos 10) (pos 10) (Err (NoSuchDate 3))
    ∷ number (pos 1582) (pos 10) (pos 15) (Ok (pos 2299161))
    ∷ number (pos 1500) (pos 2) (pos 29) (Ok (pos 2268992))
    ∷ number (pos 1900) (pos 2) (pos 29) (Err (NoSuchDate 3))
    ∷ number (neg_ℤ (pos 4712)) (pos 1) (pos 1) (Ok (pos 0))
    ∷ number (pos 9999) (pos 12) (pos 31) (Ok (pos 5373484))
    ∷ moment (pos 2005) (pos 1) (pos 1) (pos 0) (Ok (record { ms = pos 157809600000 }))
    ∷ []

-- A figure is right where the call answers it.
abbrev pub Right : Figure → Type 0
Right (number y m d a) = day_of_date y m d ≡ a
Right (moment y m d ms a) = instant_of_date y m d ms ≡ a

-- All figures of a table are right.
abbrev pub AllRight : List Figure → Type 0
AllRight [] = Unit {0}
AllRight (f ∷ fs) = Right f × AllRight fs
