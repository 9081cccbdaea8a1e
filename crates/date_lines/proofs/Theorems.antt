-- The lines' theorems: the input may be cut anywhere; each line has the reply to what it says; three numbers, written as decimals and parted by
-- single spaces, are read as these numbers, and no other line is read as three; the two lines of the rules. Assumes nothing.
use mathlib.Core.Path.{◌≡◌, refl, sym, ap, ◌∙◌}
use mathlib.Core.Bool.{Bool, true, false}
use mathlib.Core.List.{List, [], ◌∷◌, ◌++◌, append_assoc, append-nil}
use Prim.Native.Nat.{ℕ, ◌+◌, ◌*◌, ◌-◌, ◌≤◌}
use native.Mathlib.Omega.{arith}
use borrow.Author.Tests.{ne_eqb, le-ltb}
use lib.IntN.{ℤ, pos}
use Rattle.integers.specs.Division.{floor, modulo}
use Rattle.integers.specs.Signs.{sgn}
use Rattle.arith.specs.Naturals.{natural_or}
use Rattle.calendar.specs.Calendar.{leap, month_length, first_bad, noon_number, day_of_date}
use Rattle.decimals.specs.Texts.{text, line_feed}
use Rattle.decimals.specs.Decimals.{zero_digit, decimal, written}
use Rattle.decimals.specs.Numerals.{Digits, value, Decimal}
use Rattle.decimals.proofs.Numbers.{grows}
use Rattle.date_lines.specs.Lines.{space, fresh, greatest, numbers, at_space, at_digit}
use Rattle.date_lines.specs.Lines.{take, reading, read}
use Rattle.date_lines.specs.Replies.{refused, day_text, reply, after, said, line_after, replies}
use Rattle.date_lines.specs.States.{state_fresh, state_take, state_reading, state_read, state_reply}
use Rattle.date_lines.specs.States.{state_after, state_said, state_line_after, state_replies}
use Rattle.date_lines.specs.declared.states.State.{State}
use Rattle.date_lines.specs.Written.{NoFeed, ThreeNumbers, Decided, three, fault, example_lines, example_replies}
use Rattle.date_lines.specs.declared.reader.Line.{Line}
use Rattle.date_lines.specs.declared.reader.Fault.{Fault}
use Rattle.calendar.specs.declared.Date.{Date}
use Rattle.std.specs.Prelude.{Some, None, Result, Ok, Err}
use Rattle.date_lines.proofs.LeastNumber.{greatest_most}
use Rattle.date_lines.proofs.OnlyThree.{state, one_digit, minus_read, only_three}

-- Two pieces are the input in one.
pub cut_line : (s : Result Line Fault) (xs ys : List ℕ) → line_after s (xs ++ ys) ≡ line_after (line_after s xs) ys
unfolding line_after
cut_line s [] ys = refl
cut_line s (b ∷ xs) ys = cut_line (after s b) xs ys

pub cut_replies : (s : Result Line Fault) (xs ys : List ℕ) → replies s (xs ++ ys) ≡ replies s xs ++ replies (line_after s xs) ys
unfolding line_after replies
cut_replies s [] ys = refl
cut_replies s (b ∷ xs) ys =
    ap (λ (t : List ℕ). said s b ++ t) (cut_replies (after s b) xs ys) ∙ sym
    (append_assoc (said s b) (replies (after s b) xs) (replies (line_after (after s b) xs) ys))

-- A line and its line feed: the reply to what it says, and a fresh line.
pub one_line : (s : Result Line Fault) (l rest : List ℕ) → NoFeed l → replies s (l ++ (line_feed ∷ rest)) ≡ reply (reading (read s l)) ++ replies fresh rest
unfolding replies read after said
one_line s [] rest h = refl
one_line s (b ∷ l) rest h = rw (ne_eqb b line_feed h.0) (one_line (take s b) l rest h.1)

-- The same from a state.
pub cut_state_line : (s : State) (xs ys : List ℕ) → state_line_after s (xs ++ ys) ≡ state_line_after (state_line_after s xs) ys
unfolding state_line_after
cut_state_line s [] ys = refl
cut_state_line s (b ∷ xs) ys = cut_state_line (state_after s b) xs ys

pub cut_state_replies : (s : State) (xs ys : List ℕ)
    → state_replies s (xs ++ ys) ≡ state_replies s xs ++ state_replies (state_line_after s xs) ys
unfolding state_line_after state_replies
cut_state_replies s [] ys = refl
cut_state_replies s (b ∷ xs) ys =
    ap (λ (t : List ℕ). state_said s b ++ t) (cut_state_replies (state_after s b) xs ys) ∙ sym
    (append_assoc (state_said s b) (state_replies (state_after s b) xs) (state_replies (state_line_after (state_after s b) xs) ys))

pub one_state_line : (s : State) (l rest : List ℕ) → NoFeed l
    → state_replies s (l ++ (line_feed ∷ rest)) ≡ state_reply (state_reading (state_read s l)) ++ state_replies state_fresh rest
unfolding state_replies state_read state_after state_said
one_state_line s [] rest h = refl
one_state_line s (b ∷ l) rest h = rw (ne_eqb b line_feed h.0) (one_state_line (state_take s b) l rest h.1)

module _ (count : ℕ) (year month : ℤ) (few : count ≤ 2) (minus : Bool) where
  more_digits : (v : ℕ) (ds rest : List ℕ) → Digits ds → value v ds ≤ greatest minus
      → read (state count year month minus (Some v)) (ds ++ rest) ≡ read (state count year month minus (Some (value v ds))) rest
  unfolding value read
  more_digits v [] rest h l = refl
  more_digits v (b ∷ ds) rest h l =
      let g = grows (10 * v + (b - zero_digit)) ds in
      ap (λ (s : Result Line Fault). read s (ds ++ rest)) (one_digit count year month few minus (Some v) b h.0 h.1 (omega (arith, greatest_most minus)))
      ∙ more_digits (10 * v + (b - zero_digit)) ds rest h.2 l

  all_digits : (b : ℕ) (ds rest : List ℕ) → Decimal greatest minus b ds
      → read (state count year month minus None) (b ∷ (ds ++ rest)) ≡ read (state count year month minus (Some (value 0 (b ∷ ds)))) rest
  unfolding value read
  all_digits b ds rest h =
      ap (λ (s : Result Line Fault). read s (ds ++ rest)) (one_digit count year month few minus None b h.digits.0 h.digits.1 (omega arith))
      ∙ more_digits (10 * 0 + (b - zero_digit)) ds rest h.digits.2 h.small

number_read : (count : ℕ) (year month : ℤ) (few : count ≤ 2) (minus : Bool) (b : ℕ) (ds rest : List ℕ) → Decimal greatest minus b ds
    → read (state count year month false None) (written minus (b ∷ ds) ++ rest) ≡ read (state count year month minus (Some (value 0 (b ∷ ds)))) rest
unfolding read
number_read count year month few false b ds rest h = all_digits count year month few false b ds rest h
number_read count year month few true b ds rest h =
    ap (λ (s : Result Line Fault). read s (b ∷ (ds ++ rest))) (minus_read count year month few) ∙ all_digits count year month few true b ds rest h

-- A space after the year and after the month, and the end after the day.
module _ (minus : Bool) (v : ℕ) (l : v ≤ greatest minus) where
  year_read : (rest : List ℕ) → read (state 0 (pos 0) (pos 0) minus (Some v)) (space ∷ rest) ≡ read (state 1 (sgn minus v) (pos 0) false None) rest
  unfolding read take at_space
  year_read rest = rw (le-ltb (greatest minus) v l)

  month_read : (y : ℤ) (rest : List ℕ) → read (state 1 y (pos 0) minus (Some v)) (space ∷ rest) ≡ read (state 2 y (sgn minus v) false None) rest
  unfolding read take at_space
  month_read y rest = rw (le-ltb (greatest minus) v l)

  day_read : (y m : ℤ) → reading (read (state 2 y m minus (Some v)) []) ≡ Ok (numbers y m (sgn minus v))
  unfolding read reading
  day_read y m = rw (le-ltb (greatest minus) v l)

-- Three numbers parted by single spaces are these numbers.
pub three_numbers : (a b c : Bool) (f g h : ℕ) (fs gs hs : List ℕ) → Decimal greatest a f fs → Decimal greatest b g gs → Decimal greatest c h hs
    → reading (read fresh (written a (f ∷ fs) ++ (space ∷ (written b (g ∷ gs) ++ (space ∷ (written c (h ∷ hs) ++ []))))))
    ≡ Ok (numbers (sgn a (value 0 (f ∷ fs))) (sgn b (value 0 (g ∷ gs))) (sgn c (value 0 (h ∷ hs))))
three_numbers a b c f g h fs gs hs p q r =
    let y : ℤ = sgn a (value 0 (f ∷ fs)) in
    let m : ℤ = sgn b (value 0 (g ∷ gs)) in
    let z : List ℕ = written c (h ∷ hs) ++ [] in
    ap reading
    (number_read 0 (pos 0) (pos 0) (omega arith) a f fs (space ∷ (written b (g ∷ gs) ++ (space ∷ z))) p
    ∙ year_read a (value 0 (f ∷ fs)) p.small (written b (g ∷ gs) ++ (space ∷ z))
    ∙ number_read 1 y (pos 0) (omega arith) b g gs (space ∷ z) q
    ∙ month_read b (value 0 (g ∷ gs)) q.small y z
    ∙ number_read 2 y m (omega arith) c h hs [] r)
    ∙ day_read c (value 0 (h ∷ hs)) r.small y m

-- And only those: a line is read as three numbers exactly where it has these, and else as a fault.
pub three_read : (l : List ℕ) (y m d : ℤ) → ThreeNumbers l y m d → reading (read fresh l) ≡ Ok (numbers y m d)
three_read l y m d t =
    let p = t.year in
    let q = t.month in
    let r = t.day in
    let w : l ≡ written p.minus (p.first ∷ p.more)
    ++ (space ∷ (written q.minus (q.first ∷ q.more) ++ (space ∷ (written r.minus (r.first ∷ r.more) ++ [])))) =
    t.line_is ∙ rw (p.bytes_are, q.bytes_are, r.bytes_are, append-nil) in
    ap (λ (x : List ℕ). reading (read fresh x)) w
    ∙ three_numbers p.minus q.minus r.minus p.first q.first r.first p.more q.more r.more
    p.decimal q.decimal r.decimal
    ∙ rw (← p.is, ← q.is, ← r.is)

pub read_three : (l : List ℕ) (y m d : ℤ) → reading (read fresh l) ≡ Ok (numbers y m d) → ThreeNumbers l y m d
read_three l y m d e = only_three y m d l e

pub every_line : (l : List ℕ) → Decided l (reading (read fresh l))
every_line l = go (reading (read fresh l)) refl
  where
    go : (r : Result Date Fault) → reading (read fresh l) ≡ r → Decided l r
    go (Ok t) e = three t.year t.month t.day (read_three l t.year t.month t.day e) refl
    go (Err f) e = fault f (λ y m d t. other y m d (three_read l y m d t)) refl
      where
        other : (y m d : ℤ) → reading (read fresh l) ≡ Ok (numbers y m d) → ⊥
        other y m d q = cc

-- The two lines of the rules: `1582 10 4` and `1582 10 10` are answered `2299160` and `refused 1`.
pub two_lines : replies fresh example_lines ≡ example_replies
unfolding replies said after take at_space at_digit reading reply day_text decimal refused sgn natural_or day_of_date first_bad month_length leap noon_number
    floor modulo greatest text
two_lines = refl
