-- A line that is read as three numbers has these numbers, each written as a decimal, parted by single spaces, and nothing else. Assumes nothing.
use mathlib.Core.Path.{◌≡◌, refl, sym, ap, ◌∙◌, subst}
use mathlib.Core.Bool.{Bool, true, false, cond}
use mathlib.Core.List.{List, [], ◌∷◌, ◌++◌, append-nil}
use Prim.Native.Nat.{ℕ, ◌+◌, ◌*◌, ◌-◌, ◌≤◌, ◌<◌}
use native.Mathlib.Decide.{dec_le, ℕ_discrete}
use native.Mathlib.Omega.{arith}
use borrow.Author.Tests.{eq-eqb, ne_eqb, lt-ltb, le-ltb}
use lib.Dec.{eqb}
use lib.IntN.{ℤ, pos}
use Rattle.integers.specs.Signs.{sgn}
use Rattle.calendar.specs.declared.Date.{Date}
use Rattle.decimals.specs.Decimals.{minus_sign, zero_digit, nine_digit, written}
use Rattle.decimals.specs.Numerals.{Digits, value, Numeral}
use Rattle.std.specs.Prelude.{Option, Some, None, Result, Ok, Err}
use Rattle.date_lines.specs.Lines.{space, digit_limit, so_far, numbers}
use Rattle.date_lines.specs.Lines.{waiting, fresh, faulty, greatest, ended, at_space, at_minus, at_digit, take, reading, read}
use Rattle.date_lines.specs.Written.{ThreeNumbers}
use Rattle.date_lines.specs.declared.reader.Fault.{Fault}
use Rattle.date_lines.specs.declared.reader.Fault.TheVariants.{Empty, Byte, Space, Large, Few, Many}
use Rattle.date_lines.specs.declared.reader.Line.{Line}

-- A line without a fault, in the middle of a number or before it.
abbrev pub begun : ℕ → ℤ → ℤ → Bool → Option ℕ → Line
begun count year month minus value = record { count = count; year = year; month = month; minus = minus; value = value }

abbrev pub state : ℕ → ℤ → ℤ → Bool → Option ℕ → Result Line Fault
state count year month minus value = Ok (begun count year month minus value)

-- One byte of a number.
pub minus_read : (count : ℕ) (year month : ℤ) → count ≤ 2 → take (state count year month false None) minus_sign ≡ state count year month true None
unfolding take at_minus
minus_read count year month few = rw (le-ltb 2 count few)

module _ (count : ℕ) (year month : ℤ) (few : count ≤ 2) (minus : Bool) (value : Option ℕ) (b : ℕ) where
  pub one_digit : zero_digit ≤ b → b ≤ nine_digit → so_far value ≤ digit_limit
      → take (state count year month minus value) b ≡ state count year month minus (Some (10 * so_far value + (b - zero_digit)))
  unfolding take at_digit
  one_digit p q l =
      rw (
        ne_eqb b space (λ e. omega (arith, e)),
        le-ltb 2 count few,
        ne_eqb b minus_sign (λ e. omega (arith, e)),
        le-ltb b zero_digit p,
        le-ltb nine_digit b q,
        le-ltb digit_limit (so_far value) l,
      )

  -- The bytes that a number has not.
  module _ (s : b ≡ space → ⊥) where
    module _ (q : b ≡ minus_sign → ⊥) where
      below : b < zero_digit → take (state count year month minus value) b ≡ faulty Byte
      unfolding take at_digit
      below l = rw (ne_eqb b space s, le-ltb 2 count few, ne_eqb b minus_sign q, lt-ltb b zero_digit l)

      above : nine_digit < b → take (state count year month minus value) b ≡ faulty Byte
      unfolding take at_digit
      above l =
          let p : zero_digit ≤ b = omega arith in
          rw (ne_eqb b space s, le-ltb 2 count few, ne_eqb b minus_sign q, le-ltb b zero_digit p, lt-ltb nine_digit b l)

      too_many : zero_digit ≤ b → b ≤ nine_digit → digit_limit < so_far value → take (state count year month minus value) b ≡ faulty Large
      unfolding take at_digit
      too_many p r l =
          rw (
            ne_eqb b space s,
            le-ltb 2 count few,
            ne_eqb b minus_sign q,
            le-ltb b zero_digit p,
            le-ltb nine_digit b r,
            lt-ltb digit_limit (so_far value) l,
          )

module _ (count : ℕ) (year month : ℤ) (few : count ≤ 2) (b : ℕ) (s : b ≡ space → ⊥) (q : b ≡ minus_sign) where
  second_minus : (minus : Bool) (v : ℕ) → take (state count year month minus (Some v)) b ≡ faulty Byte
  unfolding take at_minus
  second_minus minus v = rw (ne_eqb b space s, le-ltb 2 count few, eq-eqb b minus_sign q)

  minus_minus : (minus : Bool) → minus ≡ true → take (state count year month minus None) b ≡ faulty Byte
  unfolding take at_minus
  minus_minus minus p = rw (ne_eqb b space s, le-ltb 2 count few, eq-eqb b minus_sign q, p)

abbrev date_of : Result Date Fault → Date
date_of (Ok d) = d
date_of (Err f) = numbers (pos 0) (pos 0) (pos 0)

-- A fault stays, and is no three numbers.
faulty_stays : (f : Fault) (l : List ℕ) → read (faulty f) l ≡ faulty f
unfolding read take
faulty_stays f [] = refl
faulty_stays f (b ∷ l) = faulty_stays f l

module _ (Y M D : ℤ) where
  not_bad : (f : Fault) → ◌≡◌ {A = Result Date Fault} (Err f) (Ok (numbers Y M D)) → ⊥
  not_bad f e = cc

  no_three : (f : Fault) (l : List ℕ) → reading (read (faulty f) l) ≡ Ok (numbers Y M D) → ⊥
  unfolding reading
  no_three f l e = not_bad f (rw (faulty_stays f l) at e)

  spoiled : (f : Fault) (s : Result Line Fault) (b : ℕ) (l : List ℕ) → take s b ≡ faulty f → reading (read s (b ∷ l)) ≡ Ok (numbers Y M D) → ⊥
  unfolding read
  spoiled f s b l p e = no_three f l (rw p at e)

-- What may stand after a number: nothing, or a space and more.
data Parted : List ℕ → Type 0 where
  at_end : Parted []
  before : {rest : List ℕ} → Parted (space ∷ rest)

-- The digits of a number that are left, after the value v.
record MoreDigits (count : ℕ) (year month : ℤ) (minus : Bool) (v : ℕ) (l : List ℕ) : Type 0 where
  ds : List ℕ
  rest : List ℕ
  digits : Digits ds
  line : l ≡ ds ++ rest
  parted : Parted rest
  comes : read (state count year month minus (Some v)) l ≡ read (state count year month minus (Some (value v ds))) rest

-- The digits of a number, after its sign.
record AllDigits (count : ℕ) (year month : ℤ) (minus : Bool) (l : List ℕ) : Type 0 where
  first : ℕ
  more : List ℕ
  rest : List ℕ
  digits : Digits (first ∷ more)
  line : l ≡ (first ∷ more) ++ rest
  parted : Parted rest
  comes : read (state count year month minus None) l ≡ read (state count year month minus (Some (value 0 (first ∷ more)))) rest

module _ (count : ℕ) (year month : ℤ) (few : count ≤ 2) (Y M D : ℤ) (minus : Bool) where
  more_digits : (l : List ℕ) (v : ℕ) → reading (read (state count year month minus (Some v)) l) ≡ Ok (numbers Y M D) → MoreDigits count year month minus v l
  unfolding read value
  more_digits [] v e = record { ds = []; rest = []; digits = tt; line = refl; parted = at_end; comes = refl }
  more_digits (b ∷ l) v e =
      go (more_digits l) (ℕ_discrete b space) (ℕ_discrete b minus_sign) (dec_le zero_digit b) (dec_le b nine_digit) (dec_le v digit_limit)
    where
      s : Result Line Fault
      s = state count year month minus (Some v)

      part : b ≡ space → Parted (b ∷ l)
      part p = rw p before

      go : ((v : ℕ) → reading (read (state count year month minus (Some v)) l) ≡ Ok (numbers Y M D) → MoreDigits count year month minus v l)
          → Dec (b ≡ space) → Dec (b ≡ minus_sign) → Dec (zero_digit ≤ b) → Dec (b ≤ nine_digit) → Dec (v ≤ digit_limit)
          → MoreDigits count year month minus v (b ∷ l)
      go r (yes p) q h k m = record { ds = []; rest = b ∷ l; digits = tt; line = refl; parted = part p; comes = refl }
      go r (no p) (yes q) h k m = absurd (spoiled Y M D Byte s b l (second_minus count year month few b p q minus v) e)
      go r (no p) (no q) (no h) k m =
          absurd (spoiled Y M D Byte s b l (below count year month few minus (Some v) b p q (omega (arith, h))) e)
      go r (no p) (no q) (yes h) (no k) m =
          absurd (spoiled Y M D Byte s b l (above count year month few minus (Some v) b p q (omega (arith, k))) e)
      go r (no p) (no q) (yes h) (yes k) (no m) =
          absurd (spoiled Y M D Large s b l (too_many count year month few minus (Some v) b p q h k (omega (arith, m))) e)
      go r (no p) (no q) (yes h) (yes k) (yes m) =
          let t = one_digit count year month few minus (Some v) b h k m in
          let n = r (10 * v + (b - zero_digit)) (rw t at e) in
          record {
            ds = b ∷ n.ds;
            rest = n.rest;
            digits = (h, k, n.digits);
            line = ap (λ (x : List ℕ). b ∷ x) n.line;
            parted = n.parted;
            comes = ap (λ (x : Result Line Fault). read x l) t ∙ n.comes;
          }

  -- No digit at the end, and a space before any.
  no_digit : reading (state count year month minus None) ≡ Ok (numbers Y M D) → ⊥
  unfolding reading
  no_digit e = go minus (eqb count 0) e
    where
      go : (m z : Bool) → cond m (Err Byte) (cond z (Err Empty) (Err Space)) ≡ Ok (numbers Y M D) → ⊥
      go true z e = not_bad Y M D Byte e
      go false true e = not_bad Y M D Empty e
      go false false e = not_bad Y M D Space e

  early_space : (l : List ℕ) → reading (read (state count year month minus None) (space ∷ l)) ≡ Ok (numbers Y M D) → ⊥
  unfolding read take at_space
  early_space l e = go minus e
    where
      go : (m : Bool) → reading (read (cond m (faulty Byte) (faulty Space)) l) ≡ Ok (numbers Y M D) → ⊥
      go true e = no_three Y M D Byte l e
      go false e = no_three Y M D Space l e

  all_digits : (b : ℕ) (l : List ℕ) → (b ≡ minus_sign → minus ≡ true) → reading (read (state count year month minus None) (b ∷ l)) ≡ Ok (numbers Y M D)
      → AllDigits count year month minus (b ∷ l)
  unfolding read value
  all_digits b l u e = go (ℕ_discrete b space) (ℕ_discrete b minus_sign) (dec_le zero_digit b) (dec_le b nine_digit)
    where
      s : Result Line Fault
      s = state count year month minus None

      go : Dec (b ≡ space) → Dec (b ≡ minus_sign) → Dec (zero_digit ≤ b) → Dec (b ≤ nine_digit) → AllDigits count year month minus (b ∷ l)
      go (yes p) q h k = absurd (early_space l (rw p at e))
      go (no p) (yes q) h k = absurd (spoiled Y M D Byte s b l (minus_minus count year month few b p q minus (u q)) e)
      go (no p) (no q) (no h) k =
          absurd (spoiled Y M D Byte s b l (below count year month few minus None b p q (omega (arith, h))) e)
      go (no p) (no q) (yes h) (no k) =
          absurd (spoiled Y M D Byte s b l (above count year month few minus None b p q (omega (arith, k))) e)
      go (no p) (no q) (yes h) (yes k) =
          let t = one_digit count year month few minus None b h k (omega arith) in
          let n = more_digits l (10 * 0 + (b - zero_digit)) (rw t at e) in
          record {
            first = b;
            more = n.ds;
            rest = n.rest;
            digits = (h, k, n.digits);
            line = ap (λ (x : List ℕ). b ∷ x) n.line;
            parted = n.parted;
            comes = ap (λ (x : Result Line Fault). read x l) t ∙ n.comes;
          }

-- A whole number, with its sign, and what comes after it.
record Whole (count : ℕ) (year month : ℤ) (l : List ℕ) : Type 0 where
  minus : Bool
  first : ℕ
  more : List ℕ
  rest : List ℕ
  digits : Digits (first ∷ more)
  line : l ≡ written minus (first ∷ more) ++ rest
  parted : Parted rest
  comes : read (Ok (waiting count year month)) l ≡ read (state count year month minus (Some (value 0 (first ∷ more)))) rest

module _ (count : ℕ) (year month : ℤ) (few : count ≤ 2) (Y M D : ℤ) where
  whole : (l : List ℕ) → reading (read (Ok (waiting count year month)) l) ≡ Ok (numbers Y M D) → Whole count year month l
  unfolding read
  whole [] e = absurd (no_digit count year month few Y M D false e)
  whole (b ∷ l) e = go (ℕ_discrete b minus_sign)
    where
      minus_first : b ≡ minus_sign → take (state count year month false None) b ≡ state count year month true None
      minus_first p = rw p (minus_read count year month few)

      rest_of : b ≡ minus_sign → (l : List ℕ) → reading (read (state count year month true None) l) ≡ Ok (numbers Y M D) → AllDigits count year month true l
      rest_of p [] e = absurd (no_digit count year month few Y M D true e)
      rest_of p (c ∷ l) e = all_digits count year month few Y M D true c l (λ q. refl) e

      go : Dec (b ≡ minus_sign) → Whole count year month (b ∷ l)
      go (yes p) =
          let t = minus_first p in
          let n = rest_of p l (rw t at e) in
          record {
            minus = true;
            first = n.first;
            more = n.more;
            rest = n.rest;
            digits = n.digits;
            line = ap (λ (x : ℕ). x ∷ l) p ∙ ap (λ (x : List ℕ). minus_sign ∷ x) n.line;
            parted = n.parted;
            comes = ap (λ (x : Result Line Fault). read x l) t ∙ n.comes;
          }
      go (no p) =
          let n = all_digits count year month few Y M D false b l (λ q. absurd (p q)) e in
          record {
            minus = false;
            first = n.first;
            more = n.more;
            rest = n.rest;
            digits = n.digits;
            line = n.line;
            parted = n.parted;
            comes = n.comes;
          }

  -- The number has 64 bits; at the end of the line it is the third, and at a space the line goes on.
  record Ended (minus : Bool) (v : ℕ) : Type 0 where
    small : v ≤ greatest minus
    two : 2 ≤ count
    year_is : year ≡ Y
    month_is : month ≡ M
    day_is : sgn minus v ≡ D

  at_last : (minus : Bool) (v : ℕ) → reading (state count year month minus (Some v)) ≡ Ok (numbers Y M D) → Ended minus v
  unfolding reading
  at_last minus v e = go (dec_le v (greatest minus)) (dec_le 2 count) e
    where
      go : Dec (v ≤ greatest minus) → Dec (2 ≤ count) → reading (state count year month minus (Some v)) ≡ Ok (numbers Y M D) → Ended minus v
      go (no l) h e = let k : greatest minus < v = omega (arith, l) in absurd (not_bad Y M D Large (rw (lt-ltb (greatest minus) v k) at e))
      go (yes l) (no h) e =
          let k : count < 2 = omega (arith, h) in
          absurd (not_bad Y M D Few (rw (le-ltb (greatest minus) v l, lt-ltb count 2 k) at e))
      go (yes l) (yes h) e =
          let t : ◌≡◌ {A = Result Date Fault} (Ok (numbers year month (sgn minus v))) (Ok (numbers Y M D)) = rw (le-ltb (greatest minus) v l, le-ltb count 2 h) at e in
          record {
            small = l;
            two = h;
            year_is = ap (λ (r : Result Date Fault). (date_of r).year) t;
            month_is = ap (λ (r : Result Date Fault). (date_of r).month) t;
            day_is = ap (λ (r : Result Date Fault). (date_of r).day) t;
          }

  record RunsOn (minus : Bool) (v : ℕ) (rest : List ℕ) : Type 0 where
    small : v ≤ greatest minus
    on : reading (read (Ok (ended (begun count year month minus (Some v)) (sgn minus v))) rest) ≡ Ok (numbers Y M D)

  at_parting : (minus : Bool) (v : ℕ) (rest : List ℕ) → reading (read (state count year month minus (Some v)) (space ∷ rest)) ≡ Ok (numbers Y M D)
      → RunsOn minus v rest
  unfolding read take at_space
  at_parting minus v rest e = go (dec_le v (greatest minus))
    where
      go : Dec (v ≤ greatest minus) → RunsOn minus v rest
      go (no l) =
          let k : greatest minus < v = omega (arith, l) in
          absurd (no_three Y M D Large rest (rw (lt-ltb (greatest minus) v k) at e))
      go (yes l) = record { small = l; on = rw (le-ltb (greatest minus) v l) at e }

numeral : (minus : Bool) (first : ℕ) (more : List ℕ) (n : ℤ) → Digits (first ∷ more) → value 0 (first ∷ more) ≤ greatest minus
    → n ≡ sgn minus (value 0 (first ∷ more)) → Numeral greatest (written minus (first ∷ more)) n
numeral minus first more n d l e =
    record { minus = minus; first = first; more = more; decimal = record { digits = d; small = l }; bytes_are = refl; is = e }

-- After three numbers and a space nothing is good.
no_fourth : (year month Y M D : ℤ) (l : List ℕ) → reading (read (Ok (waiting 3 year month)) l) ≡ Ok (numbers Y M D) → ⊥
unfolding read take at_space
no_fourth year month Y M D [] e = unfold reading in not_bad Y M D Space e
no_fourth year month Y M D (b ∷ l) e = go (ℕ_discrete b space)
  where
    go : Dec (b ≡ space) → ⊥
    go (yes p) = no_three Y M D Space l (rw (eq-eqb b space p) at e)
    go (no p) = no_three Y M D Many l (rw (ne_eqb b space p) at e)

-- The day, the month and the day, and all three.
record DayAlone (year month Y M D : ℤ) (l : List ℕ) : Type 0 where
  day : Numeral greatest l D
  year_is : year ≡ Y
  month_is : month ≡ M

day_alone : (year month Y M D : ℤ) (l : List ℕ) → reading (read (Ok (waiting 2 year month)) l) ≡ Ok (numbers Y M D) → DayAlone year month Y M D l
unfolding read
day_alone year month Y M D l e = go w.rest w.parted w.line (rw w.comes at e)
  where
    w : Whole 2 year month l
    w = whole 2 year month (omega arith) Y M D l e

    go : (rest : List ℕ) → Parted rest → l ≡ written w.minus (w.first ∷ w.more) ++ rest
        → reading (read (state 2 year month w.minus (Some (value 0 (w.first ∷ w.more)))) rest) ≡ Ok (numbers Y M D) → DayAlone year month Y M D l
    go rest at_end i q =
        let n = at_last 2 year month (omega arith) Y M D w.minus (value 0 (w.first ∷ w.more)) q in
        let j : l ≡ written w.minus (w.first ∷ w.more) = i ∙ append-nil (written w.minus (w.first ∷ w.more)) in
        let d = numeral w.minus w.first w.more D w.digits n.small (sym n.day_is) in
        record {
          day = subst (λ (x : List ℕ). Numeral greatest x D) (sym j) d;
          year_is = n.year_is;
          month_is = n.month_is;
        }
    go rest (before {rest = t}) i q =
        let n = at_parting 2 year month (omega arith) Y M D w.minus (value 0 (w.first ∷ w.more)) t q in
        absurd (no_fourth year month Y M D t n.on)

record MonthAndDay (year Y M D : ℤ) (l : List ℕ) : Type 0 where
  ms : List ℕ
  ds : List ℕ
  month : Numeral greatest ms M
  day : Numeral greatest ds D
  line : l ≡ ms ++ (space ∷ ds)
  year_is : year ≡ Y

month_and_day : (year Y M D : ℤ) (l : List ℕ) → reading (read (Ok (waiting 1 year (pos 0))) l) ≡ Ok (numbers Y M D) → MonthAndDay year Y M D l
unfolding read
month_and_day year Y M D l e = go w.rest w.parted w.line (rw w.comes at e)
  where
    w : Whole 1 year (pos 0) l
    w = whole 1 year (pos 0) (omega arith) Y M D l e

    go : (rest : List ℕ) → Parted rest → l ≡ written w.minus (w.first ∷ w.more) ++ rest
        → reading (read (state 1 year (pos 0) w.minus (Some (value 0 (w.first ∷ w.more)))) rest) ≡ Ok (numbers Y M D) → MonthAndDay year Y M D l
    go rest at_end i q =
        let n = at_last 1 year (pos 0) (omega arith) Y M D w.minus (value 0 (w.first ∷ w.more)) q in
        absurd (omega (arith, n.two))
    go rest (before {rest = t}) i q =
        let n = at_parting 1 year (pos 0) (omega arith) Y M D w.minus (value 0 (w.first ∷ w.more)) t q in
        let d = day_alone year (sgn w.minus (value 0 (w.first ∷ w.more))) Y M D t n.on in
        record {
          ms = written w.minus (w.first ∷ w.more);
          ds = t;
          month = numeral w.minus w.first w.more M w.digits n.small (sym d.month_is);
          day = d.day;
          line = i;
          year_is = d.year_is;
        }

-- A line that is read as three numbers has these.
pub only_three : (Y M D : ℤ) (l : List ℕ) → reading (read fresh l) ≡ Ok (numbers Y M D) → ThreeNumbers l Y M D
unfolding read
only_three Y M D l e = go w.rest w.parted w.line (rw w.comes at e)
  where
    w : Whole 0 (pos 0) (pos 0) l
    w = whole 0 (pos 0) (pos 0) (omega arith) Y M D l e

    go : (rest : List ℕ) → Parted rest → l ≡ written w.minus (w.first ∷ w.more) ++ rest
        → reading (read (state 0 (pos 0) (pos 0) w.minus (Some (value 0 (w.first ∷ w.more)))) rest) ≡ Ok (numbers Y M D) → ThreeNumbers l Y M D
    go rest at_end i q =
        let n = at_last 0 (pos 0) (pos 0) (omega arith) Y M D w.minus (value 0 (w.first ∷ w.more)) q in
        absurd (omega (arith, n.two))
    go rest (before {rest = t}) i q =
        let n = at_parting 0 (pos 0) (pos 0) (omega arith) Y M D w.minus (value 0 (w.first ∷ w.more)) t q in
        let d = month_and_day (sgn w.minus (value 0 (w.first ∷ w.more))) Y M D t n.on in
        record {
          ys = written w.minus (w.first ∷ w.more);
          ms = d.ms;
          ds = d.ds;
          year = numeral w.minus w.first w.more Y w.digits n.small (sym d.year_is);
          month = d.month;
          day = d.day;
          line_is = i ∙ ap (λ (x : List ℕ). written w.minus (w.first ∷ w.more) ++ (space ∷ x)) d.line;
        }
