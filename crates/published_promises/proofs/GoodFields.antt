-- The bytes of a good figure, to the right in its field, are taken one by one, and its number then stands in the line. Assumes nothing.
use mathlib.Core.Path.{◌≡◌, refl, sym, ap, ◌∙◌}
use mathlib.Core.Bool.{Bool, true, false}
use mathlib.Core.List.{List, [], ◌∷◌, ◌++◌, append-nil}
use Prim.Native.Nat.{ℕ, zero, suc, ◌+◌, ◌-◌, ◌≤◌}
use native.Mathlib.Omega.{arith}
use borrow.Author.Tests.{eq-eqb, ne_eqb, eqb-true, lt-ltb, le-leb}
use lib.Dec.{eqb}
use lib.ListN.{length, length-append}
use Rattle.integers.proofs.Tests.{by_cases}
use Rattle.series_lines.specs.declared.Line.{Line}
use Rattle.series_lines.specs.Grammar.{space, minus_sign, point, digit_0, spaces, sign, digits, Natural, Decimal, size, decimal, GoodDecimal}
use Rattle.series_lines.specs.Grammar.{count_digits, whole_digits, part_digits, CountLine, count, count_bytes, GoodCount}
use Rattle.series_lines.specs.Lexer.{spot_decimal, spot_count, spot_done, fresh, put, with_minus, lex, lexes}
use Rattle.published_records.specs.declared.Column.{Column}
use Rattle.published_records.specs.declared.Column.TheVariants.{Count}
use Rattle.published_records.specs.Rows.{decimal_column, no_digit, unbegun, may_begin, in_whole}
use Rattle.text_promises.proofs.GoodLines.{flag, lexes_append, decimal_run, count_run}
use Rattle.text_promises.proofs.OneByte.{Lexed, none, digit, pointed, spaced, kept, negated, view}
use Rattle.text_promises.proofs.TakenTerms.{no_digit as no_more}
use Rattle.published_promises.proofs.RowLaws.{in_field, begun_digit}
use Rattle.published_promises.proofs.Stretches.{decimal_whole, decimal_part, field_lines}

-- ---- Spaces before a figure.

skip : (w most : ℕ) (l : Line) → unbegun l ≡ true → 1 ≤ w → in_whole w most l space ≡ l
unfolding in_whole
skip w most l u h = rw (u, le-leb 1 w h)

-- With at least so many columns after a space.
spaces_field : (k : ℕ → Column) (least : ℕ) (l : Line) → ((m : ℕ) → least ≤ m → in_field (k m) l space ≡ l) → (n : ℕ) (ys : List ℕ)
    → least ≤ length ys → field_lines k l (spaces n ++ ys) ≡ field_lines k l ys
unfolding field_lines spaces
spaces_field k least l s zero ys h = refl
spaces_field k least l s (suc n) ys h =
    ap (λ (q : Line). field_lines k q (spaces n ++ ys)) (s (length (spaces n ++ ys)) (omega (arith, length-append (spaces n) ys)))
    ∙ spaces_field k least l s n ys h

-- ---- Digits after the first.

record Begun (l : Line) : Type 0 where
  some : 1 ≤ l.spot
  not_count_indent : l.spot ≡ spot_count - 1 → ⊥
  not_count : l.spot ≡ spot_count → ⊥

begun_next : (l : Line) (d : ℕ) → Begun l → Begun (lex l (digit_0 + d))
begun_next l d b = go (lex l (digit_0 + d)) (view l (digit_0 + d))
  where
    go : (m : Line) → Lexed l (digit_0 + d) m → Begun m
    go _ none = record { some = omega arith; not_count_indent = λ e. omega (arith, e); not_count = λ e. omega (arith, e) }
    go _ (digit c i h t) =
        let k : l.spot ≡ spot_done → ⊥ = λ e. no_more l.minus l.value c (rw e at t) in
        record { some = omega arith; not_count_indent = λ e. k (omega (arith, e)); not_count = λ e. b.not_count_indent (omega (arith, e)) }
    go _ (pointed i h k) = absurd (omega arith)
    go _ (spaced i h k) = absurd (omega arith)
    go _ (kept i h k) = absurd (omega arith)
    go _ (negated i h k) = absurd (omega arith)

next_digit : (w most : ℕ) (l : Line) (d : ℕ) → Begun l → in_whole w most l (digit_0 + d) ≡ lex l (digit_0 + d)
unfolding in_whole
next_digit w most l d b =
    rw (
      ne_eqb (digit_0 + d) space (λ e. omega (arith, e)),
      ne_eqb (digit_0 + d) point (λ e. omega (arith, e)),
      begun_digit l (λ e. omega (arith, e, b.some)) b.not_count,
    )

digits_field : (k : ℕ → Column) (least : ℕ) → ((m : ℕ) (l : Line) (d : ℕ) → least ≤ m → Begun l → in_field (k m) l (digit_0 + d) ≡ lex l (digit_0 + d))
    → (l : Line) (ds ys : List ℕ) → Begun l → least ≤ length ys → field_lines k l (digits ds ++ ys) ≡ field_lines k (lexes l (digits ds)) ys
unfolding field_lines digits lexes
digits_field k least s l [] ys b h = refl
digits_field k least s l (d ∷ ds) ys b h =
    ap (λ (q : Line). field_lines k q (digits ds ++ ys))
    (s (length (digits ds ++ ys)) l d (omega (arith, length-append (digits ds) ys)) b)
    ∙ digits_field k least s (lex l (digit_0 + d)) ds ys (begun_next l d b) h

-- ---- The first digit, with as many digits after it as columns.

may_first : (most d : ℕ) (ds : List ℕ) → Natural most d ds → may_begin (length ds) most (digit_0 + d) ≡ true
unfolding may_begin
may_first most d ds g =
    by_cases (eqb (digit_0 + d) digit_0)
    (λ p. let z : d ≡ 0 = omega (arith, eqb-true (digit_0 + d) digit_0 p) in
    let e : length ds ≡ 0 = ap (λ (x : List ℕ). length x) (g.leading z) in
    rw (ne_eqb (digit_0 + d) minus_sign (λ i. omega (arith, i)), p) (eq-eqb (length ds) 0 e))
    (λ p. rw (ne_eqb (digit_0 + d) minus_sign (λ i. omega (arith, i)), p) (lt-ltb (length ds) most g.few))

first_digit : (most : ℕ) (l : Line) (d : ℕ) (ds : List ℕ) → no_digit l ≡ true → Natural most d ds
    → in_whole (length ds) most l (digit_0 + d) ≡ lex l (digit_0 + d)
unfolding in_whole
first_digit most l d ds n g =
    rw (
      ne_eqb (digit_0 + d) space (λ e. omega (arith, e)),
      ne_eqb (digit_0 + d) point (λ e. omega (arith, e)),
      n,
      may_first most d ds g,
    )

-- After it a figure has begun.
first_begun : (l : Line) (d : ℕ) → (l.spot ≡ spot_done → ⊥) → (l.spot ≡ spot_count - 1 → ⊥) → Begun (lex l (digit_0 + d))
first_begun l d a c = go (lex l (digit_0 + d)) (view l (digit_0 + d))
  where
    go : (m : Line) → Lexed l (digit_0 + d) m → Begun m
    go _ none = record { some = omega arith; not_count_indent = λ e. omega (arith, e); not_count = λ e. omega (arith, e) }
    go _ (digit x i h t) = record { some = omega arith; not_count_indent = λ e. a (omega (arith, e)); not_count = λ e. c (omega (arith, e)) }
    go _ (pointed i h k) = absurd (omega arith)
    go _ (spaced i h k) = absurd (omega arith)
    go _ (kept i h k) = absurd (omega arith)
    go _ (negated i h k) = absurd (omega arith)

-- ---- A count.

digits_length : (ds : List ℕ) → length (digits ds) ≡ length ds
unfolding digits
digits_length [] = refl
digits_length (d ∷ ds) = ap suc (digits_length ds)

pub count_field : (i : ℕ) (c : CountLine) → GoodCount c
    → field_lines Count (fresh spot_count) (spaces i ++ count_bytes c) ≡ put (fresh spot_count) (spot_count + 1 + length c.more) 0 (count c)
unfolding count_bytes digits field_lines in_field lexes no_digit unbegun
count_field i c g =
    let l = fresh spot_count in
    let ds = digits c.more in
    let first = digit_0 + c.first in
    let e : in_whole (length ds) count_digits l first ≡ lex l first =
    ap (λ (w : ℕ). in_whole w count_digits l first) (digits_length c.more) ∙ first_digit count_digits l c.first c.more refl g in
    spaces_field Count 1 l (λ m h. skip m count_digits l refl h) i (first ∷ ds) (omega arith)
    ∙ ap (λ (q : Line). field_lines Count q ds) e
    ∙ ap (λ (xs : List ℕ). field_lines Count (lex l first) xs) (sym (append-nil ds))
    ∙ digits_field Count 0 (λ m q d h b. next_digit m count_digits q d b) (lex l first) c.more []
    (first_begun l c.first (λ z. omega (arith, z)) (λ z. omega (arith, z))) (omega arith)
    ∙ count_run c g

-- ---- A decimal.

-- In its whole columns.
whole_field : (m w : ℕ) (l : Line) (byte : ℕ) → m ≡ w + part_digits + 1 → in_field (decimal_column m) l byte ≡ in_whole w whole_digits l byte
unfolding in_field
whole_field m w l byte e =
    let n : m - part_digits - 1 ≡ w = omega arith in
    ap (λ (k : Column). in_field k l byte) (decimal_whole m (omega arith)) ∙ ap (λ (j : ℕ). in_whole j whole_digits l byte) n

skip_decimal : (l : Line) → unbegun l ≡ true → (m : ℕ) → part_digits + 2 ≤ m → in_field (decimal_column m) l space ≡ l
skip_decimal l u m h =
    whole_field m (m - part_digits - 1) l space (omega arith) ∙ skip (m - part_digits - 1) whole_digits l u (omega arith)

minus_byte : (w : ℕ) (l : Line) → no_digit l ≡ true → 1 ≤ w → w ≤ whole_digits → in_whole w whole_digits l minus_sign ≡ lex l minus_sign
unfolding in_whole may_begin
minus_byte w l n h k = rw (n, le-leb 1 w h, le-leb w whole_digits k)

signed_line : (m : Bool) (l : Line) → lexes (put l spot_decimal 0 0) (sign m) ≡ put l spot_decimal (flag m) 0
unfolding lexes sign lex with_minus flag
signed_line true l = refl
signed_line false l = refl

sign_field : (m : Bool) (l : Line) (ys : List ℕ) (w : ℕ) → length ys ≡ w + part_digits + 1 → 1 ≤ w → w ≤ whole_digits
    → field_lines decimal_column (put l spot_decimal 0 0) (sign m ++ ys) ≡ field_lines decimal_column (put l spot_decimal (flag m) 0) ys
unfolding field_lines sign flag
sign_field true l ys w e h k =
    let r = put l spot_decimal 0 0 in
    let n : no_digit r ≡ true = unfold no_digit in refl in
    let s : lex r minus_sign ≡ put l spot_decimal 1 0 = unfold lex in unfold with_minus in refl in
    ap (λ (q : Line). field_lines decimal_column q ys) (whole_field (length ys) w r minus_sign e ∙ minus_byte w r n h k ∙ s)
sign_field false l ys w e h k = refl

natural_field : (l : Line) (d : ℕ) (ds ys : List ℕ) → no_digit l ≡ true → l.spot ≡ spot_decimal → Natural whole_digits d ds
    → length ys ≡ part_digits + 1 → field_lines decimal_column l (digits (d ∷ ds) ++ ys) ≡ field_lines decimal_column (lexes l (digits (d ∷ ds))) ys
unfolding field_lines digits lexes
natural_field l d ds ys n z g e =
    let first = digit_0 + d in
    let m : length (digits ds ++ ys) ≡ length ds + part_digits + 1 = omega (arith, length-append (digits ds) ys, digits_length ds) in
    ap (λ (q : Line). field_lines decimal_column q (digits ds ++ ys))
    (whole_field (length (digits ds ++ ys)) (length ds) l first m ∙ first_digit whole_digits l d ds n g)
    ∙ digits_field decimal_column (part_digits + 1)
    (λ j q c h b. whole_field j (j - part_digits - 1) q (digit_0 + c) (omega arith) ∙ next_digit (j - part_digits - 1) whole_digits q c b)
    (lex l first) ds ys (first_begun l d (λ i. omega (arith, i)) (λ i. omega (arith, i))) (omega arith)

parts_field : (l : Line) (xs : List ℕ) → length xs ≤ part_digits → field_lines decimal_column l xs ≡ lexes l xs
unfolding field_lines lexes
parts_field l [] h = refl
parts_field l (x ∷ xs) h =
    let e : in_field (decimal_column (length xs)) l x ≡ lex l x =
    ap (λ (k : Column). in_field k l x) (decimal_part (length xs) (omega arith)) ∙ (unfold in_field in refl) in
    ap (λ (q : Line). field_lines decimal_column q xs) e ∙ parts_field (lex l x) xs (omega arith)

point_field : (l : Line) (xs : List ℕ) → length xs ≡ part_digits → field_lines decimal_column l (point ∷ xs) ≡ lexes l (point ∷ xs)
unfolding field_lines lexes
point_field l xs h =
    let p : in_field (decimal_column part_digits) l point ≡ lex l point = unfold decimal_column in unfold in_field in refl in
    ap (λ (q : Line). field_lines decimal_column q xs) (ap (λ (j : ℕ). in_field (decimal_column j) l point) h ∙ p)
    ∙ parts_field (lex l point) xs (omega arith)

sign_length : (m : Bool) (ys : List ℕ) → length ys ≤ length (sign m ++ ys)
unfolding sign
sign_length true ys = omega arith
sign_length false ys = omega arith

pub decimal_field : (i : ℕ) (l : Line) (d : Decimal) → GoodDecimal d
    → field_lines decimal_column (put l spot_decimal 0 0) (spaces i ++ decimal d) ≡ put l spot_done (flag d.minus) (size d)
unfolding decimal
decimal_field i l d g =
    let r = put l spot_decimal 0 0 in
    let s = put l spot_decimal (flag d.minus) 0 in
    let p : List ℕ = point ∷ digits d.parts in
    let w : List ℕ = digits (d.first ∷ d.more) in
    let n : length p ≡ part_digits + 1 = omega (arith, digits_length d.parts, g.eleven) in
    let k : length (w ++ p) ≡ length d.more + 1 + part_digits + 1 = omega (arith, length-append w p, digits_length (d.first ∷ d.more), n) in
    let u : unbegun r ≡ true = unfold unbegun in refl in
    let v : no_digit s ≡ true = unfold no_digit in refl in
    spaces_field decimal_column (part_digits + 2) r (skip_decimal r u) i (sign d.minus ++ (w ++ p)) (omega (arith, sign_length d.minus (w ++ p), k))
    ∙ sign_field d.minus l (w ++ p) (length d.more + 1) k (omega arith) (omega (arith, g.whole.few))
    ∙ natural_field s d.first d.more p v refl g.whole n
    ∙ point_field (lexes s w) (digits d.parts) (digits_length d.parts ∙ g.eleven)
    ∙ sym (lexes_append s w p)
    ∙ ap (λ (q : Line). lexes q (w ++ p)) (sym (signed_line d.minus l))
    ∙ sym (lexes_append r (sign d.minus) (w ++ p))
    ∙ decimal_run l d g
