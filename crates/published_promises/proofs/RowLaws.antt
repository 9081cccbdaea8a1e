-- What bytes do to a row, in any record: they come one after the other, a bad row stays bad, and the column counts them. Assumes nothing.
use mathlib.Core.Path.{◌≡◌, refl, sym, ap, ◌∙◌}
use mathlib.Core.Bool.{Bool, true, false, cond}
use mathlib.Core.List.{List, [], ◌∷◌, ◌++◌}
use Prim.Native.Nat.{ℕ, suc, ◌+◌, ◌≤◌, ◌<◌}
use native.Mathlib.Nat.{add-zero}
use native.Mathlib.Omega.{arith}
use borrow.Author.Tests.{ne_eqb, lt-ltb, le-ltb, ltb-true, ltb-false}
use lib.Dec.{eqb, ltb, leb}
use lib.ListN.{length}
use Rattle.integers.proofs.Tests.{by_cases}
use Rattle.series_lines.specs.declared.Line.{Line}
use Rattle.series_lines.specs.Grammar.{space, point, digit_0, count_digits, whole_digits}
use Rattle.series_lines.specs.Lexer.{spot_decimal, spot_count, spot_done, spot_bad, bad, with_space, lex, lexes, whole_count}
use Rattle.published_records.specs.declared.Row.{Row}
use Rattle.published_records.specs.declared.Column.{Column}
use Rattle.published_records.specs.declared.Column.TheVariants.{Filler, Digit, Count, Whole, Point, Part, Blank}
use Rattle.published_records.specs.Layout.{a_first, b_first, c_first}
use Rattle.published_records.specs.Rows.{heading_column, term_column, no_digit, unbegun, in_whole, column_limit, next_column}
use Rattle.published_records.specs.Rows.{with_figure, entered, in_column, lex_heading, lex_term, lex_row, lex_rows}
use Rattle.text_promises.proofs.Lines.{bad_end}

-- ---- One after the other.

pub rows_append : (h : Bool) (r : Row) (xs ys : List ℕ) → lex_rows h r (xs ++ ys) ≡ lex_rows h (lex_rows h r xs) ys
unfolding lex_rows
rows_append h r [] ys = refl
rows_append h r (x ∷ xs) ys = rows_append h (lex_row h r x) xs ys

-- ---- What a byte in a column does to the line.

unfoldable pub in_field : Column → Line → ℕ → Line
in_field Filler l byte = l
in_field Digit l byte = cond (leb digit_0 byte) (cond (ltb byte (digit_0 + 10)) l bad) bad
in_field (Count w) l byte = in_whole w count_digits l byte
in_field (Whole w) l byte = in_whole w whole_digits l byte
in_field Point l byte = cond (eqb byte point) (lex l byte) bad
in_field Part l byte = lex l byte
in_field Blank l byte = cond (eqb byte space) l bad

pub in_line : (k : Column) (r : Row) (byte : ℕ) → (in_column k r byte).line ≡ in_field k r.line byte
unfolding in_column in_field with_figure
in_line Filler r byte = refl
in_line Digit r byte =
    by_cases (leb digit_0 byte)
    (λ p. by_cases (ltb byte (digit_0 + 10)) (λ q. rw (p, q)) (λ q. rw (p, q)))
    (λ p. rw p)
in_line (Count w) r byte = refl
in_line (Whole w) r byte = refl
in_line Point r byte = refl
in_line Part r byte = refl
in_line Blank r byte = refl

-- ---- A bad row stays bad.

lex_bad : (l : Line) (byte : ℕ) → l.spot ≡ spot_bad → (lex l byte).spot ≡ spot_bad
lex_bad l byte e = unfold lexes in bad_end l (byte ∷ []) e

-- A line whose figure has begun.
pub begun_digit : (l : Line) → (l.spot ≡ spot_decimal → ⊥) → (l.spot ≡ spot_count → ⊥) → no_digit l ≡ false
unfolding no_digit
begun_digit l h k = rw (ne_eqb l.spot spot_decimal h, ne_eqb l.spot spot_count k)

pub begun_line : (l : Line) → (l.spot ≡ spot_decimal → ⊥) → (l.spot ≡ spot_count → ⊥) → unbegun l ≡ false
unfolding unbegun
begun_line l h k = rw (ne_eqb l.spot spot_decimal h, ne_eqb l.spot spot_count k)

whole_bad : (w most : ℕ) (l : Line) (byte : ℕ) → l.spot ≡ spot_bad → (in_whole w most l byte).spot ≡ spot_bad
unfolding in_whole
whole_bad w most l byte e =
    let u = begun_line l (λ i. omega (arith, i)) (λ i. omega (arith, i)) in
    let n = begun_digit l (λ i. omega (arith, i)) (λ i. omega (arith, i)) in
    by_cases (eqb byte space)
    (λ p. rw (p, u))
    (λ p. by_cases (eqb byte point) (λ q. rw (p, q)) (λ q. rw (p, q, n) (lex_bad l byte e)))

pub field_bad : (k : Column) (l : Line) (byte : ℕ) → l.spot ≡ spot_bad → (in_field k l byte).spot ≡ spot_bad
unfolding in_field
field_bad Filler l byte e = e
field_bad Digit l byte e =
    by_cases (leb digit_0 byte)
    (λ p. by_cases (ltb byte (digit_0 + 10)) (λ q. rw (p, q) e) (λ q. rw (p, q)))
    (λ p. rw p)
field_bad (Count w) l byte e = whole_bad w count_digits l byte e
field_bad (Whole w) l byte e = whole_bad w whole_digits l byte e
field_bad Point l byte e = by_cases (eqb byte point) (λ p. rw p (lex_bad l byte e)) (λ p. rw p)
field_bad Part l byte e = lex_bad l byte e
field_bad Blank l byte e = by_cases (eqb byte space) (λ p. rw p e) (λ p. rw p)

entered_bad : (r : Row) → r.line.spot ≡ spot_bad → (entered r).line.spot ≡ spot_bad
unfolding entered with_space whole_count
entered_bad r e =
    let d = ne_eqb r.line.spot spot_decimal (λ i. omega (arith, i)) in
    let f = ne_eqb r.line.spot spot_done (λ i. omega (arith, i)) in
    let n = le-ltb r.line.spot (spot_count + count_digits + 1) (omega arith) in
    let c : whole_count r.line ≡ false = by_cases (ltb spot_count r.line.spot) (λ p. rw (p, n)) (λ p. rw p) in
    by_cases (eqb r.column a_first)
    (λ p. rw (p, c))
    (λ p. by_cases (eqb r.column b_first)
    (λ q. rw (p, q, d, f))
    (λ q. by_cases (eqb r.column c_first) (λ s. rw (p, q, s, d, f)) (λ s. rw (p, q, s) e)))

pub row_bad : (h : Bool) (r : Row) (byte : ℕ) → r.line.spot ≡ spot_bad → (lex_row h r byte).line.spot ≡ spot_bad
unfolding lex_row lex_heading lex_term
row_bad true r byte e =
    let k = heading_column r.column in ap (λ (l : Line). l.spot) (in_line k r byte) ∙ field_bad k r.line byte e
row_bad false r byte e =
    let k = term_column r.column in
    ap (λ (l : Line). l.spot) (in_line k (entered r) byte) ∙ field_bad k (entered r).line byte (entered_bad r e)

pub rows_bad : (h : Bool) (r : Row) (xs : List ℕ) → r.line.spot ≡ spot_bad → (lex_rows h r xs).line.spot ≡ spot_bad
unfolding lex_rows
rows_bad h r [] e = e
rows_bad h r (x ∷ xs) e = rows_bad h (lex_row h r x) xs (row_bad h r x e)

-- So the bytes before those of a live row left a live one.
pub rows_before : (h : Bool) (r : Row) (xs ys : List ℕ) → ((lex_rows h r (xs ++ ys)).line.spot ≡ spot_bad → ⊥)
    → (lex_rows h r xs).line.spot ≡ spot_bad → ⊥
rows_before h r xs ys n e = n (ap (λ (q : Row). q.line.spot) (rows_append h r xs ys) ∙ rows_bad h (lex_rows h r xs) ys e)

-- ---- The column counts the bytes, up to the last one that is told apart.

unfoldable pub held : ℕ → ℕ
held c = cond (ltb c column_limit) c column_limit

pub held_under : (c : ℕ) → c ≤ column_limit → held c ≡ c
unfolding held
held_under c h =
    by_cases (ltb c column_limit)
    (λ p. rw p)
    (λ p. let e : column_limit ≡ c = omega (arith, ltb-false c column_limit p) in rw p e)

pub held_over : (c : ℕ) → column_limit ≤ c → held c ≡ column_limit
unfolding held
held_over c h = rw (le-ltb c column_limit h)

pub next_under : (c : ℕ) → c < column_limit → next_column c ≡ c + 1
unfolding next_column
next_under c h = rw (lt-ltb c column_limit h)

pub next_held : (c n : ℕ) → held (next_column c + n) ≡ held (c + suc n)
unfolding next_column
next_held c n =
    by_cases (ltb c column_limit)
    (λ p. let e : c + 1 + n ≡ c + suc n = omega arith in rw p (ap held e))
    (λ p. let b = ltb-false c column_limit p in
    rw p (held_over (column_limit + n) (omega arith) ∙ sym (held_over (c + suc n) (omega (arith, b)))))

column_step : (k : Column) (r : Row) (byte : ℕ) → (in_column k r byte).column ≡ next_column r.column
unfolding in_column with_figure
column_step Filler r byte = refl
column_step Digit r byte =
    by_cases (leb digit_0 byte)
    (λ p. by_cases (ltb byte (digit_0 + 10)) (λ q. rw (p, q)) (λ q. rw (p, q)))
    (λ p. rw p)
column_step (Count w) r byte = refl
column_step (Whole w) r byte = refl
column_step Point r byte = refl
column_step Part r byte = refl
column_step Blank r byte = refl

entered_column : (r : Row) → (entered r).column ≡ r.column
unfolding entered
entered_column r =
    by_cases (eqb r.column a_first)
    (λ p. rw p)
    (λ p. by_cases (eqb r.column b_first)
    (λ q. rw (p, q))
    (λ q. by_cases (eqb r.column c_first) (λ s. rw (p, q, s)) (λ s. rw (p, q, s))))

pub row_column : (h : Bool) (r : Row) (byte : ℕ) → (lex_row h r byte).column ≡ next_column r.column
unfolding lex_row lex_heading lex_term
row_column true r byte = column_step (heading_column r.column) r byte
row_column false r byte = column_step (term_column r.column) (entered r) byte ∙ ap next_column (entered_column r)

pub rows_column : (h : Bool) (r : Row) (xs : List ℕ) → r.column ≤ column_limit → (lex_rows h r xs).column ≡ held (r.column + length xs)
unfolding lex_rows
rows_column h r [] b = rw (add-zero r.column) (sym (held_under r.column b))
rows_column h r (x ∷ xs) b =
    let e = row_column h r x in
    let u : next_column r.column ≤ column_limit = next_limit r.column b in
    rows_column h (lex_row h r x) xs (rw e u)
    ∙ ap (λ (c : ℕ). held (c + length xs)) e
    ∙ next_held r.column (length xs)
  where
    next_limit : (c : ℕ) → c ≤ column_limit → next_column c ≤ column_limit
    next_limit c h =
        unfold next_column in by_cases (ltb c column_limit) (λ p. let l = ltb-true c column_limit p in rw p (omega (arith, l))) (λ p. rw p (omega arith))
