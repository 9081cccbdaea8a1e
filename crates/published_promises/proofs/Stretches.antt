-- What a column is in each stretch of a record, and what the bytes of a stretch do to a row: only the column and the line change. Assumes nothing.
use mathlib.Core.Path.{◌≡◌, refl, sym, ap, ◌∙◌}
use mathlib.Core.Bool.{Bool, true, false}
use mathlib.Core.List.{List, [], ◌∷◌}
use Prim.Native.Nat.{ℕ, zero, suc, ◌+◌, ◌-◌, ◌≤◌, ◌<◌}
use native.Mathlib.Nat.{add-zero}
use native.Mathlib.Omega.{arith}
use borrow.Author.Tests.{ne_eqb, lt-ltb, le-ltb, le-leb, lt-leb, ltb-true}
use lib.Dec.{eqb, ltb}
use lib.ListN.{length}
use Rattle.integers.proofs.Tests.{by_cases}
use Rattle.series_lines.specs.declared.Line.{Line}
use Rattle.series_lines.specs.Grammar.{space, spaces, part_digits}
use Rattle.series_lines.specs.Lexer.{spot_bad, with_space}
use Rattle.published_records.specs.declared.Row.{Row}
use Rattle.published_records.specs.declared.Column.{Column}
use Rattle.published_records.specs.declared.Column.TheVariants.{Filler, Digit, Count, Whole, Part, Blank}
use Rattle.published_records.specs.Layout.{version_column, coordinate_column, power_column, count_first, count_last, number_first, number_last}
use Rattle.published_records.specs.Layout.{a_first, a_last, b_first, b_last, c_first, c_last}
use Rattle.published_records.specs.Rows.{heading_column, decimal_column, term_column, column_limit, next_column}
use Rattle.published_records.specs.Rows.{put_line, moved, with_figure, with_number, entered, in_column, lex_heading, lex_term, lex_row, lex_rows}
use Rattle.published_promises.proofs.RowLaws.{in_field, field_bad, held, held_under, next_under, next_held}

-- ---- What a column is.

-- In a heading: a filler but for the columns of figures.
pub heading_filler : (c : ℕ) → (c ≡ version_column → ⊥) → (c ≡ coordinate_column → ⊥) → (c ≡ power_column → ⊥) → c < count_first
    → heading_column c ≡ Filler
unfolding heading_column
heading_filler c v k p h =
    rw (ne_eqb c version_column v, ne_eqb c coordinate_column k, ne_eqb c power_column p, lt-ltb c count_first h)

pub heading_count : (c : ℕ) → count_first ≤ c → c ≤ count_last → heading_column c ≡ Count (count_last - c)
unfolding heading_column
heading_count c h k =
    rw (
      ne_eqb c version_column (λ e. omega (arith, e)),
      ne_eqb c coordinate_column (λ e. omega (arith, e)),
      ne_eqb c power_column (λ e. omega (arith, e)),
      le-ltb c count_first h,
      le-leb c count_last k,
    )

pub heading_after : (c : ℕ) → count_last < c → heading_column c ≡ Filler
unfolding heading_column
heading_after c h =
    rw (
      ne_eqb c version_column (λ e. omega (arith, e)),
      ne_eqb c coordinate_column (λ e. omega (arith, e)),
      ne_eqb c power_column (λ e. omega (arith, e)),
      le-ltb c count_first (omega arith),
      lt-leb c count_last h,
    )

-- In the field of a decimal.
pub decimal_whole : (m : ℕ) → part_digits < m → decimal_column m ≡ Whole (m - part_digits - 1)
unfolding decimal_column
decimal_whole m h = rw (lt-ltb part_digits m h)

pub decimal_part : (m : ℕ) → m < part_digits → decimal_column m ≡ Part
unfolding decimal_column
decimal_part m h = rw (le-ltb part_digits m (omega arith), ne_eqb m part_digits (λ e. omega (arith, e)))

-- In a term record.
pub term_before : (c : ℕ) → c < number_first → term_column c ≡ Filler
unfolding term_column
term_before c h = rw (lt-ltb c number_first h)

pub term_number : (c : ℕ) → number_first ≤ c → c ≤ number_last → term_column c ≡ Count (number_last - c)
unfolding term_column
term_number c h k = rw (le-ltb c number_first h, le-leb c number_last k)

pub term_between : (c : ℕ) → number_last < c → c < a_first → term_column c ≡ Filler
unfolding term_column
term_between c h k = rw (le-ltb c number_first (omega arith), lt-leb c number_last h, lt-ltb c a_first k)

pub term_a : (c : ℕ) → a_first ≤ c → c ≤ a_last → term_column c ≡ decimal_column (a_last - c)
unfolding term_column
term_a c h k =
    rw (le-ltb c number_first (omega arith), lt-leb c number_last (omega arith), le-ltb c a_first h, le-leb c a_last k)

pub term_b : (c : ℕ) → b_first ≤ c → c ≤ b_last → term_column c ≡ decimal_column (b_last - c)
unfolding term_column
term_b c h k =
    rw (
      le-ltb c number_first (omega arith),
      lt-leb c number_last (omega arith),
      le-ltb c a_first (omega arith),
      lt-leb c a_last h,
      le-leb c b_last k,
    )

pub term_c : (c : ℕ) → c_first ≤ c → c ≤ c_last → term_column c ≡ decimal_column (c_last - c)
unfolding term_column
term_c c h k =
    rw (
      le-ltb c number_first (omega arith),
      lt-leb c number_last (omega arith),
      le-ltb c a_first (omega arith),
      lt-leb c a_last (omega arith),
      lt-leb c b_last h,
      le-leb c c_last k,
    )

pub term_after : (c : ℕ) → c_last < c → term_column c ≡ Blank
unfolding term_column
term_after c h =
    rw (
      le-ltb c number_first (omega arith),
      lt-leb c number_last (omega arith),
      le-ltb c a_first (omega arith),
      lt-leb c a_last (omega arith),
      lt-leb c b_last (omega arith),
      lt-leb c c_last h,
    )

-- A row at another column with another line.
abbrev pub put_at : Row → ℕ → Line → Row
put_at r c l = record { column = c; line = l; version = r.version; coordinate = r.coordinate; power = r.power; number = r.number }

-- Nothing is entered inside a stretch.
pub entered_none : (r : Row) → (r.column ≡ a_first → ⊥) → (r.column ≡ b_first → ⊥) → (r.column ≡ c_first → ⊥) → entered r ≡ r
unfolding entered
entered_none r a b c = rw (ne_eqb r.column a_first a, ne_eqb r.column b_first b, ne_eqb r.column c_first c)

-- ---- A byte in a stretch.

-- A column that is no figure: only the column and the line change.
record Plain (k : Column) : Type 0 where
  is : (r : Row) (byte : ℕ) → in_column k r byte ≡ moved r (in_field k r.line byte)

plain_filler : Plain Filler
plain_filler = record { is = λ r byte. unfold in_column in unfold in_field in refl }

plain_count : (w : ℕ) → Plain (Count w)
plain_count w = record { is = λ r byte. unfold in_column in unfold in_field in refl }

plain_blank : Plain Blank
plain_blank = record { is = λ r byte. unfold in_column in unfold in_field in refl }

plain_decimal : (m : ℕ) → Plain (decimal_column m)
unfolding decimal_column
plain_decimal m =
    by_cases (ltb part_digits m)
    (λ p. rw p (record { is = λ r byte. unfold in_column in unfold in_field in refl }))
    (λ p. by_cases (eqb m part_digits)
    (λ q. rw (p, q) (record { is = λ r byte. unfold in_column in unfold in_field in refl }))
    (λ q. rw (p, q) (record { is = λ r byte. unfold in_column in unfold in_field in refl })))

-- Columns from first to last, each of them known by how many come after it: a byte changes the column and the line alone.
pub record Stretch (h : Bool) (k : ℕ → Column) (first last : ℕ) : Type 0 where
  pub step : (r : Row) (byte : ℕ) → first ≤ r.column → r.column ≤ last
      → lex_row h r byte ≡ moved r (in_field (k (last - r.column)) r.line byte)

abbrev filler : ℕ → Column
filler m = Filler

in_heading : (k : ℕ → Column) (first last : ℕ) → ((m : ℕ) → Plain (k m))
    → ((c : ℕ) → first ≤ c → c ≤ last → heading_column c ≡ k (last - c)) → Stretch true k first last
in_heading k first last p e =
    record {
      step = λ r byte i j. unfold lex_row in unfold lex_heading in
          ap (λ (x : Column). in_column x r byte) (e r.column i j) ∙ (p (last - r.column)).is r byte;
    }

in_term : (k : ℕ → Column) (first last : ℕ) → ((m : ℕ) → Plain (k m))
    → ((c : ℕ) → first ≤ c → c ≤ last → (c ≡ a_first → ⊥) × (c ≡ b_first → ⊥) × (c ≡ c_first → ⊥))
    → ((c : ℕ) → first ≤ c → c ≤ last → term_column c ≡ k (last - c)) → Stretch false k first last
in_term k first last p n e =
    record {
      step = λ r byte i j. let o = n r.column i j in
          unfold lex_row in unfold lex_term in
          ap (λ (q : Row). in_column (term_column r.column) q byte) (entered_none r o.0 o.1 o.2)
          ∙ ap (λ (x : Column). in_column x r byte) (e r.column i j)
          ∙ (p (last - r.column)).is r byte;
    }

-- Of a heading.
pub before_version_stretch : Stretch true filler 1 (version_column - 1)
before_version_stretch =
    in_heading filler 1 (version_column - 1) (λ m. plain_filler) (λ c i j.
    heading_filler c (λ e. omega (arith, e)) (λ e. omega (arith, e)) (λ e. omega (arith, e)) (omega arith))

pub before_coordinate_stretch : Stretch true filler (version_column + 1) (coordinate_column - 1)
before_coordinate_stretch =
    in_heading filler (version_column + 1) (coordinate_column - 1) (λ m. plain_filler) (λ c i j.
    heading_filler c (λ e. omega (arith, e)) (λ e. omega (arith, e)) (λ e. omega (arith, e)) (omega arith))

pub before_power_stretch : Stretch true filler (coordinate_column + 1) (power_column - 1)
before_power_stretch =
    in_heading filler (coordinate_column + 1) (power_column - 1) (λ m. plain_filler) (λ c i j.
    heading_filler c (λ e. omega (arith, e)) (λ e. omega (arith, e)) (λ e. omega (arith, e)) (omega arith))

pub count_stretch : Stretch true Count count_first count_last
count_stretch = in_heading Count count_first count_last (λ m. plain_count m) (λ c i j. heading_count c i j)

-- Of a term record; of the decimals the columns after the first.
pub before_number_stretch : Stretch false filler 1 (number_first - 1)
before_number_stretch =
    in_term filler 1 (number_first - 1) (λ m. plain_filler)
    (λ c i j. ((λ e. omega (arith, e)), (λ e. omega (arith, e)), (λ e. omega (arith, e))))
    (λ c i j. term_before c (omega arith))

pub number_stretch : Stretch false Count number_first number_last
number_stretch =
    in_term Count number_first number_last (λ m. plain_count m)
    (λ c i j. ((λ e. omega (arith, e)), (λ e. omega (arith, e)), (λ e. omega (arith, e))))
    (λ c i j. term_number c i j)

pub before_a_stretch : Stretch false filler (number_last + 1) (a_first - 1)
before_a_stretch =
    in_term filler (number_last + 1) (a_first - 1) (λ m. plain_filler)
    (λ c i j. ((λ e. omega (arith, e)), (λ e. omega (arith, e)), (λ e. omega (arith, e))))
    (λ c i j. term_between c (omega arith) (omega arith))

pub a_stretch : Stretch false decimal_column (a_first + 1) a_last
a_stretch =
    in_term decimal_column (a_first + 1) a_last plain_decimal
    (λ c i j. ((λ e. omega (arith, e)), (λ e. omega (arith, e)), (λ e. omega (arith, e))))
    (λ c i j. term_a c (omega arith) j)

pub b_stretch : Stretch false decimal_column (b_first + 1) b_last
b_stretch =
    in_term decimal_column (b_first + 1) b_last plain_decimal
    (λ c i j. ((λ e. omega (arith, e)), (λ e. omega (arith, e)), (λ e. omega (arith, e))))
    (λ c i j. term_b c (omega arith) j)

pub c_stretch : Stretch false decimal_column (c_first + 1) c_last
c_stretch =
    in_term decimal_column (c_first + 1) c_last plain_decimal
    (λ c i j. ((λ e. omega (arith, e)), (λ e. omega (arith, e)), (λ e. omega (arith, e))))
    (λ c i j. term_c c (omega arith) j)

-- The single bytes between them: the digits of a heading, and the first byte of each decimal.
pub figure_step : (r : Row) (byte : ℕ) → heading_column r.column ≡ Digit → lex_row true r byte ≡ with_figure r byte
unfolding lex_row lex_heading in_column
figure_step r byte e = rw e

pub first_of_a : (r : Row) (byte : ℕ) → r.column ≡ a_first
    → lex_row false r byte ≡ moved (with_number r) (in_field (decimal_column (a_last - a_first)) (with_number r).line byte)
unfolding lex_row lex_term entered term_column decimal_column
first_of_a r byte e = rw e ((plain_decimal (a_last - a_first)).is (with_number (put_at r a_first r.line)) byte)

pub first_of_b : (r : Row) (byte : ℕ) → r.column ≡ b_first
    → lex_row false r byte ≡ moved r (in_field (decimal_column (b_last - b_first)) (with_space r.line) byte)
unfolding lex_row lex_term entered term_column decimal_column
first_of_b r byte e = rw e ((plain_decimal (b_last - b_first)).is (put_at r b_first (with_space r.line)) byte)

pub first_of_c : (r : Row) (byte : ℕ) → r.column ≡ c_first
    → lex_row false r byte ≡ moved r (in_field (decimal_column (c_last - c_first)) (with_space r.line) byte)
unfolding lex_row lex_term entered term_column decimal_column
first_of_c r byte e = rw e ((plain_decimal (c_last - c_first)).is (put_at r c_first (with_space r.line)) byte)

-- ---- A field by itself.

-- The line after bytes that fill a field to its last column.
unfoldable pub field_lines : (ℕ → Column) → Line → List ℕ → Line
field_lines k l [] = l
field_lines k l (x ∷ xs) = field_lines k (in_field (k (length xs)) l x) xs

pub field_stays_bad : (k : ℕ → Column) (l : Line) (xs : List ℕ) → l.spot ≡ spot_bad → (field_lines k l xs).spot ≡ spot_bad
unfolding field_lines
field_stays_bad k l [] e = e
field_stays_bad k l (x ∷ xs) e = field_stays_bad k (in_field (k (length xs)) l x) xs (field_bad (k (length xs)) l x e)

pub filler_lines : (l : Line) (xs : List ℕ) → field_lines filler l xs ≡ l
unfolding field_lines in_field
filler_lines l [] = refl
filler_lines l (x ∷ xs) = filler_lines l xs

-- The bytes of a stretch.
pub stretch_run : (h : Bool) (k : ℕ → Column) (first last : ℕ) → Stretch h k first last → last < column_limit → (r : Row) (xs : List ℕ)
    → first ≤ r.column → r.column + length xs ≡ last + 1 → lex_rows h r xs ≡ put_at r (last + 1) (field_lines k r.line xs)
unfolding lex_rows field_lines
stretch_run h k first last s b r [] i e =
    let c : r.column ≡ last + 1 = omega arith in ap (λ (n : ℕ). put_at r n r.line) c
stretch_run h k first last s b r (x ∷ xs) i e =
    let m : last - r.column ≡ length xs = omega arith in
    let n : next_column r.column ≡ r.column + 1 = next_under r.column (omega arith) in
    let l = in_field (k (length xs)) r.line x in
    ap (λ (q : Row). lex_rows h q xs)
    (s.step r x i (omega arith)
    ∙ ap (λ (c : ℕ). moved r (in_field (k c) r.line x)) m
    ∙ ap (λ (c : ℕ). put_at r c l) n)
    ∙ stretch_run h k first last s b (put_at r (r.column + 1) l) xs (omega arith) (omega arith)

pub filler_run : (h : Bool) (first last : ℕ) → Stretch h filler first last → last < column_limit → (r : Row) (xs : List ℕ)
    → first ≤ r.column → r.column + length xs ≡ last + 1 → lex_rows h r xs ≡ put_at r (last + 1) r.line
filler_run h first last s b r xs i e =
    stretch_run h filler first last s b r xs i e ∙ ap (λ (l : Line). put_at r (last + 1) l) (filler_lines r.line xs)

-- The bytes of a decimal, whose first byte is read after e, the row that is entered.
decimal_stretch : (first last : ℕ) → Stretch false decimal_column (first + 1) last → first < last → last < column_limit → (r e : Row) (xs : List ℕ)
    → ((byte : ℕ) → lex_row false r byte ≡ moved e (in_field (decimal_column (last - first)) e.line byte))
    → e.column ≡ first → first + length xs ≡ last + 1
    → lex_rows false r xs ≡ put_at e (last + 1) (field_lines decimal_column e.line xs)
unfolding lex_rows field_lines
decimal_stretch first last s i b r e [] f c n = absurd (omega arith)
decimal_stretch first last s i b r e (x ∷ xs) f c n =
    let m : last - first ≡ length xs = omega arith in
    let k : next_column e.column ≡ first + 1 = ap next_column c ∙ next_under first (omega arith) in
    let l = in_field (decimal_column (length xs)) e.line x in
    ap (λ (q : Row). lex_rows false q xs)
    (f x
    ∙ ap (λ (j : ℕ). moved e (in_field (decimal_column j) e.line x)) m
    ∙ ap (λ (j : ℕ). put_at e j l) k)
    ∙ stretch_run false decimal_column (first + 1) last s b (put_at e (first + 1) l) xs (omega arith) (omega arith)

pub a_run : (r : Row) (xs : List ℕ) → r.column ≡ a_first → length xs ≡ a_last - a_first + 1
    → lex_rows false r xs ≡ put_at (with_number r) (a_last + 1) (field_lines decimal_column (with_number r).line xs)
a_run r xs c n =
    decimal_stretch a_first a_last a_stretch (omega arith) (omega arith) r (with_number r) xs (λ byte. first_of_a r byte c) c (omega arith)

pub b_run : (r : Row) (xs : List ℕ) → r.column ≡ b_first → length xs ≡ b_last - b_first + 1
    → lex_rows false r xs ≡ put_at r (b_last + 1) (field_lines decimal_column (with_space r.line) xs)
b_run r xs c n =
    decimal_stretch b_first b_last b_stretch (omega arith) (omega arith) r (put_line r (with_space r.line)) xs (λ byte. first_of_b r byte c) c
    (omega arith)

pub c_run : (r : Row) (xs : List ℕ) → r.column ≡ c_first → length xs ≡ c_last - c_first + 1
    → lex_rows false r xs ≡ put_at r (c_last + 1) (field_lines decimal_column (with_space r.line) xs)
c_run r xs c n =
    decimal_stretch c_first c_last c_stretch (omega arith) (omega arith) r (put_line r (with_space r.line)) xs (λ byte. first_of_c r byte c) c
    (omega arith)

-- ---- Bytes after the figures.

pub heading_rest : (r : Row) (xs : List ℕ) → count_last < r.column → r.column ≤ column_limit
    → lex_rows true r xs ≡ put_at r (held (r.column + length xs)) r.line
unfolding lex_rows lex_row lex_heading in_field
heading_rest r [] i j =
    let e : held (r.column + 0) ≡ r.column = rw (add-zero r.column) (held_under r.column j) in ap (λ (c : ℕ). put_at r c r.line) (sym e)
heading_rest r (x ∷ xs) i j =
    let e = heading_after r.column i in
    let q = moved r r.line in
    let n = next_bounds r.column i j in
    ap (λ (q : Row). lex_rows true q xs) (ap (λ (k : Column). in_column k r x) e ∙ plain_filler.is r x)
    ∙ heading_rest q xs n.0 n.1
    ∙ ap (λ (c : ℕ). put_at r c r.line) (next_held r.column (length xs))
  where
    next_bounds : (c : ℕ) → count_last < c → c ≤ column_limit → (count_last < next_column c) × (next_column c ≤ column_limit)
    next_bounds c h k =
        unfold next_column in
        by_cases (ltb c column_limit)
        (λ p. let l = ltb-true c column_limit p in rw p (omega arith, omega (arith, l)))
        (λ p. rw p (omega arith, omega arith))

pub record_rest : (r : Row) (n : ℕ) → r.column ≡ column_limit → lex_rows false r (spaces n) ≡ r
unfolding lex_rows spaces lex_row lex_term in_field
record_rest r zero c = refl
record_rest r (suc n) c =
    let o = entered_none r (λ e. omega (arith, e)) (λ e. omega (arith, e)) (λ e. omega (arith, e)) in
    let m : next_column r.column ≡ r.column = unfold next_column in rw c in
    ap (λ (q : Row). lex_rows false q (spaces n))
    (ap (λ (q : Row). in_column (term_column r.column) q space) o
    ∙ ap (λ (k : Column). in_column k r space) (term_after r.column (omega arith))
    ∙ plain_blank.is r space
    ∙ ap (λ (j : ℕ). put_at r j r.line) m)
    ∙ record_rest r n c
