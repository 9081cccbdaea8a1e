-- The line of a row by itself: it depends on the column and the line before it alone, and columns past the last one that is told apart are
-- all alike. A field is a stretch of columns. Assumes nothing.
use mathlib.Core.Path.{◌≡◌, refl, sym, ap, ◌∙◌}
use mathlib.Core.Bool.{Bool, true, false, cond}
use mathlib.Core.List.{List, [], ◌∷◌, ◌++◌}
use Prim.Native.Nat.{ℕ, suc, ◌+◌, ◌-◌, ◌≤◌, ◌<◌}
use native.Mathlib.Nat.{add-zero}
use native.Mathlib.Omega.{arith}
use borrow.Author.Tests.{ne_eqb, ltb-true, ltb-false, le-ltb}
use lib.Dec.{eqb, ltb}
use lib.ListN.{length, length-append}
use Rattle.integers.proofs.Tests.{by_cases}
use Rattle.series_lines.specs.declared.Line.{Line}
use Rattle.series_lines.specs.Lexer.{spot_done, spot_bad, spot_decimal, fresh, bad, with_space, lex, lexes, whole_count}
use Rattle.published_records.specs.declared.Row.{Row}
use Rattle.published_records.specs.declared.Column.{Column}
use Rattle.published_records.specs.declared.Column.TheVariants.{Count, Whole}
use Rattle.published_records.specs.Layout.{a_first, b_first, c_first}
use Rattle.published_records.specs.Rows.{heading_column, decimal_column, term_column, in_whole, next_column, entered, lex_heading, lex_term, lex_row, lex_rows}
use Rattle.published_promises.proofs.RowLaws.{in_field, in_line, field_bad, held, held_under, held_over, next_under, row_column}
use Rattle.published_promises.proofs.Stretches.{field_lines}
use Rattle.published_promises.proofs.Stretches.{heading_after, term_after, decimal_whole, decimal_part}
use Rattle.published_promises.proofs.WholeColumns.{whole_bytes}
use Rattle.published_promises.proofs.Fields.{at_point, decimal_line}

-- ---- The line alone.

abbrev pub column_of : Bool → ℕ → Column
column_of h c = cond h (heading_column c) (term_column c)

-- The line as the first column of a field finds it.
unfoldable pub enter : Bool → ℕ → Line → Line
enter true c l = l
enter false c l =
    cond (eqb c a_first) (cond (whole_count l) (fresh spot_decimal) bad)
    (cond (eqb c b_first) (with_space l)
    (cond (eqb c c_first) (with_space l)
    l))

unfoldable pub line_step : Bool → ℕ → Line → ℕ → Line
line_step h c l b = in_field (column_of h c) (enter h c l) b

unfoldable pub lines : Bool → ℕ → Line → List ℕ → Line
lines h c l [] = l
lines h c l (b ∷ bs) = lines h (suc c) (line_step h c l b) bs

pub lines_append : (h : Bool) (c : ℕ) (l : Line) (xs ys : List ℕ) → lines h c l (xs ++ ys) ≡ lines h (c + length xs) (lines h c l xs) ys
unfolding lines
lines_append h c l [] ys = rw (add-zero c)
lines_append h c l (x ∷ xs) ys =
    let e : suc c + length xs ≡ c + suc (length xs) = omega arith in
    lines_append h (suc c) (line_step h c l x) xs ys ∙ ap (λ (k : ℕ). lines h k (lines h (suc c) (line_step h c l x) xs) ys) e

-- Nothing is entered but at three columns.
pub enters_none : (h : Bool) (c : ℕ) (l : Line) → (c ≡ a_first → ⊥) → (c ≡ b_first → ⊥) → (c ≡ c_first → ⊥) → enter h c l ≡ l
unfolding enter
enters_none true c l i j k = refl
enters_none false c l i j k = rw (ne_eqb c 80 i, ne_eqb c 98 j, ne_eqb c 112 k)

entered_line : (r : Row) → (entered r).line ≡ enter false r.column r.line
unfolding entered enter
entered_line r =
    by_cases (eqb r.column 80)
    (λ p. rw p)
    (λ p. by_cases (eqb r.column 98)
    (λ q. rw (p, q))
    (λ q. by_cases (eqb r.column 112) (λ s. rw (p, q, s)) (λ s. rw (p, q, s))))

pub row_line : (h : Bool) (r : Row) (b : ℕ) → (lex_row h r b).line ≡ line_step h r.column r.line b
unfolding lex_row lex_heading lex_term line_step enter
row_line true r b = in_line (heading_column r.column) r b
row_line false r b =
    in_line (term_column r.column) (entered r) b ∙ ap (λ (l : Line). in_field (term_column r.column) l b) (entered_line r)

-- The columns past the last one that is told apart.
held_step : (h : Bool) (c : ℕ) (l : Line) (b : ℕ) → line_step h (held c) l b ≡ line_step h c l b
held_step h c l b =
    by_cases (ltb c 132)
    (λ p. let t = ltb-true c 132 p in ap (λ (k : ℕ). line_step h k l b) (held_under c (omega (arith, t))))
    (λ p. let t = ltb-false c 132 p in ap (λ (k : ℕ). line_step h k l b) (held_over c t) ∙ same h t)
  where
    after : (h : Bool) (k : ℕ) → 132 ≤ k → column_of h k ≡ column_of h 132
    after true k t = heading_after k (omega (arith, t)) ∙ sym (heading_after 132 (omega arith))
    after false k t = term_after k t ∙ sym (term_after 132 (omega arith))

    same : (h : Bool) → 132 ≤ c → line_step h 132 l b ≡ line_step h c l b
    same h t =
        unfold line_step in
        ap (λ (x : Line). in_field (column_of h 132) x b)
        (enters_none h 132 l (λ e. omega arith) (λ e. omega arith) (λ e. omega arith)
        ∙ sym (enters_none h c l (λ e. omega (arith, e)) (λ e. omega (arith, e)) (λ e. omega (arith, e))))
        ∙ ap (λ (x : Column). in_field x (enter h c l) b) (sym (after h c t))

held_next : (c : ℕ) → next_column (held c) ≡ held (suc c)
held_next c =
    by_cases (ltb c 131)
    (λ p. let t = ltb-true c 131 p in
    let u : c + 1 ≡ suc c = omega arith in
    ap next_column (held_under c (omega (arith, t))) ∙ next_under c (omega (arith, t)) ∙ u ∙ sym (held_under (suc c) (omega (arith, t))))
    (λ p. let t = ltb-false c 131 p in
    by_cases (ltb c 132)
    (λ q. let v = ltb-true c 132 q in
    let e : c ≡ 131 = omega (arith, v, t) in
    let f : c + 1 ≡ 132 = omega arith in
    ap next_column (held_under c (omega (arith, v))) ∙ next_under c v ∙ f ∙ sym (held_over (suc c) (omega (arith, t))))
    (λ q. let v = ltb-false c 132 q in ap next_column (held_over c v) ∙ last ∙ sym (held_over (suc c) (omega (arith, v)))))
  where
    last : next_column 132 ≡ 132
    last = unfold next_column in refl

pub rows_lines : (h : Bool) (xs : List ℕ) (r : Row) (c : ℕ) → r.column ≡ held c → (lex_rows h r xs).line ≡ lines h c r.line xs
unfolding lex_rows lines
rows_lines h [] r c e = refl
rows_lines h (x ∷ xs) r c e =
    let k : (lex_row h r x).column ≡ held (suc c) =
    row_column h r x ∙ ap next_column e ∙ held_next c in
    let s : (lex_row h r x).line ≡ line_step h c r.line x =
    row_line h r x ∙ ap (λ (n : ℕ). line_step h n r.line x) e ∙ held_step h c r.line x in
    rows_lines h xs (lex_row h r x) (suc c) k ∙ ap (λ (l : Line). lines h (suc c) l xs) s

-- A bad line stays bad.
pub lines_bad : (h : Bool) (xs : List ℕ) (c : ℕ) (l : Line) → l.spot ≡ spot_bad → (lines h c l xs).spot ≡ spot_bad
unfolding lines line_step
lines_bad h [] c l e = e
lines_bad h (x ∷ xs) c l e =
    lines_bad h xs (suc c) (line_step h c l x) (field_bad (column_of h c) (enter h c l) x (enter_bad h c l e))
  where
    enter_bad : (h : Bool) (c : ℕ) (l : Line) → l.spot ≡ spot_bad → (enter h c l).spot ≡ spot_bad
    enter_bad true c l e = unfold enter in e
    enter_bad false c l e =
        unfold enter in unfold with_space in
        let d = ne_eqb l.spot 0 (λ i. omega (arith, i)) in
        let f = ne_eqb l.spot spot_done (λ i. omega (arith, i)) in
        let n = le-ltb l.spot 25 (omega arith) in
        let k : whole_count l ≡ false = unfold whole_count in by_cases (ltb 20 l.spot) (λ p. rw (p, n)) (λ p. rw p) in
        by_cases (eqb c 80)
        (λ p. rw (p, k))
        (λ p. by_cases (eqb c 98)
        (λ q. rw (p, q, d, f))
        (λ q. by_cases (eqb c 112) (λ s. rw (p, q, s, d, f)) (λ s. rw (p, q, s) e)))

-- ---- Stretches.

-- No field begins at these columns.
abbrev pub Inside : ℕ → ℕ → Type 0
Inside c e = (k : ℕ) → c ≤ k → k < e → ((k ≡ a_first → ⊥) × (k ≡ b_first → ⊥)) × (k ≡ c_first → ⊥)

-- These columns are those of a field, to its end.
abbrev pub Are : Bool → (ℕ → Column) → ℕ → ℕ → Type 0
Are h kind c e = (k : ℕ) → c ≤ k → k < e → column_of h k ≡ kind (e - k - 1)

pub inside_run : (h : Bool) (kind : ℕ → Column) (e : ℕ) (xs rest : List ℕ) (c : ℕ) (l : Line) → c + length xs ≡ e → Inside c e → Are h kind c e
    → lines h c l (xs ++ rest) ≡ lines h e (field_lines kind l xs) rest
unfolding lines field_lines line_step
inside_run h kind e [] rest c l i n a = let z : c ≡ e = omega arith in rw z
inside_run h kind e (x ∷ xs) rest c l i n a =
    let m = n c (omega arith) (omega arith) in
    let z : e - c - 1 ≡ length xs = omega arith in
    let s : line_step h c l x ≡ in_field (kind (length xs)) l x =
    ap (λ (y : Line). in_field (column_of h c) y x) (enters_none h c l m.0.0 m.0.1 m.1)
    ∙ ap (λ (k : Column). in_field k l x) (a c (omega arith) (omega arith) ∙ ap kind z) in
    ap (λ (y : Line). lines h (suc c) y (xs ++ rest)) s
    ∙ inside_run h kind e xs rest (suc c) (in_field (kind (length xs)) l x) (omega arith) (λ k u v. n k (omega arith) v) (λ k u v. a k (omega arith) v)

-- A field, with what its first column enters.
pub field_run : (h : Bool) (kind : ℕ → Column) (e : ℕ) (xs rest : List ℕ) (c : ℕ) (l : Line) → c + length xs ≡ e → 1 ≤ length xs
    → Inside (suc c) e → Are h kind c e → lines h c l (xs ++ rest) ≡ lines h e (field_lines kind (enter h c l) xs) rest
unfolding lines field_lines line_step
field_run h kind e [] rest c l i o n a = absurd (omega arith)
field_run h kind e (x ∷ xs) rest c l i o n a =
    let z : e - c - 1 ≡ length xs = omega arith in
    ap (λ (k : Column). lines h (suc c) (in_field k (enter h c l) x) (xs ++ rest)) (a c (omega arith) (omega arith) ∙ ap kind z)
    ∙ inside_run h kind e xs rest (suc c) (in_field (kind (length xs)) (enter h c l) x) (omega arith) n (λ k u v. a k (omega arith) v)

-- The columns of a count.
pub count_columns : (xs : List ℕ) (l : Line) → field_lines Count l xs ≡ whole_bytes 4 l xs
unfolding field_lines whole_bytes in_field
count_columns [] l = refl
count_columns (x ∷ xs) l = count_columns xs (in_whole (length xs) 4 l x)

-- Of a decimal.
parts_columns : (xs : List ℕ) (l : Line) → length xs ≤ 11 → field_lines decimal_column l xs ≡ lexes l xs
unfolding field_lines lexes in_field
parts_columns [] l h = refl
parts_columns (x ∷ xs) l h =
    ap (λ (k : Column). field_lines decimal_column (in_field k l x) xs) (decimal_part (length xs) h)
    ∙ parts_columns xs (lex l x) (omega arith)

point_columns : (p : ℕ) (ps : List ℕ) (l : Line) → length ps ≡ 11 → field_lines decimal_column l (p ∷ ps) ≡ lexes (at_point l p) ps
unfolding field_lines in_field decimal_column
point_columns p ps l h = rw h (parts_columns ps (at_point l p) (omega arith))

pub decimal_columns : (ws : List ℕ) (p : ℕ) (ps : List ℕ) (l : Line) → length ps ≡ 11
    → field_lines decimal_column l (ws ++ (p ∷ ps)) ≡ decimal_line l ws p ps
unfolding field_lines whole_bytes in_field
decimal_columns [] p ps l h = point_columns p ps l h
decimal_columns (x ∷ xs) p ps l h =
    let n = length (xs ++ (p ∷ ps)) in
    let s : n ≡ length xs + 12 = length-append xs (p ∷ ps) ∙ (omega arith) in
    let z : n - 11 - 1 ≡ length xs = omega arith in
    ap (λ (k : Column). field_lines decimal_column (in_field k l x) (xs ++ (p ∷ ps))) (decimal_whole n (omega arith) ∙ ap Whole z)
    ∙ decimal_columns xs p ps (in_whole (length xs) 6 l x) h
