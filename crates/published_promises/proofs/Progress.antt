-- The prefix rule of a published record: bytes that are taken so far begin a record of the layout. From each good line on the way some byte
-- goes on, so that the record can be finished; what is whole then follows the layout (TakenHeadings,
-- TakenRecords). Assumes nothing.
use mathlib.Core.Path.{◌≡◌, refl, sym, ap, ◌∙◌, subst}
use mathlib.Core.Bool.{Bool, true, false, cond}
use mathlib.Core.List.{List, [], ◌∷◌, ◌++◌}
use mathlib.Core.Logic.{◌⊎◌, inl, inr}
use Prim.Native.Nat.{ℕ, zero, suc, ◌+◌, ◌-◌, ◌≤◌, ◌<◌}
use native.Mathlib.Nat.{add-zero}
use native.Mathlib.Omega.{arith}
use borrow.Author.Tests.{ltb-true, ltb-false, lt-ltb}
use lib.Dec.{eqb, ltb, leb}
use lib.ListN.{length, length-append}
use Rattle.integers.proofs.Tests.{by_cases}
use Rattle.series_lines.specs.declared.Line.{Line}
use Rattle.series_lines.specs.Lexer.{spot_done, spot_bad, fresh, bad, lex}
use Rattle.series_lines.specs.Grammar.{part_digits}
use Rattle.published_records.specs.declared.Column.{Column}
use Rattle.published_records.specs.declared.Column.TheVariants.{Filler, Digit, Count, Whole}
use Rattle.published_records.specs.Layout.{a_first, a_last, b_first, b_last, c_first, c_last, NoFeed}
use Rattle.published_records.specs.Rows.{heading_column, decimal_column, in_whole, fresh_row, lex_rows}
use Rattle.published_promises.specs.Decided.{BeginsHeading, BeginsRecord}
use Rattle.text_promises.proofs.GoodLines.{put, keep}
use Rattle.text_promises.proofs.OneByte.{view}
use Rattle.published_promises.proofs.RowLaws.{in_field}
use Rattle.published_promises.proofs.Stretches.{heading_after, decimal_whole, decimal_part, term_before, term_after}
use Rattle.published_promises.proofs.Records.{no_feed_append}
use Rattle.published_promises.proofs.WholeColumns.{taken}
use Rattle.published_promises.proofs.Fields.{at_point}
use Rattle.published_promises.proofs.RowLines.{column_of, enter, line_step, lines, lines_append, enters_none, lines_bad, Inside, Are}
use Rattle.published_promises.proofs.TakenStretches.{Live}
use Rattle.published_promises.proofs.TakenHeadings.{heading_lines_in, first_line}
use Rattle.published_promises.proofs.TakenRecords.{record_lines_in, enter_a, enter_b, enter_c}
use Rattle.published_promises.proofs.TakenHeadings.{count_heading}
use Rattle.published_promises.proofs.TakenRecords.{number_columns, free_between, a_columns, b_columns, c_columns}
use Rattle.published_promises.proofs.TakenRecords.{inside_a, inside_b, inside_c}
use Rattle.published_promises.proofs.FieldProgress.{Good, Onwards, Figuring, nothing, minus, digits, decimals, counts, taken_field, Parting}
use Rattle.published_promises.proofs.FieldProgress.{parts_step, parts_onwards, point_step, point_onwards, figure_keeps, figure_onwards}

-- ---- To the end.

-- Where each good line on the way goes on: some bytes more, as many as one wants, can come.
record Way (h : Bool) (Ready : ℕ → Line → Type 0) : Type 0 where
  keeps : (c : ℕ) (l : Line) → Ready c l → (b : ℕ) → Good (line_step h c l b) → Ready (suc c) (line_step h c l b)
  onwards : (c : ℕ) (l : Line) → Ready c l → Onwards (λ b. line_step h c l b)

record Driven (h : Bool) (n c : ℕ) (l : Line) : Type 0 where
  ys : List ℕ
  long : length ys ≡ n
  free : NoFeed ys
  live : Live h c l ys

module _ (h : Bool) (Ready : ℕ → Line → Type 0) (W : Way h Ready) where
  ready_after : (xs : List ℕ) (c : ℕ) (l : Line) → Ready c l → Live h c l xs → Ready (c + length xs) (lines h c l xs)
  unfolding lines
  ready_after [] c l r y = rw (add-zero c) r
  ready_after (x ∷ xs) c l r y =
      let e : suc c + length xs ≡ c + suc (length xs) = omega arith in
      let s = W.keeps c l r x (λ z. y (lines_bad h xs (suc c) (line_step h c l x) z)) in
      subst (λ (k : ℕ). Ready k (lines h (suc c) (line_step h c l x) xs)) e (ready_after xs (suc c) (line_step h c l x) s y)

  drive : (n c : ℕ) (l : Line) → Ready c l → Good l → Driven h n c l
  unfolding lines NoFeed
  drive zero c l r y = record { ys = []; long = refl; free = tt; live = y }
  drive (suc n) c l r y =
      let o = W.onwards c l r in
      let d = drive n (suc c) (line_step h c l o.b) (W.keeps c l r o.b o.good) o.good in
      record { ys = o.b ∷ d.ys; long = ap suc d.long; free = (o.no_feed, d.free); live = d.live }

-- Bytes that were taken, with more of them to the end.
record Finished (h : Bool) (xs : List ℕ) : Type 0 where
  ys : List ℕ
  long : 131 ≤ length (xs ++ ys)
  free : NoFeed (xs ++ ys)
  live : Live h 1 (fresh 20) (xs ++ ys)

finish : (h : Bool) (Ready : ℕ → Line → Type 0) → Way h Ready → Ready 1 (fresh 20) → (xs : List ℕ) → NoFeed xs → Live h 1 (fresh 20) xs → Finished h xs
finish h Ready W r xs f y =
    let d = drive h Ready W 131 (1 + length xs) (lines h 1 (fresh 20) xs) (ready_after h Ready W xs 1 (fresh 20) r y) y in
    let n = length-append xs d.ys in
    record {
      ys = d.ys;
      long = omega (arith, n, d.long);
      free = no_feed_append xs d.ys f d.free;
      live = λ e. d.live (ap (λ (l : Line). l.spot) (sym (lines_append h 1 (fresh 20) xs d.ys)) ∙ e);
    }

-- ---- A heading.

-- Before its count, in it, and after.
data ReadyHeading (c : ℕ) (l : Line) : Type 0 where
  free : c ≤ 60 → l ≡ fresh 20 → ReadyHeading c l
  number : (w : ℕ) → c + suc w ≡ 68 → w ≤ 6 → Figuring 20 4 (suc w) l → ReadyHeading c l
  after : 68 ≤ c → Good l → ReadyHeading c l

free_or_figure : (c : ℕ) → c ≤ 60 → (heading_column c ≡ Filler) ⊎ (heading_column c ≡ Digit)
unfolding heading_column
free_or_figure c h =
    by_cases (eqb c 18)
    (λ p. inr (rw p))
    (λ p. by_cases (eqb c 42)
    (λ q. inr (rw (p, q)))
    (λ q. by_cases (eqb c 60) (λ s. inr (rw (p, q, s))) (λ s. inl (rw (p, q, s, lt-ltb c 61 (omega arith))))))

-- In a free column or that of a single digit the line stays; and a digit 1 may come.
free_step : (k : Column) (l : Line) (b : ℕ) → (k ≡ Filler) ⊎ (k ≡ Digit) → Good (in_field k l b) → in_field k l b ≡ l
unfolding in_field
free_step k l b (inl e) y = rw e
free_step k l b (inr e) y =
    let z : Good (in_field Digit l b) = subst (λ (q : Column). Good (in_field q l b)) e y in
    rw e (by_cases (leb 48 b) (λ p. by_cases (ltb b 58) (λ q. rw (p, q)) (λ q. absurd (z (rw (p, q))))) (λ p. absurd (z (rw p))))

free_one : (k : Column) (l : Line) → (k ≡ Filler) ⊎ (k ≡ Digit) → in_field k l 49 ≡ l
unfolding in_field
free_one k l (inl e) = rw e
free_one k l (inr e) = rw e

-- The line so far is what was entered, and stands in a column of such a kind.
heading_step : (c : ℕ) (l : Line) (b : ℕ) → line_step true c l b ≡ in_field (heading_column c) l b
unfolding line_step enter
heading_step c l b = refl

count_step : (c w : ℕ) (l : Line) (b : ℕ) → c + suc w ≡ 68 → w ≤ 6 → line_step true c l b ≡ in_whole w 4 l b
unfolding in_field
count_step c w l b e h =
    let z : 68 - c - 1 ≡ w = omega arith in
    heading_step c l b ∙ ap (λ (k : Column). in_field k l b) (count_heading c (omega arith) (omega arith) ∙ ap Count z)

heading_keeps : (c : ℕ) (l : Line) → ReadyHeading c l → (b : ℕ) → Good (line_step true c l b) → ReadyHeading (suc c) (line_step true c l b)
heading_keeps c l (free h e) b y =
    let k = free_or_figure c h in
    let s : line_step true c l b ≡ fresh 20 =
    heading_step c l b
    ∙ free_step (heading_column c) l b k (subst (λ (q : Line). Good q) (heading_step c l b) y)
    ∙ e in
    by_cases (ltb c 60)
    (λ p. free (ltb-true c 60 p) s)
    (λ p. let q = ltb-false c 60 p in
    subst (λ (q : Line). ReadyHeading (suc c) q) (sym s) (number 6 (omega arith) (omega arith) (nothing refl refl refl (omega arith))))
heading_keeps c l (number zero e h F) b y = after (omega arith) y
heading_keeps c l (number (suc w) e h F) b y =
    let s = count_step c (suc w) l b e h in
    let G = figure_keeps 20 4 counts (suc w) l F b (subst (λ (q : Line). Good q) s y) in
    number w (omega arith) (omega arith) (subst (λ (q : Line). Figuring 20 4 (suc w) q) (sym s) G)
heading_keeps c l (after h g) b y = after (omega arith) y

-- By a step that is known.
by_step : (f g : ℕ → Line) → ((b : ℕ) → f b ≡ g b) → Onwards g → Onwards f
by_step f g e o = record { b = o.b; no_feed = o.no_feed; good = subst (λ (q : Line). Good q) (sym (e o.b)) o.good }

heading_onwards : (c : ℕ) (l : Line) → ReadyHeading c l → Onwards (λ b. line_step true c l b)
heading_onwards c l (free h e) =
    let s : line_step true c l 49 ≡ fresh 20 = heading_step c l 49 ∙ free_one (heading_column c) l (free_or_figure c h) ∙ e in
    record { b = 49; no_feed = λ z. omega arith; good = λ z. let q = ap (λ (x : Line). x.spot) (sym s) ∙ z in omega arith }
heading_onwards c l (number w e h F) =
    by_step (λ b. line_step true c l b) (λ b. in_whole w 4 l b) (λ b. count_step c w l b e h) (figure_onwards 20 4 counts w l F)
heading_onwards c l (after h g) =
    let s : line_step true c l 49 ≡ l = heading_step c l 49 ∙ free_one (heading_column c) l (inl (heading_after c h)) in
    record { b = 49; no_feed = λ z. omega arith; good = λ z. g (ap (λ (x : Line). x.spot) (sym s) ∙ z) }

pub heading_begins : (xs : List ℕ) → NoFeed xs → ((lex_rows true fresh_row xs).line.spot ≡ spot_bad → ⊥) → BeginsHeading xs
heading_begins xs f y =
    let W : Way true ReadyHeading = record { keeps = heading_keeps; onwards = heading_onwards } in
    let d = finish true ReadyHeading W (free (omega arith) refl) xs f (first_line true xs y) in
    let t = heading_lines_in (xs ++ d.ys) (omega (arith, d.long)) d.free d.live in
    record { rest = d.ys; h = t.h; good = t.good; is = t.is }

-- ---- A term record.

-- Its three decimals: the first column, the columns after it before the point, the point, and how many decimals come before.
data Which : Type 0 where
  at_a : Which
  at_b : Which
  at_c : Which

abbrev first : Which → ℕ
first at_a = a_first
first at_b = b_first
first at_c = c_first

abbrev wide : Which → ℕ
wide at_a = 5
wide at_b = 1
wide at_c = 7

abbrev point_of : Which → ℕ
point_of at_a = a_last - part_digits
point_of at_b = b_last - part_digits
point_of at_c = c_last - part_digits

abbrev order : Which → ℕ
order at_a = 0
order at_b = 1
order at_c = 2

columns : (s : Which) → Are false decimal_column (first s) (point_of s + 12)
columns at_a = a_columns
columns at_b = b_columns
columns at_c = c_columns

inside : (s : Which) → Inside (suc (first s)) (point_of s + 12)
inside at_a = inside_a
inside at_b = inside_b
inside at_c = inside_c

point_place : (s : Which) → first s + suc (wide s) ≡ point_of s
point_place at_a = refl
point_place at_b = refl
point_place at_c = refl

-- A byte in a column of a decimal, with so many columns of it after this one.
field_step : (s : Which) (c m : ℕ) (l : Line) (b : ℕ) → first s ≤ c → c + suc m ≡ point_of s + 12
    → line_step false c l b ≡ in_field (decimal_column m) (enter false c l) b
unfolding line_step
field_step s c m l b h e =
    let z : point_of s + 12 - c - 1 ≡ m = omega arith in
    ap (λ (k : Column). in_field k (enter false c l) b) (columns s c h (omega arith) ∙ ap decimal_column z)

later_step : (s : Which) (c m : ℕ) (l : Line) (b : ℕ) → first s < c → c + suc m ≡ point_of s + 12
    → line_step false c l b ≡ in_field (decimal_column m) l b
later_step s c m l b h e =
    let n = inside s c h (omega arith) in
    field_step s c m l b (omega arith) e
    ∙ ap (λ (q : Line). in_field (decimal_column m) q b) (enters_none false c l n.0.0 n.0.1 n.1)

whole_step : (s : Which) (c w : ℕ) (l : Line) (b : ℕ) → first s < c → c + suc w ≡ point_of s → line_step false c l b ≡ in_whole w 6 l b
unfolding in_field
whole_step s c w l b h e =
    let z : w + 12 - 11 - 1 ≡ w = omega arith in
    later_step s c (w + 12) l b h (omega arith)
    ∙ ap (λ (k : Column). in_field k l b) (decimal_whole (w + 12) (omega arith) ∙ ap Whole z)

at_point_step : (s : Which) (c : ℕ) (l : Line) (b : ℕ) → first s < c → c + 0 ≡ point_of s → line_step false c l b ≡ at_point l b
unfolding in_field decimal_column
at_point_step s c l b h e = later_step s c 11 l b h (omega arith)

part_step : (s : Which) (c w : ℕ) (l : Line) (b : ℕ) → first s < c → w ≤ 10 → c + suc w ≡ point_of s + 12 → line_step false c l b ≡ lex l b
unfolding in_field
part_step s c w l b h k e =
    later_step s c w l b h e ∙ ap (λ (q : Column). in_field q l b) (decimal_part w (omega arith))

first_step : (s : Which) (c : ℕ) (l k : Line) (b : ℕ) → c ≡ first s → enter false (first s) l ≡ k → line_step false c l b ≡ in_whole (wide s) 6 k b
unfolding in_field
first_step s c l k b e t =
    let w = wide s in
    let p = point_place s in
    let z : w + 12 - 11 - 1 ≡ w = omega arith in
    field_step s c (w + 12) l b (omega arith) (omega arith)
    ∙ ap (λ (q : Line). in_field (decimal_column (w + 12)) q b) (ap (λ (n : ℕ). enter false n l) e ∙ t)
    ∙ ap (λ (q : Column). in_field q k b) (decimal_whole (w + 12) (omega arith) ∙ ap Whole z)

-- At the end of what comes before it: a decimal begins, or only spaces follow.
data Turn (c : ℕ) (l : Line) : Type 0 where
  field : (s : Which) (k : Line) → c ≡ first s → enter false (first s) l ≡ put k 0 0 0 → k.field ≡ order s → Turn c l
  blanks : 132 ≤ c → Good l → Turn c l

-- Before the running number, in it, after it, in the whole columns of a decimal or at its point, after its point, and at a turn.
data ReadyRecord (c : ℕ) (l : Line) : Type 0 where
  lead : c ≤ 5 → l ≡ fresh 20 → ReadyRecord c l
  number : (w : ℕ) → c + suc w ≡ 11 → w ≤ 4 → Figuring 20 4 (suc w) l → ReadyRecord c l
  middle : 11 ≤ c → c < 80 → 20 < l.spot → l.spot < 25 → ReadyRecord c l
  whole : (s : Which) (left : ℕ) → first s < c → c + left ≡ point_of s → Figuring 0 6 left l → l.field ≡ order s → ReadyRecord c l
  parts : (s : Which) (w : ℕ) → first s < c → c + suc w ≡ point_of s + 12 → w ≤ 10 → Parting (suc w) l → l.field ≡ order s → ReadyRecord c l
  turn : Turn c l → ReadyRecord c l

-- After a whole decimal.
turn_after : (s : Which) (c : ℕ) (l : Line) → c ≡ point_of s + 12 → l.spot ≡ spot_done → l.field ≡ order s → Turn c l
turn_after at_a c l e h f =
    field at_b (keep l l.minus l.value) e
    (ap (λ (x : ℕ). enter false 98 (put l x l.minus l.value)) h ∙ enter_b l l.minus l.value (omega arith)) (omega arith)
turn_after at_b c l e h f =
    field at_c (keep l l.minus l.value) e
    (ap (λ (x : ℕ). enter false 112 (put l x l.minus l.value)) h ∙ enter_c l l.minus l.value (omega arith)) (omega arith)
turn_after at_c c l e h f = blanks (omega arith) (λ z. omega (arith, z))

-- After the running number.
number_spot : (l : Line) → Figuring 20 4 0 l → (20 < l.spot) × (l.spot < 25)
number_spot l (nothing s m v o) = absurd (omega arith)
number_spot l (minus a s v o k) = absurd (omega arith)
number_spot l (digits n s o k p q) = (omega arith, omega arith)

middle_on : (c : ℕ) (l : Line) → 11 ≤ c → c ≤ 80 → 20 < l.spot → l.spot < 25 → ReadyRecord c l
middle_on c l h k i j =
    by_cases (ltb c 80)
    (λ p. middle h (ltb-true c 80 p) i j)
    (λ p. let q = ltb-false c 80 p in turn (field at_a (fresh 0) (omega arith) (enter_a l i j) refl))

-- Steps before the decimals.
early_step : (kind : ℕ → Column) (e c w : ℕ) (l : Line) (b : ℕ) → e ≤ 80 → c + suc w ≡ e → column_of false c ≡ kind (e - c - 1)
    → line_step false c l b ≡ in_field (kind w) l b
unfolding line_step
early_step kind e c w l b h i k =
    let z : e - c - 1 ≡ w = omega arith in
    ap (λ (q : Line). in_field (column_of false c) q b) (enters_none false c l (λ x. omega (arith, x)) (λ x. omega (arith, x)) (λ x. omega (arith, x)))
    ∙ ap (λ (q : Column). in_field q l b) (k ∙ ap kind z)

lead_step : (c : ℕ) (l : Line) (b : ℕ) → c ≤ 5 → line_step false c l b ≡ l
unfolding in_field
lead_step c l b h = early_step (λ k. Filler) 6 c (6 - c - 1) l b (omega arith) (omega arith) (term_before c (omega arith))

number_step : (c w : ℕ) (l : Line) (b : ℕ) → c + suc w ≡ 11 → w ≤ 4 → line_step false c l b ≡ in_whole w 4 l b
unfolding in_field
number_step c w l b e h = early_step Count 11 c w l b (omega arith) e (number_columns c (omega arith) (omega arith))

middle_step : (c : ℕ) (l : Line) (b : ℕ) → 11 ≤ c → c < 80 → line_step false c l b ≡ l
unfolding in_field
middle_step c l b h k = early_step (λ k. Filler) 80 c (80 - c - 1) l b (omega arith) (omega arith) (free_between c h k)

blank_step : (c : ℕ) (l : Line) (b : ℕ) → 132 ≤ c → line_step false c l b ≡ cond (eqb b 32) l bad
unfolding line_step in_field
blank_step c l b h =
    ap (λ (q : Column). in_field q (enter false c l) b) (term_after c h)
    ∙ ap (λ (q : Line). cond (eqb b 32) q bad) (enters_none false c l (λ x. omega (arith, x)) (λ x. omega (arith, x)) (λ x. omega (arith, x)))

-- A whole column of a decimal was passed.
whole_on : (s : Which) (c w : ℕ) (k : Line) (b : ℕ) (L : Line) → first s < c → c + w ≡ point_of s → Figuring 0 6 (suc w) k → k.field ≡ order s
    → L ≡ in_whole w 6 k b → Good L → ReadyRecord c L
whole_on s c w k b L h e F f i y =
    let z : Good (in_whole w 6 k b) = subst (λ (q : Line). Good q) i y in
    subst (λ (q : Line). ReadyRecord c q) (sym i)
    (whole s w h e (figure_keeps 0 6 decimals w k F b z) (taken_field w 6 k b (in_whole w 6 k b) (taken w 6 k b) z ∙ f))

-- A column after the point.
parts_on : (s : Which) (c w : ℕ) (l : Line) → first s < c → c + w ≡ point_of s + 12 → w ≤ 11 → Parting w l → l.field ≡ order s → ReadyRecord c l
parts_on s c zero l h e k P f = let i = P.spot in turn (turn_after s c l (omega arith) (omega arith) f)
parts_on s c (suc w) l h e k P f = parts s w h e (omega arith) P f

turn_keeps : (c : ℕ) (l : Line) → Turn c l → (b : ℕ) → Good (line_step false c l b) → ReadyRecord (suc c) (line_step false c l b)
turn_keeps c l (field s k e t f) b y =
    let p = point_place s in
    whole_on s (suc c) (wide s) (put k 0 0 0) b (line_step false c l b) (omega arith) (omega arith) (nothing refl refl refl (omega arith)) f
    (first_step s c l (put k 0 0 0) b e t) y
turn_keeps c l (blanks h g) b y = turn (blanks (omega arith) y)

record_keeps : (c : ℕ) (l : Line) → ReadyRecord c l → (b : ℕ) → Good (line_step false c l b) → ReadyRecord (suc c) (line_step false c l b)
record_keeps c l (lead h e) b y =
    let s : line_step false c l b ≡ fresh 20 = lead_step c l b h ∙ e in
    by_cases (ltb c 5)
    (λ p. lead (ltb-true c 5 p) s)
    (λ p. let q = ltb-false c 5 p in
    subst (λ (q : Line). ReadyRecord (suc c) q) (sym s) (number 4 (omega arith) (omega arith) (nothing refl refl refl (omega arith))))
record_keeps c l (number zero e h F) b y =
    let s = number_step c 0 l b e h in
    let G = figure_keeps 20 4 counts 0 l F b (subst (λ (q : Line). Good q) s y) in
    let t = number_spot (in_whole 0 4 l b) G in
    subst (λ (q : Line). ReadyRecord (suc c) q) (sym s) (middle_on (suc c) (in_whole 0 4 l b) (omega arith) (omega arith) t.0 t.1)
record_keeps c l (number (suc w) e h F) b y =
    let s = number_step c (suc w) l b e h in
    let G = figure_keeps 20 4 counts (suc w) l F b (subst (λ (q : Line). Good q) s y) in
    number w (omega arith) (omega arith) (subst (λ (q : Line). Figuring 20 4 (suc w) q) (sym s) G)
record_keeps c l (middle h k i j) b y =
    subst (λ (q : Line). ReadyRecord (suc c) q) (sym (middle_step c l b h k)) (middle_on (suc c) l (omega arith) k i j)
record_keeps c l (whole s zero h e F f) b y =
    let i = at_point_step s c l b h e in
    let p = point_step l F b (subst (λ (q : Line). Good q) i y) in
    subst (λ (q : Line). ReadyRecord (suc c) q) (sym i) (parts_on s (suc c) 11 (at_point l b) (omega arith) (omega arith) (omega arith) p.0 (p.1 ∙ f))
record_keeps c l (whole s (suc w) h e F f) b y =
    whole_on s (suc c) w l b (line_step false c l b) (omega arith) (omega arith) F f (whole_step s c w l b h e) y
record_keeps c l (parts s w h e k P f) b y =
    let i = part_step s c w l b h k e in
    let p = parts_step w l P b (lex l b) (view l b) (subst (λ (q : Line). Good q) i y) in
    subst (λ (q : Line). ReadyRecord (suc c) q) (sym i) (parts_on s (suc c) w (lex l b) (omega arith) (omega arith) (omega arith) p.0 (p.1 ∙ f))
record_keeps c l (turn t) b y = turn_keeps c l t b y

-- The digit 1 where the line stays.
stays_on : (c : ℕ) (l : Line) → ((b : ℕ) → line_step false c l b ≡ l) → Good l → Onwards (λ b. line_step false c l b)
stays_on c l s g = by_step (λ b. line_step false c l b) (λ b. l) s (record { b = 49; no_feed = λ e. omega arith; good = g })

record_onwards : (c : ℕ) (l : Line) → ReadyRecord c l → Onwards (λ b. line_step false c l b)
record_onwards c l (lead h e) =
    stays_on c l (λ b. lead_step c l b h) (λ z. let q = ap (λ (x : Line). x.spot) e in omega (arith, z, q))
record_onwards c l (number w e h F) =
    by_step (λ b. line_step false c l b) (λ b. in_whole w 4 l b) (λ b. number_step c w l b e h) (figure_onwards 20 4 counts w l F)
record_onwards c l (middle h k i j) = stays_on c l (λ b. middle_step c l b h k) (λ z. omega (arith, z))
record_onwards c l (whole s zero h e F f) =
    by_step (λ b. line_step false c l b) (λ b. at_point l b) (λ b. at_point_step s c l b h e) (point_onwards l F)
record_onwards c l (whole s (suc w) h e F f) =
    by_step (λ b. line_step false c l b) (λ b. in_whole w 6 l b) (λ b. whole_step s c w l b h e) (figure_onwards 0 6 decimals w l F)
record_onwards c l (parts s w h e k P f) =
    by_step (λ b. line_step false c l b) (λ b. lex l b) (λ b. part_step s c w l b h k e) (parts_onwards w l P)
record_onwards c l (turn (field s k e t f)) =
    by_step (λ b. line_step false c l b) (λ b. in_whole (wide s) 6 (put k 0 0 0) b) (λ b. first_step s c l (put k 0 0 0) b e t)
    (figure_onwards 0 6 decimals (wide s) (put k 0 0 0) (nothing refl refl refl (omega arith)))
record_onwards c l (turn (blanks h g)) =
    record { b = 32; no_feed = λ e. omega arith; good = subst (λ (q : Line). Good q) (sym (blank_step c l 32 h)) g }

pub record_begins : (xs : List ℕ) → NoFeed xs → ((lex_rows false fresh_row xs).line.spot ≡ spot_bad → ⊥) → BeginsRecord xs
record_begins xs f y =
    let W : Way false ReadyRecord = record { keeps = record_keeps; onwards = record_onwards } in
    let d = finish false ReadyRecord W (lead (omega arith) refl) xs f (first_line false xs y) in
    let t = record_lines_in (xs ++ d.ys) d.long d.free d.live in
    record { rest = d.ys; t = t.t; good = t.good; is = t.is }
