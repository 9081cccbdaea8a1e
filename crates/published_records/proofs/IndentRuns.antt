-- Spaces before a figure, gone over in a run, leave what a step for each leaves. Assumes nothing.
use mathlib.Core.Path.{◌≡◌, sym, ap, ◌∙◌}
use mathlib.Core.Bool.{true, false}
use mathlib.Core.List.{List}
use Prim.Native.Nat.{ℕ, zero, suc, ◌+◌, ◌-◌, ◌≤◌, ◌<◌}
use Rattle.std.proofs.Common.{add-zero}
use native.Mathlib.Omega.{arith}
use borrow.Author.Tests.{eqb-true, leb-false}
use lib.Dec.{leb, eqb}
use lib.ListN.{length, take, drop, get_or}
use Rattle.std.specs.List.{prefix_len}
use Rattle.std.proofs.lemmas.List.{get_or-take, get_or-drop}
use Rattle.std.proofs.lemmas.List.Sums.{prefix_len_passes}
use Rattle.std.proofs.lemmas.Bool.Decides.{nat_tests}
use Rattle.integers.proofs.Tests.{by_cases}
use Rattle.series_lines.specs.declared.Line.{Line}
use Rattle.series_lines.specs.Grammar.{space, part_digits, count_digits, whole_digits}
use Rattle.series_lines.specs.Lexer.{spot_bad}
use Rattle.published_records.specs.declared.Row.{Row}
use Rattle.published_records.specs.declared.Column.TheVariants.{Count, Whole}
use Rattle.published_records.specs.Layout.{number_first, number_last, a_first, a_last, c_first, c_last}
use Rattle.published_records.specs.Rows.{column_limit, decimal_column, term_column, unbegun, in_whole, moved, entered, in_column}
use Rattle.published_records.specs.Rows.{lex_term, lex_row}
use Rattle.published_records.specs.Machine.Runs.{Takes}
use Rattle.published_records.specs.Machine.Fillers.{put_column, Skips}
use Rattle.published_records.specs.Machine.Indents.{a_whole, c_whole, last_whole, IndentAhead}
use Rattle.published_records.proofs.ByteRuns.{takes_none, takes_one, takes_then, skips_taken}
use Rattle.published_records.proofs.Places.{next_one, not_entered, column_a, column_c}
use Rattle.published_records.proofs.FreeColumns.{run_inside}

-- ---- Columns of spaces.

-- A whole column before the last one, past the first of a and of c.
data Indent : ℕ → Type 0 where
  in_number : {k : ℕ} → number_first ≤ k → k < number_last → Indent k
  in_a : {k : ℕ} → a_first < k → k < a_whole → Indent k
  in_c : {k : ℕ} → c_first < k → k < c_whole → Indent k

indent : (c k : ℕ) → number_first ≤ c → c ≤ k → k < last_whole c → Indent k
unfolding last_whole
indent c k f on h =
    by_cases (leb c number_last) (λ p. in_number (omega (arith, f, on)) (rw p at h))
    (λ p. by_cases (leb c a_first) (λ q. let g : k < 0 = rw (p, q) at h in absurd (omega arith))
    (λ q. let past : a_first < c = leb-false _ _ q in by_cases (leb c a_whole) (λ s. in_a (omega (arith, past, on)) (rw (p, q, s) at h))
    (λ s. by_cases (leb c c_first) (λ t. let g : k < 0 = rw (p, q, s, t) at h in absurd (omega arith))
    (λ t. let past_c : c_first < c = leb-false _ _ t in by_cases (leb c c_whole) (λ u. in_c (omega (arith, past_c, on)) (rw (p, q, s, t, u) at h))
    (λ u. let g : k < 0 = rw (p, q, s, t, u) at h in absurd (omega arith))))))

kind_number : (k : ℕ) → number_first ≤ k → k < number_last → term_column k ≡ Count (number_last - k)
unfolding term_column
kind_number k p h = grind (arith, nat_tests)

decimal_whole : (m : ℕ) → part_digits < m → decimal_column m ≡ Whole (m - part_digits - 1)
unfolding decimal_column
decimal_whole m h = grind (arith, nat_tests)

kind_a : (k : ℕ) → a_first < k → k < a_whole → term_column k ≡ Whole (a_last - k - part_digits - 1)
kind_a k p h = column_a k (omega arith) (omega arith) ∙ decimal_whole (a_last - k) (omega arith)

kind_c : (k : ℕ) → c_first < k → k < c_whole → term_column k ≡ Whole (c_last - k - part_digits - 1)
kind_c k p h = column_c k (omega arith) (omega arith) ∙ decimal_whole (c_last - k) (omega arith)

-- ---- A space.

stays : (w most : ℕ) (l : Line) → 1 ≤ w → unbegun l ≡ true → in_whole w most l space ≡ l
unfolding in_whole
stays w most l h u = grind (arith, nat_tests)

in_count : (r : Row) (w : ℕ) → term_column r.column ≡ Count w → entered r ≡ r → 1 ≤ w → unbegun r.line ≡ true
    → lex_row false r space ≡ moved r r.line
unfolding lex_row lex_term in_column
in_count r w e n h u = rw (e, n) (ap (moved r) (stays w count_digits r.line h u))

in_decimal : (r : Row) (w : ℕ) → term_column r.column ≡ Whole w → entered r ≡ r → 1 ≤ w → unbegun r.line ≡ true
    → lex_row false r space ≡ moved r r.line
unfolding lex_row lex_term in_column
in_decimal r w e n h u = rw (e, n) (ap (moved r) (stays w whole_digits r.line h u))

step_indent : (r : Row) → Indent r.column → unbegun r.line ≡ true → lex_row false r space ≡ moved r r.line
step_indent r (in_number p h) u =
    in_count r (number_last - r.column) (kind_number r.column p h)
    (not_entered r (λ e. omega (arith, e)) (λ e. omega (arith, e)) (λ e. omega (arith, e))) (omega arith) u
step_indent r (in_a p h) u =
    in_decimal r (a_last - r.column - part_digits - 1) (kind_a r.column p h)
    (not_entered r (λ e. omega (arith, e)) (λ e. omega (arith, e)) (λ e. omega (arith, e))) (omega arith) u
step_indent r (in_c p h) u =
    in_decimal r (c_last - r.column - part_digits - 1) (kind_c r.column p h)
    (not_entered r (λ e. omega (arith, e)) (λ e. omega (arith, e)) (λ e. omega (arith, e))) (omega arith) u

below : (k : ℕ) → Indent k → k < column_limit
below k (in_number p h) = omega arith
below k (in_a p h) = omega arith
below k (in_c p h) = omega arith

good : (l : Line) → unbegun l ≡ true → l.spot ≡ spot_bad → ⊥
unfolding unbegun
good l u e = grind (arith, nat_tests)

-- ---- Runs.

-- The spaces before i have come.
pub record Indented (r : Row) (text : List ℕ) (from column i : ℕ) : Type 0 where
  pub on : r.column ≤ column
  pub takes : Takes false r text from (put_column r column) i

pub indented_none : (r : Row) (text : List ℕ) (from : ℕ) → Indented r text from r.column from
indented_none r text from = record { on = omega arith; takes = takes_none false r text from }

module _ (r : Row) (text : List ℕ) (from column i : ℕ) (a : IndentAhead r) (p : Indented r text from column i) where
  pub indented_more : column < last_whole r.column → i < length text → get_or text i 0 ≡ space → Indented r text from (column + 1) (i + 1)
  indented_more h k b =
      let s = put_column r column in
      let d = indent r.column column a.inside p.on h in
      let e : put_column r (column + 1) ≡ lex_row false s space =
      ap (put_column r) (sym (next_one column (below column d))) ∙ sym (step_indent s d a.none) in
      let one = takes_one false s (put_column r (column + 1)) text i space k (sym b) e (λ z. omega (arith, z)) (good r.line a.none) in
      record {
        on = omega (arith, p.on);
        takes = takes_then false r s (put_column r (column + 1)) text from i (i + 1) p.takes one;
      }

indented_all : (r : Row) (text : List ℕ) (from : ℕ) → IndentAhead r → (n : ℕ) → r.column + n ≤ last_whole r.column
    → ((k : ℕ) → k < n → (from + k < length text) × (get_or text (from + k) 0 ≡ space)) → Indented r text from (r.column + n) (from + n)
indented_all r text from a zero h f = simp add-zero (indented_none r text from)
indented_all r text from a (suc n) h f =
    let e : r.column + suc n ≡ r.column + n + 1 = omega arith in
    let g : from + suc n ≡ from + n + 1 = omega arith in
    let before = indented_all r text from a n (omega arith) (λ k p. f k (omega arith)) in
    let last = f n (omega arith) in
    rw (e, g) (indented_more r text from (r.column + n) (from + n) a before (omega arith) last.0 last.1)

-- So many spaces ahead, before the last whole column.
module _ (r : Row) (text : List ℕ) (from n columns : ℕ) where
  pub indents : IndentAhead r → columns ≡ last_whole r.column - r.column → n ≤ length (take columns (drop from text))
      → n ≡ prefix_len (λ (x : ℕ). eqb x space) (take columns (drop from text)) → from ≤ length text
      → Skips false r text from (put_column r (r.column + n)) (from + n)
  indents a is few count inside =
      let xs = take columns (drop from text) in
      let fits = run_inside text from columns n inside few in
      let spaces : (k : ℕ) → k < n → get_or text (from + k) 0 ≡ space = λ (k : ℕ) (h : k < n).
      sym (get_or-drop from text k 0) ∙ sym (get_or-take columns (drop from text) k 0 (omega (arith, fits.0)))
      ∙ eqb-true _ _ (prefix_len_passes (λ (x : ℕ). eqb x space) xs k 0 (omega (arith, count))) in
      skips_taken false r (put_column r (r.column + n)) text from (from + n)
      (indented_all r text from a n (omega (arith, is, fits.0, a.early)) (λ (k : ℕ) (h : k < n). (omega (arith, fits.1), spaces k h))).takes
