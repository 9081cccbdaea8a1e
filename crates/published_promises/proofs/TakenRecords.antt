-- A term record of a published file that was taken follows the layout: stretch by stretch of its columns. Assumes nothing.
use mathlib.Core.Path.{◌≡◌, refl, sym, ap, ◌∙◌, subst}
use mathlib.Core.Bool.{true, false, cond}
use mathlib.Core.List.{List, [], ◌∷◌, ◌++◌, append_assoc}
use Prim.Native.Nat.{ℕ, suc, ◌+◌, ◌-◌, ◌≤◌, ◌<◌}
use native.Mathlib.Omega.{arith}
use borrow.Author.Tests.{eqb-true, lt-ltb}
use lib.Dec.{eqb, lit≤}
use lib.ListN.{length, length-append}
use Rattle.integers.proofs.Tests.{by_cases}
use Rattle.series_lines.specs.declared.Line.{Line}
use Rattle.series_lines.specs.Grammar.{spaces, CountLine, count, count_bytes, GoodCount, Decimal, decimal, GoodDecimal, size}
use Rattle.series_lines.specs.Lexer.{spot_done, spot_bad, fresh, bad, with_space, whole_count}
use Rattle.published_records.specs.declared.Column.{Column}
use Rattle.published_records.specs.declared.Column.TheVariants.{Filler, Count}
use Rattle.published_records.specs.Layout.{NoFeed, record_bytes}
use Rattle.published_records.specs.Rows.{decimal_column, fresh_row, lex_rows, whole_row}
use Rattle.published_promises.specs.Decided.{IsRecord}
use Rattle.text_promises.proofs.GoodLines.{put, keep, flag}
use Rattle.published_promises.proofs.RowLaws.{in_field}
use Rattle.published_promises.proofs.Stretches.{field_lines}
use Rattle.published_promises.proofs.Stretches.{term_before, term_number, term_between, term_a, term_b, term_c, term_after}
use Rattle.published_promises.proofs.Fields.{decimal_line, decimal_field}
use Rattle.published_promises.proofs.RowLines.{enter, line_step, lines, enters_none, lines_bad, Inside, Are}
use Rattle.published_promises.proofs.RowLines.{field_run, decimal_columns}
use Rattle.published_promises.proofs.TakenStretches.{cut, next, Live, free_in, right_of, number_in}
use Rattle.published_promises.proofs.TakenHeadings.{whole_long, inside_heading, first_line}

-- ---- A term record.

-- The columns of a decimal, from the line l as its first column enters it.
record FieldIn (n m e : ℕ) (l : Line) (xs : List ℕ) : Type 0 where
  indent : ℕ
  d : Decimal
  rest : List ℕ
  is : xs ≡ spaces indent ++ (decimal d ++ rest)
  good : GoodDecimal d
  right : indent + length (decimal d) ≡ n
  left : m ≤ length rest
  rest_free : NoFeed rest
  live : Live false e (put l spot_done (flag d.minus) (size d)) rest

-- Such a field cut: whole columns, the point, and eleven columns.
record Pieces (w m : ℕ) (xs : List ℕ) : Type 0 where
  ws : List ℕ
  p : ℕ
  ps : List ℕ
  rest : List ℕ
  is : xs ≡ (ws ++ (p ∷ ps)) ++ rest
  wide : length ws ≡ w
  eleven : length ps ≡ 11
  left : m ≤ length rest
  rest_free : NoFeed rest

pieces : (w m : ℕ) (xs : List ℕ) → w + 12 + m ≤ length xs → NoFeed xs → Pieces w m xs
pieces w m xs h f =
    let a = cut w xs (omega arith) f in
    let b = next a.rest (omega (arith, a.left)) a.rest_free in
    let c = cut 11 b.rest (omega (arith, a.left, b.left)) b.rest_free in
    record {
      ws = a.front;
      p = b.b;
      ps = c.front;
      rest = c.rest;
      is =
          a.is
          ∙ ap (λ (x : List ℕ). a.front ++ x) (b.is ∙ ap (λ (x : List ℕ). b.b ∷ x) c.is)
          ∙ sym (append_assoc a.front (b.b ∷ c.front) c.rest);
      wide = a.long;
      eleven = c.long;
      left = omega (arith, a.left, b.left, c.left);
      rest_free = c.rest_free;
    }

field_length : (w : ℕ) (ws : List ℕ) (p : ℕ) (ps : List ℕ) → length ws ≡ w → length ps ≡ 11 → length (ws ++ (p ∷ ps)) ≡ w + 12
field_length w ws p ps h k = length-append ws (p ∷ ps) ∙ (omega arith)

field_in : (c w n m e : ℕ) (l k : Line) (xs : List ℕ) → c + n ≡ e → w + 12 ≡ n → 1 ≤ w → n + m ≤ length xs → NoFeed xs → Inside (suc c) e
    → Are false decimal_column c e → enter false c l ≡ put k 0 0 0 → Live false c l xs → FieldIn n m e k xs
field_in c w n m e l k xs i j o h f s a t y =
    let p = pieces w m xs (omega arith) f in
    let F = p.ws ++ (p.p ∷ p.ps) in
    let long : length F ≡ w + 12 = field_length w p.ws p.p p.ps p.wide p.eleven in
    let D = decimal_line (put k 0 0 0) p.ws p.p p.ps in
    let q : lines false c l xs ≡ lines false e D p.rest =
    ap (λ (z : List ℕ). lines false c l z) p.is
    ∙ field_run false decimal_column e F p.rest c l (omega (arith, long)) (omega (arith, long)) s a
    ∙ ap (λ (z : Line). lines false e (field_lines decimal_column z F) p.rest) t
    ∙ ap (λ (z : Line). lines false e z p.rest) (decimal_columns p.ws p.p p.ps (put k 0 0 0) p.eleven) in
    let z : Live false e D p.rest = λ z. y (ap (λ (x : Line). x.spot) q ∙ z) in
    let d = decimal_field k p.ws p.p p.ps (omega (arith, p.wide)) p.eleven (λ b. z (lines_bad false p.rest e D b)) in
    record {
      indent = d.n;
      d = d.d;
      rest = p.rest;
      is = p.is ∙ ap (λ (x : List ℕ). x ++ p.rest) d.is ∙ append_assoc (spaces d.n) (decimal d.d) p.rest;
      good = d.good;
      right = right_of n d.n F (decimal d.d) (long ∙ j) d.is;
      left = p.left;
      rest_free = p.rest_free;
      live = subst (λ (x : Line). Live false e x p.rest) d.line z;
    }

-- Spaces to the end.
blank_in : (xs : List ℕ) (c : ℕ) (l : Line) → 132 ≤ c → Live false c l xs → xs ≡ spaces (length xs)
unfolding lines line_step in_field spaces
blank_in [] c l h y = refl
blank_in (x ∷ xs) c l h y =
    let e : line_step false c l x ≡ cond (eqb x 32) l bad =
    ap (λ (q : Column). in_field q (enter false c l) x) (term_after c h)
    ∙ ap (λ (q : Line). cond (eqb x 32) q bad) (enters_none false c l (λ z. omega (arith, z)) (λ z. omega (arith, z)) (λ z. omega (arith, z))) in
    let z : Live false (suc c) (cond (eqb x 32) l bad) xs = subst (λ (q : Line). Live false (suc c) q xs) e y in
    by_cases (eqb x 32)
    (λ p. ap (λ (b : ℕ). b ∷ xs) (eqb-true x 32 p) ∙ ap (λ (b : List ℕ). 32 ∷ b) (blank_in xs (suc c) l (omega arith) (rw p at z)))
    (λ p. absurd (z (rw p (lines_bad false xs (suc c) bad refl))))

-- What the stretches are.
pub free_before : Are false (λ k. Filler) 1 6
free_before k i j = term_before k j

pub number_columns : Are false Count 6 11
number_columns k i j = let e : 10 - k ≡ 11 - k - 1 = omega arith in term_number k i (omega arith) ∙ ap Count e

pub free_between : Are false (λ k. Filler) 11 80
free_between k i j = term_between k i j

pub a_columns : Are false decimal_column 80 98
a_columns k i j = let e : 97 - k ≡ 98 - k - 1 = omega arith in term_a k i (omega arith) ∙ ap decimal_column e

pub b_columns : Are false decimal_column 98 112
b_columns k i j = let e : 111 - k ≡ 112 - k - 1 = omega arith in term_b k i (omega arith) ∙ ap decimal_column e

pub c_columns : Are false decimal_column 112 132
c_columns k i j = let e : 131 - k ≡ 132 - k - 1 = omega arith in term_c k i (omega arith) ∙ ap decimal_column e

pub inside_a : Inside 81 98
inside_a k i j = (((λ z. omega (arith, z)), (λ z. omega (arith, z))), λ z. omega (arith, z))

pub inside_b : Inside 99 112
inside_b k i j = (((λ z. omega (arith, z)), (λ z. omega (arith, z))), λ z. omega (arith, z))

pub inside_c : Inside 113 132
inside_c k i j = (((λ z. omega (arith, z)), (λ z. omega (arith, z))), λ z. omega (arith, z))

-- What their first columns enter.
pub enter_a : (l : Line) → 20 < l.spot → l.spot < 25 → enter false 80 l ≡ put (fresh 0) 0 0 0
unfolding enter whole_count
enter_a l h k = rw (lt-ltb 20 l.spot h, lt-ltb l.spot 25 k)

pub enter_b : (l : Line) (m v : ℕ) → l.field < 2 → enter false 98 (put l spot_done m v) ≡ put (keep l m v) 0 0 0
unfolding enter with_space
enter_b l m v h = rw (lt-ltb l.field 2 h)

pub enter_c : (l : Line) (m v : ℕ) → l.field < 2 → enter false 112 (put l spot_done m v) ≡ put (keep l m v) 0 0 0
unfolding enter with_space
enter_c l m v h = rw (lt-ltb l.field 2 h)

number_enters : (k : CountLine) → GoodCount k → enter false 80 (put (fresh 20) (21 + length k.more) 0 (count k)) ≡ put (fresh 0) 0 0 0
number_enters k g =
    enter_a (put (fresh 20) (21 + length k.more) 0 (count k)) (omega arith) (omega (arith, g.few))

record_strung : (f₁ f₂ xs r₁ r₂ r₃ r₄ r₅ r₆ s₁ s₂ s₃ s₄ k a b c z : List ℕ)
    → xs ≡ f₁ ++ r₁ → r₁ ≡ s₁ ++ (k ++ r₂) → r₂ ≡ f₂ ++ r₃ → r₃ ≡ s₂ ++ (a ++ r₄) → r₄ ≡ s₃ ++ (b ++ r₅) → r₅ ≡ s₄ ++ (c ++ r₆) → r₆ ≡ z
    → xs ≡ f₁ ++ (s₁ ++ (k ++ (f₂ ++ (s₂ ++ (a ++ (s₃ ++ (b ++ (s₄ ++ (c ++ z)))))))))
record_strung f₁ f₂ xs r₁ r₂ r₃ r₄ r₅ r₆ s₁ s₂ s₃ s₄ k a b c z e₁ e₂ e₃ e₄ e₅ e₆ e₇ = rw (e₁, e₂, e₃, e₄, e₅, e₆, e₇)

pub record_lines_in : (xs : List ℕ) → 131 ≤ length xs → NoFeed xs → Live false 1 (fresh 20) xs → IsRecord xs
unfolding record_bytes
record_lines_in xs n f y =
    let f₁ = free_in false 1 5 126 6 (fresh 20) xs refl n f (inside_heading 1 6 (lit≤ tt)) free_before y in
    let k = number_in false 6 5 121 11 f₁.rest refl (lit≤ tt) f₁.left f₁.rest_free (inside_heading 6 11 (lit≤ tt)) number_columns f₁.live in
    let L = put (fresh 20) (21 + length k.k.more) 0 (count k.k) in
    let f₂ = free_in false 11 69 52 80 L k.rest refl k.left k.rest_free (inside_heading 11 80 (lit≤ tt)) free_between k.live in
    let a = field_in 80 6 18 34 98 L (fresh 0) f₂.rest refl refl (lit≤ tt) f₂.left f₂.rest_free inside_a a_columns
    (number_enters k.k k.good) f₂.live in
    let A = put (fresh 0) spot_done (flag a.d.minus) (size a.d) in
    let K = keep (fresh 0) (flag a.d.minus) (size a.d) in
    let b = field_in 98 2 14 20 112 A K a.rest refl refl (lit≤ tt) a.left a.rest_free inside_b b_columns
    (enter_b (fresh 0) (flag a.d.minus) (size a.d) (lit≤ tt)) a.live in
    let B = put K spot_done (flag b.d.minus) (size b.d) in
    let J = keep K (flag b.d.minus) (size b.d) in
    let c = field_in 112 8 20 0 132 B J b.rest refl refl (lit≤ tt) b.left b.rest_free inside_c c_columns
    (enter_c K (flag b.d.minus) (size b.d) (lit≤ tt)) b.live in
    record {
      t =
          record {
            before_number = f₁.front;
            number_indent = k.indent;
            number = k.k;
            before_a = f₂.front;
            a_indent = a.indent;
            a = a.d;
            b_indent = b.indent;
            b = b.d;
            c_indent = c.indent;
            c = c.d;
            after = length c.rest;
          };
      good =
          record {
            before_number = f₁.free;
            number = k.good;
            number_right = k.right;
            before_a = f₂.free;
            a = a.good;
            a_right = a.right;
            b = b.good;
            b_right = b.right;
            c = c.good;
            c_right = c.right;
          };
      is =
          record_strung f₁.front f₂.front xs f₁.rest k.rest f₂.rest a.rest b.rest c.rest (spaces k.indent)
          (spaces a.indent) (spaces b.indent) (spaces c.indent) (count_bytes k.k) (decimal a.d) (decimal b.d) (decimal c.d)
          (spaces (length c.rest)) f₁.is k.is f₂.is a.is b.is c.is
          (blank_in c.rest 132 (put J spot_done (flag c.d.minus) (size c.d)) (lit≤ tt) c.live);
    }

pub record_in : (xs : List ℕ) → NoFeed xs → ((lex_rows false fresh_row xs).line.spot ≡ spot_bad → ⊥) → whole_row false (lex_rows false fresh_row xs) ≡ true
    → IsRecord xs
unfolding whole_row
record_in xs f y w = record_lines_in xs (whole_long false 131 xs (omega arith) w) f (first_line false xs y)
