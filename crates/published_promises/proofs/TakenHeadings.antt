-- A heading of a published file that was taken follows the layout: stretch by stretch of its columns. Assumes nothing.
use mathlib.Core.Path.{◌≡◌, refl, ap, ◌∙◌}
use mathlib.Core.Bool.{Bool, true}
use mathlib.Core.List.{List, ◌∷◌, ◌++◌}
use Prim.Native.Nat.{ℕ, ◌+◌, ◌-◌, ◌≤◌, ◌<◌}
use native.Mathlib.Omega.{arith}
use borrow.Author.Tests.{ltb-true, ltb-false}
use lib.Dec.{ltb, lit≤}
use lib.ListN.{length}
use Rattle.integers.proofs.Tests.{by_cases}
use Rattle.series_lines.specs.declared.Line.{Line}
use Rattle.series_lines.specs.Grammar.{spaces, count_bytes}
use Rattle.series_lines.specs.Lexer.{spot_bad, fresh}
use Rattle.published_records.specs.declared.Column.TheVariants.{Filler, Count}
use Rattle.published_records.specs.Layout.{NoFeed, heading_bytes}
use Rattle.published_records.specs.Rows.{heading_column, fresh_row, lex_rows, whole_row}
use Rattle.published_promises.specs.Decided.{IsHeading}
use Rattle.published_promises.proofs.RowLaws.{held, held_under, rows_column}
use Rattle.published_promises.proofs.Stretches.{heading_filler, heading_count}
use Rattle.published_promises.proofs.RowLines.{rows_lines, Inside, Are}
use Rattle.published_promises.proofs.TakenStretches.{Live, free_in, figure_in, number_in}

-- ---- A heading.

-- So many bytes are whole.
pub whole_long : (h : Bool) (n : ℕ) (xs : List ℕ) → n < 132 → ltb n (lex_rows h fresh_row xs).column ≡ true → n ≤ length xs
whole_long h n xs b w =
    let e = rows_column h fresh_row xs (omega arith) in
    let t = ltb-true n (lex_rows h fresh_row xs).column w in
    by_cases (ltb (length xs) n)
    (λ p. let q = ltb-true (length xs) n p in absurd (omega (arith, e, t, held_under (1 + length xs) (omega (arith, q)))))
    (λ p. ltb-false (length xs) n p)

heading_strung : (f₁ f₂ f₃ xs r₁ r₂ r₃ r₄ r₅ r₆ r₇ s k : List ℕ) (v c p : ℕ)
    → xs ≡ f₁ ++ r₁ → r₁ ≡ v ∷ r₂ → r₂ ≡ f₂ ++ r₃ → r₃ ≡ c ∷ r₄ → r₄ ≡ f₃ ++ r₅ → r₅ ≡ p ∷ r₆ → r₆ ≡ s ++ (k ++ r₇)
    → xs ≡ f₁ ++ (v ∷ (f₂ ++ (c ∷ (f₃ ++ (p ∷ (s ++ (k ++ r₇)))))))
heading_strung f₁ f₂ f₃ xs r₁ r₂ r₃ r₄ r₅ r₆ r₇ s k v c p e₁ e₂ e₃ e₄ e₅ e₆ e₇ = rw (e₁, e₂, e₃, e₄, e₅, e₆, e₇)

pub inside_heading : (c e : ℕ) → e ≤ 80 → Inside c e
inside_heading c e h k i j = (((λ z. omega (arith, z)), (λ z. omega (arith, z))), λ z. omega (arith, z))

free_heading : (c e : ℕ) → e ≤ 60 → ((k : ℕ) → c ≤ k → k < e → (k ≡ 18 → ⊥) × (k ≡ 42 → ⊥)) → Are true (λ k. Filler) c e
free_heading c e h n k i j = let t = n k i j in heading_filler k t.0 t.1 (λ z. omega (arith, z)) (omega arith)

free_1 : Are true (λ k. Filler) 1 18
free_1 = free_heading 1 18 (omega arith) (λ k i j. ((λ z. omega (arith, z)), (λ z. omega (arith, z))))

free_19 : Are true (λ k. Filler) 19 42
free_19 = free_heading 19 42 (omega arith) (λ k i j. ((λ z. omega (arith, z)), (λ z. omega (arith, z))))

free_43 : Are true (λ k. Filler) 43 60
free_43 = free_heading 43 60 (omega arith) (λ k i j. ((λ z. omega (arith, z)), (λ z. omega (arith, z))))

pub count_heading : Are true Count 61 68
count_heading k i j = let e : 67 - k ≡ 68 - k - 1 = omega arith in heading_count k i (omega arith) ∙ ap Count e

pub heading_lines_in : (xs : List ℕ) → 67 ≤ length xs → NoFeed xs → Live true 1 (fresh 20) xs → IsHeading xs
unfolding heading_bytes heading_column
heading_lines_in xs n f y =
    let a = free_in true 1 17 50 18 (fresh 20) xs refl n f (inside_heading 1 18 (lit≤ tt)) free_1 y in
    let v = figure_in 18 49 (fresh 20) a.rest refl a.left a.rest_free a.live in
    let b = free_in true 19 23 26 42 (fresh 20) v.rest refl v.left v.rest_free (inside_heading 19 42 (lit≤ tt)) free_19 v.live in
    let c = figure_in 42 25 (fresh 20) b.rest refl b.left b.rest_free b.live in
    let d = free_in true 43 17 8 60 (fresh 20) c.rest refl c.left c.rest_free (inside_heading 43 60 (lit≤ tt)) free_43 c.live in
    let p = figure_in 60 7 (fresh 20) d.rest refl d.left d.rest_free d.live in
    let k = number_in true 61 7 0 68 p.rest refl (lit≤ tt) p.left p.rest_free (inside_heading 61 68 (lit≤ tt)) count_heading p.live in
    record {
      h =
          record {
            before_version = a.front;
            version = v.d;
            before_coordinate = b.front;
            coordinate = c.d;
            before_power = d.front;
            power = p.d;
            count_indent = k.indent;
            count = k.k;
            after = k.rest;
          };
      good =
          record {
            before_version = a.free;
            version = v.digit;
            before_coordinate = b.free;
            coordinate = c.digit;
            before_power = d.free;
            power = p.digit;
            count = k.good;
            count_right = k.right;
            after = k.rest_free;
          };
      is =
          heading_strung a.front b.front d.front xs a.rest v.rest b.rest c.rest d.rest p.rest k.rest
          (spaces k.indent) (count_bytes k.k) (48 + v.d) (48 + c.d) (48 + p.d) a.is v.is b.is c.is d.is p.is k.is;
    }

-- The first row.
pub first_line : (h : Bool) (xs : List ℕ) → ((lex_rows h fresh_row xs).line.spot ≡ spot_bad → ⊥) → Live h 1 (fresh 20) xs
unfolding held
first_line h xs y e = y (ap (λ (l : Line). l.spot) (rows_lines h xs fresh_row 1 refl) ∙ e)

pub heading_in : (xs : List ℕ) → NoFeed xs → ((lex_rows true fresh_row xs).line.spot ≡ spot_bad → ⊥) → whole_row true (lex_rows true fresh_row xs) ≡ true
    → IsHeading xs
unfolding whole_row
heading_in xs f y w = heading_lines_in xs (whole_long true 67 xs (omega arith) w) f (first_line true xs y)
