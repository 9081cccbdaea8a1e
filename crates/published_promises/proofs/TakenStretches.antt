-- Stretches of a record that were taken: free columns, a digit of a heading, the columns of a number. Assumes nothing.
use mathlib.Core.Path.{◌≡◌, refl, ap, ◌∙◌, subst}
use mathlib.Core.Bool.{Bool, true}
use mathlib.Core.List.{List, [], ◌∷◌, ◌++◌, append_assoc}
use Prim.Native.Nat.{ℕ, zero, suc, ◌+◌, ◌-◌, ◌≤◌, ◌<◌}
use native.Mathlib.Omega.{arith}
use borrow.Author.Tests.{leb-true, ltb-true}
use lib.Dec.{leb, ltb}
use lib.ListN.{length, length-append}
use Rattle.integers.proofs.Tests.{by_cases}
use Rattle.series_lines.specs.declared.Line.{Line}
use Rattle.series_lines.specs.Grammar.{spaces, CountLine, count, count_bytes, GoodCount}
use Rattle.series_lines.specs.Lexer.{spot_bad, fresh, bad}
use Rattle.published_records.specs.declared.Column.{Column}
use Rattle.published_records.specs.declared.Column.TheVariants.{Filler, Digit, Count}
use Rattle.published_records.specs.Layout.{NoFeed, Free}
use Rattle.published_records.specs.Rows.{heading_column}
use Rattle.text_promises.proofs.GoodLines.{put}
use Rattle.published_promises.proofs.RowLaws.{in_field}
use Rattle.published_promises.proofs.Stretches.{filler_lines}
use Rattle.published_promises.proofs.WholeColumns.{whole_bytes, count_field}
use Rattle.published_promises.proofs.RowLines.{enter, line_step, lines, lines_bad, Inside, Are}
use Rattle.published_promises.proofs.RowLines.{inside_run, count_columns}

-- ---- Lists cut in two.

pub record Cut (n : ℕ) (xs : List ℕ) : Type 0 where
  pub front : List ℕ
  pub rest : List ℕ
  pub is : xs ≡ front ++ rest
  pub long : length front ≡ n
  pub left : n + length rest ≡ length xs
  pub free : NoFeed front
  pub rest_free : NoFeed rest

pub cut : (n : ℕ) (xs : List ℕ) → n ≤ length xs → NoFeed xs → Cut n xs
unfolding NoFeed
cut zero xs h f = record { front = []; rest = xs; is = refl; long = refl; left = omega arith; free = tt; rest_free = f }
cut (suc n) [] h f = absurd (omega arith)
cut (suc n) (x ∷ xs) h f =
    let c = cut n xs (omega arith) f.1 in
    record {
      front = x ∷ c.front;
      rest = c.rest;
      is = ap (λ (y : List ℕ). x ∷ y) c.is;
      long = ap suc c.long;
      left = omega (arith, c.left);
      free = (f.0, c.free);
      rest_free = c.rest_free;
    }

pub record Next (xs : List ℕ) : Type 0 where
  pub b : ℕ
  pub rest : List ℕ
  pub is : xs ≡ b ∷ rest
  pub left : suc (length rest) ≡ length xs
  pub rest_free : NoFeed rest

pub next : (xs : List ℕ) → 1 ≤ length xs → NoFeed xs → Next xs
unfolding NoFeed
next [] h f = absurd (omega arith)
next (x ∷ xs) h f = record { b = x; rest = xs; is = refl; left = refl; rest_free = f.1 }

pub spaces_length : (n : ℕ) → length (spaces n) ≡ n
unfolding spaces
spaces_length zero = refl
spaces_length (suc n) = ap suc (spaces_length n)

-- ---- Stretches that were taken.

-- The line is good.
abbrev pub Live : Bool → ℕ → Line → List ℕ → Type 0
Live h c l xs = (lines h c l xs).spot ≡ spot_bad → ⊥

-- Free columns.
pub record FreeIn (h : Bool) (n m e : ℕ) (l : Line) (xs : List ℕ) : Type 0 where
  pub front : List ℕ
  pub rest : List ℕ
  pub is : xs ≡ front ++ rest
  pub free : Free n front
  pub left : m ≤ length rest
  pub rest_free : NoFeed rest
  pub live : Live h e l rest

pub free_in : (h : Bool) (c n m e : ℕ) (l : Line) (xs : List ℕ) → c + n ≡ e → n + m ≤ length xs → NoFeed xs → Inside c e → Are h (λ k. Filler) c e
    → Live h c l xs → FreeIn h n m e l xs
free_in h c n m e l xs i k f s a y =
    let p = cut n xs (omega arith) f in
    let q : lines h c l xs ≡ lines h e l p.rest =
    ap (λ (z : List ℕ). lines h c l z) p.is
    ∙ inside_run h (λ k. Filler) e p.front p.rest c l (omega (arith, p.long)) s a
    ∙ ap (λ (z : Line). lines h e z p.rest) (filler_lines l p.front) in
    record {
      front = p.front;
      rest = p.rest;
      is = p.is;
      free = record { columns = p.long; no_feed = p.free };
      left = omega (arith, p.left);
      rest_free = p.rest_free;
      live = λ z. y (ap (λ (x : Line). x.spot) q ∙ z);
    }

-- A digit of a heading.
pub record FigureIn (m e : ℕ) (l : Line) (xs : List ℕ) : Type 0 where
  pub d : ℕ
  pub rest : List ℕ
  pub is : xs ≡ (48 + d) ∷ rest
  pub digit : d < 10
  pub left : m ≤ length rest
  pub rest_free : NoFeed rest
  pub live : Live true e l rest

figure_byte : (c : ℕ) (l : Line) (b : ℕ) (rest : List ℕ) → heading_column c ≡ Digit → Live true c l (b ∷ rest)
    → ((48 ≤ b) × (b < 58)) × Live true (suc c) l rest
unfolding lines line_step in_field enter
figure_byte c l b rest k y =
    let z : (lines true (suc c) (in_field Digit l b) rest).spot ≡ spot_bad → ⊥ =
    subst (λ (q : Column). (lines true (suc c) (in_field q l b) rest).spot ≡ spot_bad → ⊥) k y in
    by_cases (leb 48 b)
    (λ p. by_cases (ltb b 58)
    (λ q. ((leb-true 48 b p, ltb-true b 58 q), rw (p, q) at z))
    (λ q. absurd (z (rw (p, q) (lines_bad true rest (suc c) bad refl)))))
    (λ p. absurd (z (rw p (lines_bad true rest (suc c) bad refl))))

pub figure_in : (c m : ℕ) (l : Line) (xs : List ℕ) → heading_column c ≡ Digit → 1 + m ≤ length xs → NoFeed xs → Live true c l xs → FigureIn m (suc c) l xs
figure_in c m l xs k h f y =
    let p = next xs (omega arith) f in
    let g = figure_byte c l p.b p.rest k (subst (λ (z : List ℕ). Live true c l z) p.is y) in
    let e : p.b ≡ 48 + (p.b - 48) = omega (arith, g.0.0) in
    record {
      d = p.b - 48;
      rest = p.rest;
      is = p.is ∙ ap (λ (x : ℕ). x ∷ p.rest) e;
      digit = omega (arith, g.0.0, g.0.1);
      left = omega (arith, p.left);
      rest_free = p.rest_free;
      live = g.1;
    }

-- The columns of a count.
pub record NumberIn (h : Bool) (n m e : ℕ) (xs : List ℕ) : Type 0 where
  pub indent : ℕ
  pub k : CountLine
  pub rest : List ℕ
  pub is : xs ≡ spaces indent ++ (count_bytes k ++ rest)
  pub good : GoodCount k
  pub right : indent + length (count_bytes k) ≡ n
  pub left : m ≤ length rest
  pub rest_free : NoFeed rest
  pub live : Live h e (put (fresh 20) (21 + length k.more) 0 (count k)) rest

pub right_of : (n i : ℕ) (front figure : List ℕ) → length front ≡ n → front ≡ spaces i ++ figure → i + length figure ≡ n
right_of n i front figure h e =
    let s = ap length e ∙ length-append (spaces i) figure in omega (arith, s, spaces_length i)

pub number_in : (h : Bool) (c n m e : ℕ) (xs : List ℕ) → c + n ≡ e → 1 ≤ n → n + m ≤ length xs → NoFeed xs → Inside c e → Are h Count c e
    → Live h c (fresh 20) xs → NumberIn h n m e xs
number_in h c n m e xs i o k f s a y =
    let p = cut n xs (omega arith) f in
    let q : lines h c (fresh 20) xs ≡ lines h e (whole_bytes 4 (fresh 20) p.front) p.rest =
    ap (λ (z : List ℕ). lines h c (fresh 20) z) p.is
    ∙ inside_run h Count e p.front p.rest c (fresh 20) (omega (arith, p.long)) s a
    ∙ ap (λ (z : Line). lines h e z p.rest) (count_columns p.front (fresh 20)) in
    let z : Live h e (whole_bytes 4 (fresh 20) p.front) p.rest = λ z. y (ap (λ (x : Line). x.spot) q ∙ z) in
    let t = count_field p.front (omega (arith, p.long)) (λ b. z (lines_bad h p.rest e (whole_bytes 4 (fresh 20) p.front) b)) in
    record {
      indent = t.n;
      k = t.k;
      rest = p.rest;
      is = p.is ∙ ap (λ (x : List ℕ). x ++ p.rest) t.is ∙ append_assoc (spaces t.n) (count_bytes t.k) p.rest;
      good = t.good;
      right = right_of n t.n p.front (count_bytes t.k) p.long t.is;
      left = omega (arith, p.left);
      rest_free = p.rest_free;
      live = subst (λ (x : Line). Live h e x p.rest) t.line z;
    }
