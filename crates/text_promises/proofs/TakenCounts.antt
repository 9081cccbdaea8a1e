-- A count line that was taken follows the grammar. Assumes nothing.
use mathlib.Core.Path.{◌≡◌, refl, ap, ◌∙◌}
use mathlib.Core.Bool.{true}
use mathlib.Core.List.{List, [], ◌∷◌}
use Prim.Native.Nat.{ℕ, suc, ◌+◌, ◌*◌, ◌≤◌}
use native.Mathlib.Nat.{add-zero}
use native.Mathlib.Omega.{arith}
use lib.ListN.{length}
use Rattle.series_lines.specs.declared.Line.{Line}
use Rattle.series_lines.specs.Lexer.{fresh, lex, lexes, whole_count}
use Rattle.series_lines.specs.Grammar.{digits, AllDigits, numeral, CountLine, count, count_bytes, GoodCount}
use Rattle.text_promises.proofs.GoodLines.{put}
use Rattle.text_promises.proofs.OneByte.{Lexed, none, digit, pointed, spaced, kept, negated, view, count_of, no_count, count_more}

-- The digits after the first.
record More (l : Line) (s v : ℕ) (xs : List ℕ) (F : Line) : Type 0 where
  ds : List ℕ
  is : xs ≡ digits ds
  all : AllDigits ds
  few : s + length ds ≤ 24
  leading : v ≡ 0 → ds ≡ []
  rest : put l (s + length ds) 0 (numeral v ds) ≡ F

module _ (l : Line) (s v : ℕ) (b : ℕ) (bs : List ℕ) (F : Line) (w : whole_count F ≡ true) (low : 21 ≤ s) where
  more_next : ((v' : ℕ) → lexes (put l (s + 1) 0 v') bs ≡ F → More l (s + 1) v' bs F)
      → (L : Line) → Lexed (put l s 0 v) b L → lexes L bs ≡ F → More l s v (b ∷ bs) F
  unfolding digits numeral AllDigits
  more_next rec _ none q = no_count bs F q w
  more_next rec _ (digit d i h t) q =
      let k = count_more s 0 v d low t in
      let p = rec (10 * v + d) q in
      let e : s + 1 + length p.ds ≡ s + suc (length p.ds) = omega arith in
      record {
        ds = d ∷ p.ds;
        is = ap (λ (x : ℕ). x ∷ bs) i ∙ ap (λ (x : List ℕ). (48 + d) ∷ x) p.is;
        all = (h, p.all);
        few = omega (arith, p.few);
        leading = λ e. absurd (omega (arith, k.1));
        rest = rw e at p.rest;
      }
  more_next rec _ (pointed i h k) q = absurd (omega arith)
  more_next rec _ (spaced i h k) q = absurd (omega arith)
  more_next rec _ (kept i h k) q = absurd (omega arith)
  more_next rec _ (negated i h k) q = absurd (omega arith)

more : (xs : List ℕ) (l : Line) (s v : ℕ) (F : Line) → whole_count F ≡ true → 21 ≤ s → lexes (put l s 0 v) xs ≡ F → More l s v xs F
unfolding lexes digits numeral AllDigits
more [] l s v F w h q =
    let c = count_of F w in
    let e = ap (λ (x : Line). x.spot) q in
    record { ds = []; is = refl; all = tt; few = omega (arith, c.high); leading = λ e. refl; rest = rw (add-zero s) q }
more (b ∷ bs) l s v F w h q =
    more_next l s v b bs F w h (λ v' r. more bs l (s + 1) v' F w (omega arith) r) (lex (put l s 0 v) b) (view (put l s 0 v) b) q

pub record CountIn (xs : List ℕ) (F : Line) : Type 0 where
  pub k : CountLine
  pub good : GoodCount k
  pub is : xs ≡ count_bytes k
  pub line : put (fresh 20) (21 + length k.more) 0 (count k) ≡ F

pub count_in : (xs : List ℕ) (F : Line) → whole_count F ≡ true → lexes (fresh 20) xs ≡ F → CountIn xs F
unfolding lexes count_bytes count digits
count_in [] F w q = let c = count_of F w in let e = ap (λ (x : Line). x.spot) q in absurd (omega (arith, c.low))
count_in (b ∷ bs) F w q = go (lex (fresh 20) b) (view (fresh 20) b) q
  where
    go : (L : Line) → Lexed (fresh 20) b L → lexes L bs ≡ F → CountIn (b ∷ bs) F
    go _ none r = no_count bs F r w
    go _ (digit d i h t) r =
        let z : 10 * 0 + d ≡ d = omega arith in
        let p = more bs (fresh 20) 21 d F w (omega arith) (rw z at r) in
        record {
          k = record { first = d; more = p.ds };
          good = record { digit = h; digits = p.all; few = omega (arith, p.few); leading = p.leading };
          is = ap (λ (x : ℕ). x ∷ bs) i ∙ ap (λ (x : List ℕ). (48 + d) ∷ x) p.is;
          line = p.rest;
        }
    go _ (pointed i h k) r = absurd (omega arith)
    go _ (spaced i h k) r = absurd (omega arith)
    go _ (kept i h k) r = absurd (omega arith)
    go _ (negated i h k) r = absurd (omega arith)
