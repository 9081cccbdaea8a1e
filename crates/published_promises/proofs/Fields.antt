-- The bytes of a decimal's field, as long as they are good, are a figure to the right in its columns. Assumes nothing.
use mathlib.Core.Path.{◌≡◌, refl, ap, ◌∙◌, subst}
use mathlib.Core.Bool.{Bool, true, false, cond}
use mathlib.Core.List.{List, [], ◌∷◌, ◌++◌, append_assoc}
use mathlib.Core.Logic.{◌⊎◌, inl, inr}
use Prim.Native.Nat.{ℕ, zero, suc, ◌+◌, ◌*◌, ◌≤◌, ◌<◌}
use native.Mathlib.Omega.{arith}
use borrow.Author.Tests.{eqb-true}
use lib.Dec.{eqb}
use lib.ListN.{length}
use Rattle.integers.proofs.Tests.{by_cases}
use Rattle.series_lines.specs.declared.Line.{Line}
use Rattle.series_lines.specs.Grammar.{spaces, sign, digits, AllDigits, numeral, Decimal}
use Rattle.series_lines.specs.Grammar.{size, decimal, GoodDecimal}
use Rattle.series_lines.specs.Lexer.{spot_done, spot_bad, bad, lex, lexes}
use Rattle.text_promises.proofs.GoodLines.{put, flag, lex_point}
use Rattle.text_promises.proofs.OneByte.{Lexed, none, digit, pointed, spaced, kept, negated, view, never, last_part}
use Rattle.text_promises.proofs.Lines.{bad_end}
use Rattle.published_promises.proofs.WholeColumns.{whole_bytes, whole_kind, whole_in}

-- ---- The columns after the point.

pub record PartsIn (l : Line) (m v n : ℕ) (xs : List ℕ) (G : Line) : Type 0 where
  pub ds : List ℕ
  pub is : xs ≡ digits ds
  pub all : AllDigits ds
  pub long : length ds ≡ n
  pub sized : (m ≡ 0) ⊎ (0 < numeral v ds)
  pub line : G ≡ put l spot_done m (numeral v ds)

module _ (l : Line) (s m v b : ℕ) (low : 7 ≤ s) where
  parts_last : s ≡ 17 → (L : Line) → Lexed (put l s m v) b L → (L.spot ≡ spot_bad → ⊥) → PartsIn l m v 1 (b ∷ []) L
  unfolding digits numeral AllDigits
  parts_last e _ none y = absurd (y refl)
  parts_last e _ (digit d i h t) y =
      record {
        ds = d ∷ [];
        is = ap (λ (x : ℕ). x ∷ []) i;
        all = (h, tt);
        long = refl;
        sized = last_part m v d (rw e at t);
        line = ap (λ (x : ℕ). put l (x + 1) m (10 * v + d)) e;
      }
  parts_last e _ (pointed i h k) y = absurd (omega arith)
  parts_last e _ (spaced i h k) y = absurd (omega arith)
  parts_last e _ (kept i h k) y = absurd (omega arith)
  parts_last e _ (negated i h k) y = absurd (omega arith)

  parts_more : (n : ℕ) (bs : List ℕ) → s < 17
      → ((v' : ℕ) → ((lexes (put l (s + 1) m v') bs).spot ≡ spot_bad → ⊥) → PartsIn l m v' n bs (lexes (put l (s + 1) m v') bs))
      → (L : Line) → Lexed (put l s m v) b L → ((lexes L bs).spot ≡ spot_bad → ⊥) → PartsIn l m v (suc n) (b ∷ bs) (lexes L bs)
  unfolding digits numeral AllDigits
  parts_more n bs e rec _ none y = absurd (y (bad_end bad bs refl))
  parts_more n bs e rec _ (digit d i h t) y =
      let p = rec (10 * v + d) y in
      record {
        ds = d ∷ p.ds;
        is = ap (λ (x : ℕ). x ∷ bs) i ∙ ap (λ (x : List ℕ). (48 + d) ∷ x) p.is;
        all = (h, p.all);
        long = ap suc p.long;
        sized = p.sized;
        line = p.line;
      }
  parts_more n bs e rec _ (pointed i h k) y = absurd (omega arith)
  parts_more n bs e rec _ (spaced i h k) y = absurd (omega arith)
  parts_more n bs e rec _ (kept i h k) y = absurd (omega arith)
  parts_more n bs e rec _ (negated i h k) y = absurd (omega arith)

parts_in : (n : ℕ) (xs : List ℕ) (l : Line) (s m v : ℕ) → 7 ≤ s → s + suc n ≡ spot_done → length xs ≡ suc n → ((lexes (put l s m v) xs).spot ≡ spot_bad → ⊥)
    → PartsIn l m v (suc n) xs (lexes (put l s m v) xs)
unfolding lexes
parts_in n [] l s m v h k e y = absurd (omega arith)
parts_in zero (b ∷ []) l s m v h k e y = parts_last l s m v b h (omega arith) (lex (put l s m v) b) (view (put l s m v) b) y
parts_in zero (b ∷ c ∷ bs) l s m v h k e y = absurd (omega arith)
parts_in (suc n) (b ∷ bs) l s m v h k e y =
    parts_more l s m v b h (suc n) bs (omega arith) (λ v' z. parts_in n bs l (s + 1) m v' (omega arith) (omega arith) (omega arith) z)
    (lex (put l s m v) b) (view (put l s m v) b) y

-- ---- The columns of a decimal.

-- A byte in the column of the point.
abbrev pub at_point : Line → ℕ → Line
at_point l b = cond (eqb b 46) (lex l b) bad

-- Its bytes: whole columns, the point, and the rest.
abbrev pub decimal_line : Line → List ℕ → ℕ → List ℕ → Line
decimal_line l ws p ps = lexes (at_point (whole_bytes 6 l ws) p) ps

pub record DecimalIn (l : Line) (xs : List ℕ) (G : Line) : Type 0 where
  pub n : ℕ
  pub d : Decimal
  pub good : GoodDecimal d
  pub is : xs ≡ spaces n ++ decimal d
  pub line : G ≡ put l spot_done (flag d.minus) (size d)

sized_minus : (m : Bool) (v : ℕ) → (flag m ≡ 0) ⊎ (0 < v) → m ≡ true → 0 < v
unfolding flag
sized_minus true v (inl e) h = absurd (omega (arith, e))
sized_minus true v (inr k) h = k
sized_minus false v z h = never h

joined : (n : ℕ) (m : Bool) (w p : List ℕ) → (spaces n ++ (sign m ++ digits w)) ++ (46 ∷ digits p) ≡ spaces n ++ (sign m ++ (digits w ++ (46 ∷ digits p)))
joined n m w p = simp append_assoc

-- At the point.
pointed_in : (l : Line) (p : ℕ) (ps : List ℕ) → ((lexes (at_point l p) ps).spot ≡ spot_bad → ⊥) → p ≡ 46
pointed_in l p ps y = by_cases (eqb p 46) (λ e. eqb-true p 46 e) (λ e. absurd (y (rw e (bad_end bad ps refl))))

whole_live : (l : Line) (p : ℕ) (ps : List ℕ) → ((lexes (at_point l p) ps).spot ≡ spot_bad → ⊥) → l.spot ≡ spot_bad → ⊥
whole_live l p ps y e = y (bad_end (at_point l p) ps (by_cases (eqb p 46) (λ q. rw q (unfold lexes in bad_end l (p ∷ []) e)) (λ q. rw q)))

point_taken : (l : Line) (s m v : ℕ) (p : ℕ) → 1 ≤ s → s ≤ 6 → p ≡ 46 → at_point (put l s m v) p ≡ put l 7 m v
point_taken l s m v p h k e = rw e (lex_point l s m v h k)

pub decimal_field : (l : Line) (ws : List ℕ) (p : ℕ) (ps : List ℕ) → 1 ≤ length ws → length ps ≡ 11
    → ((decimal_line (put l 0 0 0) ws p ps).spot ≡ spot_bad → ⊥) → DecimalIn l (ws ++ (p ∷ ps)) (decimal_line (put l 0 0 0) ws p ps)
unfolding decimal size
decimal_field l ws p ps h k y =
    let W = whole_bytes 6 (put l 0 0 0) ws in
    let e = pointed_in W p ps y in
    let a = whole_in 0 6 whole_kind ws l h (whole_live W p ps y) in
    let m = flag a.m in
    let v = numeral a.first a.more in
    let f : at_point W p ≡ put l 7 m v =
    ap (λ (x : Line). at_point x p) a.line
    ∙ point_taken l (0 + 1 + length a.more) m v p (omega arith) (omega (arith, a.natural.few)) e in
    let b = parts_in 10 ps l 7 m v (omega arith) refl k (subst (λ (x : Line). (lexes x ps).spot ≡ spot_bad → ⊥) f y) in
    record {
      n = a.n;
      d = record { minus = a.m; first = a.first; more = a.more; parts = b.ds };
      good =
          record {
            whole = a.natural;
            digits = b.all;
            eleven = b.long;
            zero = sized_minus a.m (numeral v b.ds) b.sized;
          };
      is =
          ap (λ (x : List ℕ). x ++ (p ∷ ps)) a.is
          ∙ ap (λ (x : List ℕ). (spaces a.n ++ (sign a.m ++ digits (a.first ∷ a.more))) ++ x)
          (ap (λ (x : ℕ). x ∷ ps) e ∙ ap (λ (x : List ℕ). 46 ∷ x) b.is)
          ∙ joined a.n a.m (a.first ∷ a.more) b.ds;
      line = ap (λ (x : Line). lexes x ps) f ∙ b.line;
    }
