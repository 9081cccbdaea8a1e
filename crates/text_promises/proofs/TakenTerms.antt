-- A term line that was taken follows the grammar, shown part by part: spaces, sign, digits, point, decimals. Assumes nothing.
use mathlib.Core.Path.{◌≡◌, refl, sym, ap, ◌∙◌}
use mathlib.Core.Bool.{Bool, true, false}
use mathlib.Core.List.{List, [], ◌∷◌, ◌++◌, append_assoc, append-nil}
use mathlib.Core.Logic.{◌⊎◌, inl, inr}
use Prim.Native.Nat.{ℕ, zero, suc, ◌+◌, ◌*◌, ◌≤◌, ◌<◌}
use native.Mathlib.Omega.{arith}
use lib.ListN.{length}
use Rattle.series_lines.specs.declared.Line.{Line}
use Rattle.series_lines.specs.Lexer.{spot_done, fresh, takes_digit, lex, lexes, whole_term}
use Rattle.series_lines.specs.Grammar.{spaces, sign, digits, AllDigits, numeral, Decimal, size, decimal, GoodDecimal, TermLine, term_bytes, GoodTerm}
use Rattle.text_promises.proofs.GoodLines.{put, keep, flag, line_of_term}
use Rattle.text_promises.proofs.OneByte.{Lexed, none, digit, pointed, spaced, kept, negated, view, term_of, no_term, never, last_part, whole_more}
use Rattle.series_lines.proofs.Digits.{after_decimal, small}
use lib.Dec.{lit<}

-- No digit follows a whole decimal.
pub no_digit : (m v d : ℕ) → takes_digit spot_done m v d ≡ true → ⊥
no_digit m v d t = never (sym (after_decimal spot_done m v d (small spot_done m v d t) (omega arith) (omega arith)) ∙ t)

-- The decimals of a line that comes to be whole.
record Parts (l : Line) (m v n : ℕ) (xs : List ℕ) (F : Line) : Type 0 where
  ds : List ℕ
  ys : List ℕ
  is : xs ≡ digits ds ++ ys
  all : AllDigits ds
  long : length ds ≡ n
  sized : (m ≡ 0) ⊎ (0 < numeral v ds)
  rest : lexes (put l spot_done m (numeral v ds)) ys ≡ F

-- One more decimal, the last or not.
module _ (l : Line) (s m v : ℕ) (b : ℕ) (bs : List ℕ) (F : Line) (w : whole_term F ≡ true) (low : 7 ≤ s) where
  parts_last : s ≡ 17 → (L : Line) → Lexed (put l s m v) b L → lexes L bs ≡ F → Parts l m v 1 (b ∷ bs) F
  unfolding digits numeral AllDigits
  parts_last e _ none q = no_term bs F q w
  parts_last e _ (digit d i h t) q =
      record {
        ds = d ∷ [];
        ys = bs;
        is = ap (λ (x : ℕ). x ∷ bs) i;
        all = (h, tt);
        long = refl;
        sized = last_part m v d (rw e at t);
        rest = rw e at q;
      }
  parts_last e _ (pointed i h k) q = absurd (omega arith)
  parts_last e _ (spaced i h k) q = absurd (omega arith)
  parts_last e _ (kept i h k) q = absurd (omega arith)
  parts_last e _ (negated i h k) q = absurd (omega arith)

  parts_more : (n : ℕ) → s < 17 → ((v' : ℕ) → lexes (put l (s + 1) m v') bs ≡ F → Parts l m v' n bs F)
      → (L : Line) → Lexed (put l s m v) b L → lexes L bs ≡ F → Parts l m v (suc n) (b ∷ bs) F
  unfolding digits numeral AllDigits
  parts_more n e rec _ none q = no_term bs F q w
  parts_more n e rec _ (digit d i h t) q =
      let p = rec (10 * v + d) q in
      record {
        ds = d ∷ p.ds;
        ys = p.ys;
        is = ap (λ (x : ℕ). x ∷ bs) i ∙ ap (λ (x : List ℕ). (48 + d) ∷ x) p.is;
        all = (h, p.all);
        long = ap suc p.long;
        sized = p.sized;
        rest = p.rest;
      }
  parts_more n e rec _ (pointed i h k) q = absurd (omega arith)
  parts_more n e rec _ (spaced i h k) q = absurd (omega arith)
  parts_more n e rec _ (kept i h k) q = absurd (omega arith)
  parts_more n e rec _ (negated i h k) q = absurd (omega arith)

parts : (n : ℕ) (xs : List ℕ) (l : Line) (s m v : ℕ) (F : Line) → whole_term F ≡ true → 7 ≤ s → s + suc n ≡ spot_done → lexes (put l s m v) xs ≡ F
    → Parts l m v (suc n) xs F
unfolding lexes
parts n [] l s m v F w h k q = let t = term_of F w in let e = ap (λ (x : Line). x.spot) q in absurd (omega (arith, t.spot))
parts zero (b ∷ bs) l s m v F w h k q = parts_last l s m v b bs F w h (omega arith) (lex (put l s m v) b) (view (put l s m v) b) q
parts (suc n) (b ∷ bs) l s m v F w h k q =
    parts_more l s m v b bs F w h (suc n) (omega arith)
    (λ v' r. parts n bs l (s + 1) m v' F w (omega arith) (omega arith) r)
    (lex (put l s m v) b) (view (put l s m v) b) q

-- The whole digits after the first, and the point.
record Whole (l : Line) (s m v : ℕ) (xs : List ℕ) (F : Line) : Type 0 where
  ds : List ℕ
  ys : List ℕ
  is : xs ≡ digits ds ++ (46 ∷ ys)
  all : AllDigits ds
  few : s + length ds ≤ 6
  leading : v ≡ 0 → ds ≡ []
  rest : lexes (put l 7 m (numeral v ds)) ys ≡ F

module _ (l : Line) (s m v : ℕ) (b : ℕ) (bs : List ℕ) (F : Line) (w : whole_term F ≡ true) (low : 1 ≤ s) (high : s ≤ 6) where
  whole_next : ((v' : ℕ) → s + 1 ≤ 6 → lexes (put l (s + 1) m v') bs ≡ F → Whole l (s + 1) m v' bs F)
      → (L : Line) → Lexed (put l s m v) b L → lexes L bs ≡ F → Whole l s m v (b ∷ bs) F
  unfolding digits numeral AllDigits
  whole_next rec _ none q = no_term bs F q w
  whole_next rec _ (digit d i h t) q =
      let k = whole_more s m v d low high t in
      let p = rec (10 * v + d) (omega arith) q in
      record {
        ds = d ∷ p.ds;
        ys = p.ys;
        is = ap (λ (x : ℕ). x ∷ bs) i ∙ ap (λ (x : List ℕ). (48 + d) ∷ x) p.is;
        all = (h, p.all);
        few = omega (arith, p.few);
        leading = λ e. absurd (omega (arith, k.1));
        rest = p.rest;
      }
  whole_next rec _ (pointed i h k) q =
      record {
        ds = [];
        ys = bs;
        is = ap (λ (x : ℕ). x ∷ bs) i;
        all = tt;
        few = omega arith;
        leading = λ e. refl;
        rest = q;
      }
  whole_next rec _ (spaced i h k) q = absurd (omega arith)
  whole_next rec _ (kept i h k) q = absurd (omega arith)
  whole_next rec _ (negated i h k) q = absurd (omega arith)

whole : (xs : List ℕ) (l : Line) (s m v : ℕ) (F : Line) → whole_term F ≡ true → 1 ≤ s → s ≤ 6 → lexes (put l s m v) xs ≡ F → Whole l s m v xs F
unfolding lexes
whole [] l s m v F w h k q = let t = term_of F w in let e = ap (λ (x : Line). x.spot) q in absurd (omega (arith, t.spot))
whole (b ∷ bs) l s m v F w h k q =
    whole_next l s m v b bs F w h k (λ v' j r. whole bs l (s + 1) m v' F w (omega arith) j r) (lex (put l s m v) b) (view (put l s m v) b) q

-- The first digit after a sign.
record First (l : Line) (m : ℕ) (xs : List ℕ) (F : Line) : Type 0 where
  d : ℕ
  ys : List ℕ
  is : xs ≡ (48 + d) ∷ ys
  digit : d < 10
  rest : lexes (put l 1 m d) ys ≡ F

first_of : (l : Line) (m d : ℕ) (b : ℕ) (bs : List ℕ) (F : Line) → b ≡ 48 + d → d < 10 → lexes (put l (0 + 1) m (10 * 0 + d)) bs ≡ F → First l m (b ∷ bs) F
first_of l m d b bs F i h q =
    let z : 10 * 0 + d ≡ d = omega arith in
    record { d = d; ys = bs; is = ap (λ (x : ℕ). x ∷ bs) i; digit = h; rest = rw z at q }

first : (xs : List ℕ) (l : Line) (F : Line) → whole_term F ≡ true → lexes (put l 0 1 0) xs ≡ F → First l 1 xs F
unfolding lexes
first [] l F w q = let t = term_of F w in let e = ap (λ (x : Line). x.spot) q in absurd (omega (arith, t.spot))
first (b ∷ bs) l F w q = go (lex (put l 0 1 0) b) (view (put l 0 1 0) b) q
  where
    go : (L : Line) → Lexed (put l 0 1 0) b L → lexes L bs ≡ F → First l 1 (b ∷ bs) F
    go _ none r = no_term bs F r w
    go _ (digit d i h t) r = first_of l 1 d b bs F i h r
    go _ (pointed i h k) r = absurd (omega arith)
    go _ (spaced i h k) r = absurd (omega arith)
    go _ (kept i h k) r = absurd (omega arith)
    go _ (negated i h k) r = absurd (omega arith)

-- Spaces, a sign, a digit.
record Lead (l : Line) (xs : List ℕ) (F : Line) : Type 0 where
  n : ℕ
  m : Bool
  d : ℕ
  ys : List ℕ
  is : xs ≡ spaces n ++ (sign m ++ ((48 + d) ∷ ys))
  digit : d < 10
  rest : lexes (put l 1 (flag m) d) ys ≡ F

module _ (l : Line) (b : ℕ) (bs : List ℕ) (F : Line) (w : whole_term F ≡ true) where
  lead_next : (lexes (put l 0 0 0) bs ≡ F → Lead l bs F) → (L : Line) → Lexed (put l 0 0 0) b L → lexes L bs ≡ F → Lead l (b ∷ bs) F
  unfolding spaces sign flag
  lead_next rec _ none r = no_term bs F r w
  lead_next rec _ (digit d i h t) r =
      let p = first_of l 0 d b bs F i h r in
      record { n = 0; m = false; d = p.d; ys = p.ys; is = p.is; digit = p.digit; rest = p.rest }
  lead_next rec _ (pointed i h k) r = absurd (omega arith)
  lead_next rec _ (spaced i h k) r =
      let p = rec r in
      record {
        n = suc p.n;
        m = p.m;
        d = p.d;
        ys = p.ys;
        is = ap (λ (x : ℕ). x ∷ bs) i ∙ ap (λ (x : List ℕ). 32 ∷ x) p.is;
        digit = p.digit;
        rest = p.rest;
      }
  lead_next rec _ (kept i h k) r = absurd (omega arith)
  lead_next rec _ (negated i h k) r =
      let p = first bs l F w r in
      record {
        n = 0;
        m = true;
        d = p.d;
        ys = p.ys;
        is = ap (λ (x : ℕ). x ∷ bs) i ∙ ap (λ (x : List ℕ). 45 ∷ x) p.is;
        digit = p.digit;
        rest = p.rest;
      }

lead : (xs : List ℕ) (l : Line) (F : Line) → whole_term F ≡ true → lexes (put l 0 0 0) xs ≡ F → Lead l xs F
unfolding lexes
lead [] l F w q = let t = term_of F w in let e = ap (λ (x : Line). x.spot) q in absurd (omega (arith, t.spot))
lead (b ∷ bs) l F w q = lead_next l b bs F w (λ r. lead bs l F w r) (lex (put l 0 0 0) b) (view (put l 0 0 0) b) q

-- A decimal after spaces.
record DecimalIn (l : Line) (xs : List ℕ) (F : Line) : Type 0 where
  n : ℕ
  d : Decimal
  ys : List ℕ
  good : GoodDecimal d
  is : xs ≡ spaces n ++ (decimal d ++ ys)
  rest : lexes (put l spot_done (flag d.minus) (size d)) ys ≡ F

sized_minus : (m : Bool) (v : ℕ) → (flag m ≡ 0) ⊎ (0 < v) → m ≡ true → 0 < v
unfolding flag
sized_minus true v (inl e) h = absurd (omega (arith, e))
sized_minus true v (inr k) h = k
sized_minus false v z h = let y : ◌≡◌ {A = ℕ} 0 1 = cc in absurd (omega arith)

joined : (n : ℕ) (m : Bool) (d : ℕ) (w p ys : List ℕ) → spaces n ++ (sign m ++ ((48 + d) ∷ (digits w ++ (46 ∷ (digits p ++ ys)))))
    ≡ spaces n ++ ((sign m ++ (digits (d ∷ w) ++ (46 ∷ digits p))) ++ ys)
unfolding digits
joined n m d w p ys =
    ap (λ (x : List ℕ). spaces n ++ x)
    (ap (λ (x : List ℕ). sign m ++ ((48 + d) ∷ x)) (sym (append_assoc (digits w) (46 ∷ digits p) ys))
    ∙ sym (append_assoc (sign m) ((48 + d) ∷ (digits w ++ (46 ∷ digits p))) ys))

decimal_in : (xs : List ℕ) (l : Line) (F : Line) → whole_term F ≡ true → lexes (put l 0 0 0) xs ≡ F → DecimalIn l xs F
unfolding decimal size
decimal_in xs l F w q =
    let a = lead xs l F w q in
    let b = whole a.ys l 1 (flag a.m) a.d F w (omega arith) (omega arith) a.rest in
    let c = parts 10 b.ys l 7 (flag a.m) (numeral a.d b.ds) F w (omega arith) (omega arith) b.rest in
    record {
      n = a.n;
      d = record { minus = a.m; first = a.d; more = b.ds; parts = c.ds };
      ys = c.ys;
      good =
          record {
            whole = record { digit = a.digit; digits = b.all; few = omega (arith, b.few); leading = b.leading };
            digits = c.all;
            eleven = c.long;
            zero = sized_minus a.m (numeral (numeral a.d b.ds) c.ds) c.sized;
          };
      is =
          a.is
          ∙ ap (λ (x : List ℕ). spaces a.n ++ (sign a.m ++ ((48 + a.d) ∷ x))) (b.is ∙ ap (λ (x : List ℕ). digits b.ds ++ (46 ∷ x)) c.is)
          ∙ joined a.n a.m a.d b.ds c.ds c.ys;
      rest = c.rest;
    }

-- After a decimal: a space if it is the first or the second, nothing after the third.
record Kept (l : Line) (m v : ℕ) (xs : List ℕ) (F : Line) : Type 0 where
  ys : List ℕ
  is : xs ≡ 32 ∷ ys
  rest : lexes (keep l m v) ys ≡ F

keeps : (xs : List ℕ) (l : Line) (m v : ℕ) (F : Line) → whole_term F ≡ true → l.field < 2 → lexes (put l spot_done m v) xs ≡ F → Kept l m v xs F
unfolding lexes
keeps [] l m v F w h q = let t = term_of F w in let e = ap (λ (x : Line). x.field) q in absurd (omega (arith, t.field))
keeps (b ∷ bs) l m v F w h q = go (lex (put l spot_done m v) b) (view (put l spot_done m v) b) q
  where
    go : (L : Line) → Lexed (put l spot_done m v) b L → lexes L bs ≡ F → Kept l m v (b ∷ bs) F
    go _ none r = no_term bs F r w
    go _ (digit d i k t) r = absurd (no_digit m v d t)
    go _ (pointed i k j) r = absurd (omega arith)
    go _ (spaced i k j) r = absurd (omega arith)
    go _ (kept i k j) r = record { ys = bs; is = ap (λ (x : ℕ). x ∷ bs) i; rest = r }
    go _ (negated i k j) r = absurd (omega arith)

ends : (xs : List ℕ) (l : Line) (m v : ℕ) (F : Line) → whole_term F ≡ true → l.field ≡ 2
    → lexes (put l spot_done m v) xs ≡ F → (xs ≡ []) × (put l spot_done m v ≡ F)
unfolding lexes
ends [] l m v F w h q = (refl, q)
ends (b ∷ bs) l m v F w h q = go (lex (put l spot_done m v) b) (view (put l spot_done m v) b) q
  where
    go : (L : Line) → Lexed (put l spot_done m v) b L → lexes L bs ≡ F → (b ∷ bs ≡ []) × (put l spot_done m v ≡ F)
    go _ none r = no_term bs F r w
    go _ (digit d i k t) r = absurd (no_digit m v d t)
    go _ (pointed i k j) r = absurd (omega arith)
    go _ (spaced i k j) r = absurd (omega arith)
    go _ (kept i k j) r = absurd (omega arith)
    go _ (negated i k j) r = absurd (omega arith)

-- A term line that was taken follows the grammar.
pub record TermIn (xs : List ℕ) (F : Line) : Type 0 where
  pub t : TermLine
  pub good : GoodTerm t
  pub is : xs ≡ term_bytes t
  pub line : line_of_term t ≡ F

strung : (s₁ s₂ s₃ : List ℕ) (a b c xs ys₁ zs₁ ys₂ zs₂ ys₃ : List ℕ)
    → xs ≡ s₁ ++ (a ++ ys₁) → ys₁ ≡ 32 ∷ zs₁ → zs₁ ≡ s₂ ++ (b ++ ys₂) → ys₂ ≡ 32 ∷ zs₂
    → zs₂ ≡ s₃ ++ (c ++ ys₃) → ys₃ ≡ [] → xs ≡ s₁ ++ (a ++ ((32 ∷ s₂) ++ (b ++ ((32 ∷ s₃) ++ c))))
strung s₁ s₂ s₃ a b c xs ys₁ zs₁ ys₂ zs₂ ys₃ e₁ f₁ e₂ f₂ e₃ f₃ = rw (e₁, f₁, e₂, f₂, e₃, f₃, append-nil c)

pub term_in : (xs : List ℕ) (F : Line) → whole_term F ≡ true → lexes (fresh 0) xs ≡ F → TermIn xs F
unfolding term_bytes
term_in xs F w q =
    let a = decimal_in xs (fresh 0) F w q in
    let u = keeps a.ys (fresh 0) (flag a.d.minus) (size a.d) F w (lit< tt) a.rest in
    let k₁ = keep (fresh 0) (flag a.d.minus) (size a.d) in
    let b = decimal_in u.ys k₁ F w u.rest in
    let v = keeps b.ys k₁ (flag b.d.minus) (size b.d) F w (lit< tt) b.rest in
    let k₂ = keep k₁ (flag b.d.minus) (size b.d) in
    let c = decimal_in v.ys k₂ F w v.rest in
    let z = ends c.ys k₂ (flag c.d.minus) (size c.d) F w refl c.rest in
    record {
      t = record { lead = a.n; a = a.d; after_a = b.n; b = b.d; after_b = c.n; c = c.d };
      good = record { a = a.good; b = b.good; c = c.good };
      is =
          strung (spaces a.n) (spaces b.n) (spaces c.n) (decimal a.d) (decimal b.d) (decimal c.d) xs a.ys u.ys b.ys v.ys c.ys
          a.is u.is b.is v.is c.is z.0;
      line = z.1;
    }
