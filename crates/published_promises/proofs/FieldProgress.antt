-- In every column of a figure, with what has come of it, some byte goes on: a space, a minus, a digit or the point. Assumes nothing.
use mathlib.Core.Path.{◌≡◌, refl, sym, ap, ◌∙◌, subst}
use mathlib.Core.Bool.{true, false}
use mathlib.Core.Logic.{inl, inr}
use Prim.Native.Nat.{ℕ, zero, suc, ◌+◌, ◌*◌, ◌^◌, ◌≤◌, ◌<◌}
use native.Mathlib.Nat.{pow-le-pow_right}
use native.Mathlib.Omega.{arith}
use borrow.Author.Tests.{eqb-true, eqb-false, eq-eqb, ne_eqb, ltb-true, ltb-false, leb-true, leb-false, lt-ltb, le-leb}
use lib.Dec.{eqb, ltb, leb, lit<}
use Rattle.integers.proofs.Tests.{by_cases}
use Rattle.series_lines.specs.declared.Line.{Line}
use Rattle.series_lines.specs.Lexer.{spot_done, spot_bad, value_limit, takes_digit, with_digit, with_point, lex}
use Rattle.series_lines.proofs.Digits.{in_parts, at_last_part, later_digit}
use Rattle.series_lines.specs.Grammar.{feed}
use Rattle.published_records.specs.Rows.{no_digit, unbegun, may_begin, in_whole}
use Rattle.text_promises.proofs.GoodLines.{put, ten, Spots, whole_spots, count_spots}
use Rattle.text_promises.proofs.OneByte.{Lexed, none, digit, pointed, spaced, kept, negated}
use Rattle.published_promises.proofs.RowLaws.{begun_digit}
use Rattle.published_promises.proofs.WholeColumns.{Taken, spoilt, blank, figure, signed, taken, Kind, whole_kind, count_kind, unbegun_spot}
use Rattle.published_promises.proofs.Fields.{at_point}

-- ---- A byte that goes on.

abbrev pub Good : Line → Type 0
Good l = l.spot ≡ spot_bad → ⊥

pub record Onwards (f : ℕ → Line) : Type 0 where
  pub b : ℕ
  pub no_feed : b ≡ feed → ⊥
  pub good : Good (f b)

-- The digit 1 does where a digit may come.
one_taken : (l : Line) → takes_digit l.spot l.minus l.value 1 ≡ true → l.spot < 30 → Good (lex l 49)
unfolding lex with_digit
one_taken l t h e = let p : l.spot + 1 ≡ spot_bad = rw t at e in omega arith

tens : (n k : ℕ) → n ≤ k → 10 ^ n ≤ 10 ^ k
tens n k h = pow-le-pow_right (lit< tt) h

-- ---- The whole columns of a figure.

-- Where a figure stands with so many of its whole columns left: nothing of it has come, or a minus alone, or n digits.
pub data Figuring (base most left : ℕ) (l : Line) : Type 0 where
  nothing : l.spot ≡ base → l.minus ≡ 0 → l.value ≡ 0 → 1 ≤ left → Figuring base most left l
  minus : base ≡ 0 → l.spot ≡ base → l.value ≡ 0 → 1 ≤ left → left ≤ most → Figuring base most left l
  digits : (n : ℕ) → l.spot ≡ base + n → 1 ≤ n → n + left ≤ most → (1 ≤ left → 0 < l.value) → l.value < 10 ^ n → Figuring base most left l

-- The two kinds of figures.
pub record Figures (base most : ℕ) : Type 0 where
  kind : Kind base most
  spots : Spots base (base + most)
  low : base ≤ 20
  few : most ≤ 6
  before : (l : Line) → l.spot ≡ base → no_digit l ≡ true
  empty : (l : Line) → l.spot ≡ base → l.minus ≡ 0 → unbegun l ≡ true

pub decimals : Figures 0 6
decimals =
    record {
      kind = whole_kind;
      spots = whole_spots;
      low = omega arith;
      few = omega arith;
      before = λ l e. unfold no_digit in rw (eq-eqb l.spot 0 e);
      empty = λ l e f. unfold unbegun in rw (eq-eqb l.spot 0 e) (eq-eqb l.minus 0 f);
    }

pub counts : Figures 20 4
counts =
    record {
      kind = count_kind;
      spots = count_spots;
      low = omega arith;
      few = omega arith;
      before = λ l e. unfold no_digit in rw (ne_eqb l.spot 0 (λ z. omega (arith, z, e))) (eq-eqb l.spot 20 e);
      empty = λ l e f. unfold unbegun in rw (ne_eqb l.spot 0 (λ z. omega (arith, z, e))) (eq-eqb l.spot 20 e);
    }

-- A first digit fills the columns that are left.
begins : (w most d : ℕ) → 1 ≤ most → may_begin w most (48 + d) ≡ true → (1 + w ≤ most) × (1 ≤ w → 0 < d)
unfolding may_begin
begins w most d o h =
    let m : eqb (48 + d) 45 ≡ false = ne_eqb (48 + d) 45 (λ e. omega (arith, e)) in
    by_cases (eqb (48 + d) 48)
    (λ p. let z = eqb-true w 0 (rw (m, p) at h) in (omega arith, λ k. absurd (omega arith)))
    (λ p. let z = ltb-true w most (rw (m, p) at h) in
    let n = eqb-false (48 + d) 48 p in
    (omega arith, λ k. above d n))
  where
    above : (d : ℕ) → (48 + d ≡ 48 → ⊥) → 0 < d
    above zero n = absurd (n refl)
    above (suc d) n = omega arith

module _ (base most : ℕ) (K : Figures base most) (w : ℕ) (l : Line) where
  -- A first digit.
  first_figure : (d b : ℕ) → b ≡ 48 + d → d < 10 → l.spot ≡ base → l.value ≡ 0 → (no_digit l ≡ true → may_begin w most b ≡ true)
      → Figuring base most w (put l (l.spot + 1) l.minus (10 * l.value + d))
  first_figure d b e h s v z =
      let t = begins w most d K.kind.some (subst (λ (x : ℕ). may_begin w most x ≡ true) e (z (K.before l s))) in
      digits 1 (omega arith) (omega arith) t.0 (λ k. let u = t.1 k in omega arith) (omega arith)

  figure_step : Figuring base most (suc w) l → (b : ℕ) (L : Line) → Taken w most l b L → Good L → Figuring base most w L
  figure_step F b _ spoilt y = absurd (y refl)
  figure_step (nothing s m v o) b _ (blank e u h) y = nothing s m v h
  figure_step (nothing s m v o) b _ (figure d e h t z) y = first_figure d b e h s v z
  figure_step (nothing s m v o) b _ (signed e i j h k) y = minus (sym s ∙ i) (sym (sym s ∙ i)) v h k
  figure_step (minus a s v o k) b _ (blank e u h) y = minus a s v h (omega arith)
  figure_step (minus a s v o k) b _ (figure d e h t z) y = first_figure d b e h s v z
  figure_step (minus a s v o k) b _ (signed e i j h k') y = minus a (sym a) v h k'
  figure_step (digits n s o k p q) b _ (blank e u h) y =
      absurd (K.kind.apart l.spot (omega arith) (omega arith) (unbegun_spot l u).0)
  figure_step (digits n s o k p q) b _ (figure d e h t z) y =
      let r = p (omega arith) in
      digits (n + 1) (omega arith) (omega arith) (omega arith) (λ x. omega arith) (omega (arith, ten n))
  figure_step (digits n s o k p q) b _ (signed e i j h k') y = absurd (K.kind.apart l.spot (omega arith) (omega arith) (inl i))

  pub figure_keeps : Figuring base most (suc w) l → (b : ℕ) → Good (in_whole w most l b) → Figuring base most w (in_whole w most l b)
  figure_keeps F b y = figure_step F b (in_whole w most l b) (taken w most l b) y

  -- A digit 1 as the first, and after others.
  first_one : l.spot ≡ base → l.value ≡ 0 → suc w ≤ most → Good (in_whole w most l 49)
  unfolding in_whole may_begin
  first_one s v h e =
      let t : takes_digit l.spot l.minus l.value 1 ≡ true =
      ap (λ (x : ℕ). takes_digit x l.minus l.value 1) s ∙ K.spots.first l.minus l.value 1 (omega arith) in
      let k = K.low in
      one_taken l t (omega arith) (rw (K.before l s, lt-ltb w most h) at e)

  later_one : (n : ℕ) → l.spot ≡ base + n → 1 ≤ n → n + suc w ≤ most → 0 < l.value → l.value < 10 ^ n → Good (in_whole w most l 49)
  unfolding in_whole
  later_one n s o h v q e =
      let k = K.low in
      let f = K.few in
      let u : 10 ^ n ≤ 10 ^ 6 = tens n 6 (omega arith) in
      let t : takes_digit l.spot l.minus l.value 1 ≡ true =
      K.spots.more l.spot l.minus l.value 1 (omega arith) (omega arith) (omega arith) v in
      let a = K.kind.apart l.spot (omega arith) (omega arith) in
      one_taken l t (omega arith) (rw (begun_digit l (λ z. a (inl z)) (λ z. a (inr z))) at e)

  blank_taken : l.spot ≡ base → l.minus ≡ 0 → 1 ≤ w → Good (in_whole w most l 32)
  unfolding in_whole
  blank_taken s m h e =
      let k = K.low in
      let z : l.spot ≡ spot_bad = rw (K.empty l s m, le-leb 1 w h) at e in
      omega arith

  pub figure_onwards : Figuring base most (suc w) l → Onwards (λ b. in_whole w most l b)
  figure_onwards (nothing s m v o) =
      by_cases (leb 1 w)
      (λ p. record { b = 32; no_feed = λ e. omega arith; good = blank_taken s m (leb-true 1 w p) })
      (λ p. let q = leb-false 1 w p in
      let k = K.kind.some in
      record { b = 49; no_feed = λ e. omega arith; good = first_one s v (omega arith) })
  figure_onwards (minus a s v o k) = record { b = 49; no_feed = λ e. omega arith; good = first_one s v k }
  figure_onwards (digits n s o k p q) =
      record { b = 49; no_feed = λ e. omega arith; good = later_one n s o k (p (omega arith)) q }

-- What came before a decimal stays.
pub taken_field : (w most : ℕ) (l : Line) (b : ℕ) (L : Line) → Taken w most l b L → Good L → L.field ≡ l.field
taken_field w most l b _ spoilt y = absurd (y refl)
taken_field w most l b _ (blank e u h) y = refl
taken_field w most l b _ (figure d e h t z) y = refl
taken_field w most l b _ (signed e i j h k) y = refl

-- ---- The columns after the point.

pub record Parting (left : ℕ) (l : Line) : Type 0 where
  pub spot : l.spot + left ≡ spot_done
  pub low : 7 ≤ l.spot
  pub value : l.value < 10 ^ l.spot

pub parts_step : (w : ℕ) (l : Line) → Parting (suc w) l → (b : ℕ) (L : Line) → Lexed l b L → Good L → Parting w L × (L.field ≡ l.field)
parts_step w l P b _ none y = absurd (y refl)
parts_step w l P b _ (digit d e h t) y = let s = P.spot in let o = P.low in let v = P.value in (
  record { spot = omega arith; low = omega arith; value = omega (arith, ten l.spot) },
  refl,
)
parts_step w l P b _ (pointed e h k) y = absurd (omega (arith, P.low))
parts_step w l P b _ (spaced e h k) y = absurd (omega (arith, P.low))
parts_step w l P b _ (kept e h k) y = absurd (omega (arith, P.spot))
parts_step w l P b _ (negated e h k) y = absurd (omega (arith, P.low))

pub parts_onwards : (w : ℕ) (l : Line) → Parting (suc w) l → Onwards (λ b. lex l b)
parts_onwards w l P =
    let s = P.spot in
    let o = P.low in
    let v = P.value in
    let u : 10 ^ l.spot ≤ 10 ^ 17 = tens l.spot 17 (omega arith) in
    let z : l.value < value_limit = omega arith in
    let t : takes_digit l.spot l.minus l.value 1 ≡ true =
    by_cases (ltb l.spot 17)
    (λ p. in_parts l.spot l.minus l.value 1 z o (ltb-true l.spot 17 p))
    (λ p. at_last_part l.spot l.minus l.value 1 z (ltb-false l.spot 17 p) (omega arith)
    ∙ later_digit (eqb l.minus 0) (l.value + 1) (omega arith)) in
    record { b = 49; no_feed = λ e. omega arith; good = one_taken l t (omega arith) }

-- ---- The column of the point.

pub point_step : (l : Line) → Figuring 0 6 0 l → (b : ℕ) → Good (at_point l b) → Parting 11 (at_point l b) × ((at_point l b).field ≡ l.field)
unfolding lex with_point
point_step l (nothing s m v o) b y = absurd (omega arith)
point_step l (minus a s v o k) b y = absurd (omega arith)
point_step l (digits n s o k p q) b y =
    let u : 10 ^ n ≤ 10 ^ 6 = tens n 6 (omega arith) in
    by_cases (eqb b 46)
    (λ e. rw (e, eqb-true b 46 e, le-leb 1 l.spot (omega arith), le-leb l.spot 6 (omega arith)) (
      record { spot = refl; low = omega arith; value = omega arith },
      refl,
    ))
    (λ e. absurd (y (rw e)))

pub point_onwards : (l : Line) → Figuring 0 6 0 l → Onwards (λ b. at_point l b)
unfolding lex with_point
point_onwards l (nothing s m v o) = absurd (omega arith)
point_onwards l (minus a s v o k) = absurd (omega arith)
point_onwards l (digits n s o k p q) =
    record {
      b = 46;
      no_feed = λ e. omega arith;
      good = λ e. let z : ◌≡◌ {A = ℕ} 7 31 = rw (le-leb 1 l.spot (omega arith), le-leb l.spot 6 (omega arith)) at e in omega arith;
    }
