-- The bytes of the whole columns of a field, as long as they are good, are a figure to the right in them; so those of a count. Assumes nothing.
use mathlib.Core.Path.{◌≡◌, refl, sym, ap, ◌∙◌}
use mathlib.Core.Bool.{Bool, true, false}
use mathlib.Core.List.{List, [], ◌∷◌, ◌++◌}
use mathlib.Core.Logic.{◌⊎◌, inl, inr}
use Prim.Native.Nat.{ℕ, suc, ◌+◌, ◌*◌, ◌≤◌, ◌<◌}
use native.Mathlib.Nat.{add-zero}
use native.Mathlib.Omega.{arith}
use borrow.Author.Tests.{eqb-true, eqb-false, eq-eqb, leb-true}
use lib.Dec.{eqb, leb}
use lib.ListN.{length}
use Rattle.integers.proofs.Tests.{by_cases, both}
use Rattle.series_lines.specs.declared.Line.{Line}
use Rattle.series_lines.specs.Grammar.{spaces, sign, digits, AllDigits, numeral, Natural}
use Rattle.series_lines.specs.Grammar.{CountLine, count, count_bytes, GoodCount}
use Rattle.series_lines.specs.Lexer.{spot_bad, fresh, bad, takes_digit, lex}
use Rattle.published_records.specs.Rows.{no_digit, unbegun, may_begin, in_whole}
use Rattle.text_promises.proofs.GoodLines.{put, flag}
use Rattle.text_promises.proofs.OneByte.{Lexed, none, digit, pointed, spaced, kept, negated, view, never, whole_more, count_more}
use Rattle.series_lines.proofs.Digits.{early}

-- ---- One byte.

-- What a byte in a whole column can do to a line.
pub data Taken (w most : ℕ) (l : Line) (byte : ℕ) : Line → Type 0 where
  spoilt : Taken w most l byte bad
  blank : byte ≡ 32 → unbegun l ≡ true → 1 ≤ w → Taken w most l byte l
  figure : (d : ℕ) → byte ≡ 48 + d → d < 10 → takes_digit l.spot l.minus l.value d ≡ true
      → (no_digit l ≡ true → may_begin w most byte ≡ true)
      → Taken w most l byte (put l (l.spot + 1) l.minus (10 * l.value + d))
  signed : byte ≡ 45 → l.spot ≡ 0 → l.minus ≡ 0 → 1 ≤ w → w ≤ most → Taken w most l byte (put l 0 1 l.value)

module _ (w most : ℕ) (l : Line) (byte : ℕ) where
  -- A minus has whole columns after it.
  sign_columns : byte ≡ 45 → may_begin w most byte ≡ true → (1 ≤ w) × (w ≤ most)
  unfolding may_begin
  sign_columns e h =
      let t = both (leb 1 w) (leb w most) (rw (eq-eqb byte 45 e) at h) in (leb-true 1 w t.0, leb-true w most t.1)

  before_digit : l.spot ≡ 0 → no_digit l ≡ true
  unfolding no_digit
  before_digit e = rw (eq-eqb l.spot 0 e)

  taken_lex : (byte ≡ 32 → ⊥) → (byte ≡ 46 → ⊥) → (no_digit l ≡ true → may_begin w most byte ≡ true)
      → (L : Line) → Lexed l byte L → Taken w most l byte L
  taken_lex s p h _ none = spoilt
  taken_lex s p h _ (digit d e k t) = figure d e k t h
  taken_lex s p h _ (pointed e j k) = absurd (p e)
  taken_lex s p h _ (spaced e j k) = absurd (s e)
  taken_lex s p h _ (kept e j k) = absurd (s e)
  taken_lex s p h _ (negated e j k) = let t = sign_columns e (h (before_digit j)) in signed e j k t.0 t.1

  pub taken : Taken w most l byte (in_whole w most l byte)
  unfolding in_whole
  taken =
      by_cases (eqb byte 32)
      (λ p. by_cases (unbegun l)
      (λ q. by_cases (leb 1 w) (λ r. rw (p, q, r) (blank (eqb-true _ _ p) q (leb-true _ _ r))) (λ r. rw (p, q, r) spoilt))
      (λ q. rw (p, q) spoilt))
      (λ p. by_cases (eqb byte 46) (λ q. rw (p, q) spoilt)
      (λ q. by_cases (no_digit l)
      (λ r. by_cases (may_begin w most byte)
      (λ s. rw (p, q, r, s) (taken_lex (eqb-false _ _ p) (eqb-false _ _ q) (λ z. s) (lex l byte) (view l byte)))
      (λ s. rw (p, q, r, s) spoilt))
      (λ r. rw (p, q, r) (taken_lex (eqb-false _ _ p) (eqb-false _ _ q) (λ z. never (sym r ∙ z)) (lex l byte) (view l byte)))))

-- What comes before the first byte of a figure.
pub unbegun_spot : (l : Line) → unbegun l ≡ true → ((l.spot ≡ 0) ⊎ (l.spot ≡ 20)) × (l.spot ≡ 0 → l.minus ≡ 0)
unfolding unbegun
unbegun_spot l h =
    by_cases (eqb l.spot 0)
    (λ p. (inl (eqb-true _ _ p), λ e. eqb-true _ _ (rw p at h)))
    (λ p. (inr (eqb-true _ _ (rw p at h)), λ e. absurd (eqb-false _ _ p e)))

-- ---- The whole columns of a field.

-- Its bytes, one after the other: each with as many whole columns after it as bytes are left.
unfoldable pub whole_bytes : ℕ → Line → List ℕ → Line
whole_bytes most l [] = l
whole_bytes most l (b ∷ bs) = whole_bytes most (in_whole (length bs) most l b) bs

bad_whole : (w most : ℕ) (l : Line) (byte : ℕ) → l.spot ≡ spot_bad → (in_whole w most l byte).spot ≡ spot_bad
bad_whole w most l byte e = go (in_whole w most l byte) (taken w most l byte)
  where
    neither : (l.spot ≡ 0) ⊎ (l.spot ≡ 20) → l.spot ≡ spot_bad
    neither (inl z) = absurd (omega arith)
    neither (inr z) = absurd (omega arith)

    go : (L : Line) → Taken w most l byte L → L.spot ≡ spot_bad
    go _ spoilt = refl
    go _ (blank i u h) = neither (unbegun_spot l u).0
    go _ (figure d i h t z) = absurd (omega (arith, early l.spot l.minus l.value d t))
    go _ (signed i j u h k) = absurd (omega arith)

pub bad_wholes : (most : ℕ) (xs : List ℕ) (l : Line) → l.spot ≡ spot_bad → (whole_bytes most l xs).spot ≡ spot_bad
unfolding whole_bytes
bad_wholes most [] l e = e
bad_wholes most (b ∷ bs) l e = bad_wholes most bs (in_whole (length bs) most l b) (bad_whole (length bs) most l b e)

-- The spots of a figure's whole digits.
pub record Kind (base most : ℕ) : Type 0 where
  pub more : (s m v d : ℕ) → base < s → s ≤ base + most → takes_digit s m v d ≡ true → (s < base + most) × (0 < v)
  pub apart : (s : ℕ) → base < s → s ≤ base + most → ((s ≡ 0) ⊎ (s ≡ 20)) → ⊥
  pub some : 1 ≤ most

pub whole_kind : Kind 0 6
whole_kind =
    record {
      more = λ s m v d h k t. let p = whole_more s m v d h k t in (omega (arith, p.0), p.1);
      apart = λ s h k z. whole_apart s h k z;
      some = omega arith;
    }
  where
    whole_apart : (s : ℕ) → 0 < s → s ≤ 6 → ((s ≡ 0) ⊎ (s ≡ 20)) → ⊥
    whole_apart s h k (inl e) = omega arith
    whole_apart s h k (inr e) = omega arith

pub count_kind : Kind 20 4
count_kind =
    record {
      more = λ s m v d h k t. let p = count_more s m v d h t in (omega (arith, p.0), p.1);
      apart = λ s h k z. count_apart s h k z;
      some = omega arith;
    }
  where
    count_apart : (s : ℕ) → 20 < s → s ≤ 24 → ((s ≡ 0) ⊎ (s ≡ 20)) → ⊥
    count_apart s h k (inl e) = omega arith
    count_apart s h k (inr e) = omega arith

-- The digits after the first.
pub record MoreIn (base most : ℕ) (l : Line) (s m v : ℕ) (xs : List ℕ) (G : Line) : Type 0 where
  pub ds : List ℕ
  pub is : xs ≡ digits ds
  pub all : AllDigits ds
  pub few : s + length ds ≤ base + most
  pub leading : v ≡ 0 → ds ≡ []
  pub line : G ≡ put l (s + length ds) m (numeral v ds)

module _ (base most : ℕ) (K : Kind base most) where
  more_next : (l : Line) (s m v b : ℕ) (bs : List ℕ) → base < s → s ≤ base + most
      → ((v' : ℕ) → s + 1 ≤ base + most → ((whole_bytes most (put l (s + 1) m v') bs).spot ≡ spot_bad → ⊥)
      → MoreIn base most l (s + 1) m v' bs (whole_bytes most (put l (s + 1) m v') bs))
      → (L : Line) → Taken (length bs) most (put l s m v) b L → ((whole_bytes most L bs).spot ≡ spot_bad → ⊥)
      → MoreIn base most l s m v (b ∷ bs) (whole_bytes most L bs)
  unfolding digits numeral AllDigits
  more_next l s m v b bs h k rec _ spoilt live = absurd (live (bad_wholes most bs bad refl))
  more_next l s m v b bs h k rec _ (blank e u w) live = absurd (K.apart s h k (unbegun_spot (put l s m v) u).0)
  more_next l s m v b bs h k rec _ (figure d i j t z) live =
      let q = K.more s m v d h k t in
      let p = rec (10 * v + d) (omega (arith, q.0)) live in
      let e : s + 1 + length p.ds ≡ s + suc (length p.ds) = omega arith in
      record {
        ds = d ∷ p.ds;
        is = ap (λ (x : ℕ). x ∷ bs) i ∙ ap (λ (x : List ℕ). (48 + d) ∷ x) p.is;
        all = (j, p.all);
        few = omega (arith, p.few);
        leading = λ e. absurd (omega (arith, q.1));
        line = rw e at p.line;
      }
  more_next l s m v b bs h k rec _ (signed e j u w x) live = absurd (K.apart s h k (inl j))

  more_in : (xs : List ℕ) (l : Line) (s m v : ℕ) → base < s → s ≤ base + most → ((whole_bytes most (put l s m v) xs).spot ≡ spot_bad → ⊥)
      → MoreIn base most l s m v xs (whole_bytes most (put l s m v) xs)
  unfolding whole_bytes digits numeral AllDigits
  more_in [] l s m v h k live =
      record { ds = []; is = refl; all = tt; few = omega arith; leading = λ e. refl; line = rw (add-zero s) }
  more_in (b ∷ bs) l s m v h k live =
      more_next l s m v b bs h k (λ v' j y. more_in bs l (s + 1) m v' (omega arith) j y)
      (in_whole (length bs) most (put l s m v) b) (taken (length bs) most (put l s m v) b) live

-- A first digit and more.
pub record FirstIn (base most : ℕ) (l : Line) (m : ℕ) (xs : List ℕ) (G : Line) : Type 0 where
  pub first : ℕ
  pub more : List ℕ
  pub is : xs ≡ digits (first ∷ more)
  pub natural : Natural most first more
  pub line : G ≡ put l (base + 1 + length more) m (numeral first more)

module _ (base most : ℕ) (K : Kind base most) where
  first_digit_in : (l : Line) (m d b : ℕ) (bs : List ℕ) → b ≡ 48 + d → d < 10
      → ((whole_bytes most (put l (base + 1) m (10 * 0 + d)) bs).spot ≡ spot_bad → ⊥)
      → FirstIn base most l m (b ∷ bs) (whole_bytes most (put l (base + 1) m (10 * 0 + d)) bs)
  unfolding digits
  first_digit_in l m d b bs i h live =
      let z : 10 * 0 + d ≡ d = omega arith in
      let p = more_in base most K bs l (base + 1) m (10 * 0 + d) (omega arith) (omega (arith, K.some)) live in
      record {
        first = d;
        more = p.ds;
        is = ap (λ (x : ℕ). x ∷ bs) i ∙ ap (λ (x : List ℕ). (48 + d) ∷ x) p.is;
        natural = record { digit = h; digits = p.all; few = omega (arith, p.few); leading = λ e. p.leading (z ∙ e) };
        line = p.line ∙ ap (λ (v : ℕ). put l (base + 1 + length p.ds) m (numeral v p.ds)) z;
      }

  first_in : (l : Line) (m : ℕ) (xs : List ℕ) → 1 ≤ length xs → (m ≡ 0 → ⊥) → base ≡ 0 → ((whole_bytes most (put l base m 0) xs).spot ≡ spot_bad → ⊥)
      → FirstIn base most l m xs (whole_bytes most (put l base m 0) xs)
  unfolding whole_bytes
  first_in l m [] n h e live = absurd (omega arith)
  first_in l m (b ∷ bs) n h e live =
      go (in_whole (length bs) most (put l base m 0) b) (taken (length bs) most (put l base m 0) b) live
    where
      go : (L : Line) → Taken (length bs) most (put l base m 0) b L → ((whole_bytes most L bs).spot ≡ spot_bad → ⊥)
          → FirstIn base most l m (b ∷ bs) (whole_bytes most L bs)
      go _ spoilt y = absurd (y (bad_wholes most bs bad refl))
      go _ (blank i u w) y = absurd (h ((unbegun_spot (put l base m 0) u).1 e))
      go _ (figure d i k t z) y = first_digit_in l m d b bs i k y
      go _ (signed i j u w x) y = absurd (h u)

-- Spaces, a minus or none, and digits.
pub record WholeIn (base most : ℕ) (l : Line) (xs : List ℕ) (G : Line) : Type 0 where
  pub n : ℕ
  pub m : Bool
  pub first : ℕ
  pub more : List ℕ
  pub is : xs ≡ spaces n ++ (sign m ++ digits (first ∷ more))
  pub natural : Natural most first more
  pub unsigned : base ≡ 20 → m ≡ false
  pub line : G ≡ put l (base + 1 + length more) (flag m) (numeral first more)

module _ (base most : ℕ) (K : Kind base most) where
  whole_next : (l : Line) (b : ℕ) (bs : List ℕ)
      → (1 ≤ length bs → ((whole_bytes most (put l base 0 0) bs).spot ≡ spot_bad → ⊥) → WholeIn base most l bs (whole_bytes most (put l base 0 0) bs))
      → (L : Line) → Taken (length bs) most (put l base 0 0) b L → ((whole_bytes most L bs).spot ≡ spot_bad → ⊥)
      → WholeIn base most l (b ∷ bs) (whole_bytes most L bs)
  unfolding spaces sign flag
  whole_next l b bs rec _ spoilt y = absurd (y (bad_wholes most bs bad refl))
  whole_next l b bs rec _ (blank i u w) y =
      let p = rec w y in
      record {
        n = suc p.n;
        m = p.m;
        first = p.first;
        more = p.more;
        is = ap (λ (x : ℕ). x ∷ bs) i ∙ ap (λ (x : List ℕ). 32 ∷ x) p.is;
        natural = p.natural;
        unsigned = p.unsigned;
        line = p.line;
      }
  whole_next l b bs rec _ (figure d i k t z) y =
      let p = first_digit_in base most K l 0 d b bs i k y in
      record {
        n = 0;
        m = false;
        first = p.first;
        more = p.more;
        is = p.is;
        natural = p.natural;
        unsigned = λ e. refl;
        line = p.line;
      }
  whole_next l b bs rec _ (signed i j u w x) y =
      let q : (whole_bytes most (put l base 1 0) bs).spot ≡ spot_bad → ⊥ = rw j y in
      let p = first_in base most K l 1 bs w (λ e. omega arith) j q in
      record {
        n = 0;
        m = true;
        first = p.first;
        more = p.more;
        is = ap (λ (x : ℕ). x ∷ bs) i ∙ ap (λ (x : List ℕ). 45 ∷ x) p.is;
        natural = p.natural;
        unsigned = λ e. absurd (omega arith);
        line = ap (λ (s : ℕ). whole_bytes most (put l s 1 0) bs) (sym j) ∙ p.line;
      }

  pub whole_in : (xs : List ℕ) (l : Line) → 1 ≤ length xs → ((whole_bytes most (put l base 0 0) xs).spot ≡ spot_bad → ⊥)
      → WholeIn base most l xs (whole_bytes most (put l base 0 0) xs)
  unfolding whole_bytes
  whole_in [] l n live = absurd (omega arith)
  whole_in (b ∷ bs) l n live =
      whole_next l b bs (λ k y. whole_in bs l k y)
      (in_whole (length bs) most (put l base 0 0) b) (taken (length bs) most (put l base 0 0) b) live

-- The columns of a count.
pub record CountIn (xs : List ℕ) (G : Line) : Type 0 where
  pub n : ℕ
  pub k : CountLine
  pub good : GoodCount k
  pub is : xs ≡ spaces n ++ count_bytes k
  pub line : G ≡ put (fresh 20) (21 + length k.more) 0 (count k)

pub count_field : (xs : List ℕ) → 1 ≤ length xs → ((whole_bytes 4 (fresh 20) xs).spot ≡ spot_bad → ⊥) → CountIn xs (whole_bytes 4 (fresh 20) xs)
unfolding count_bytes count sign flag
count_field xs h live =
    let p = whole_in 20 4 count_kind xs (fresh 20) h live in
    let e = p.unsigned refl in
    record {
      n = p.n;
      k = record { first = p.first; more = p.more };
      good = p.natural;
      is = p.is ∙ ap (λ (m : Bool). spaces p.n ++ (sign m ++ digits (p.first ∷ p.more))) e;
      line = p.line ∙ ap (λ (m : Bool). put (fresh 20) (21 + length p.more) (flag m) (numeral p.first p.more)) e;
    }
