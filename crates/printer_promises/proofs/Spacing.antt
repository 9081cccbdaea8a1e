-- In a plain text no term line has a leading space, nor more than one space between two decimals. Assumes nothing.
use mathlib.Core.Path.{◌≡◌, refl}
use mathlib.Core.List.{List, [], ◌∷◌, ◌++◌, append_assoc}
use Prim.Native.Nat.{ℕ, zero, suc}
use Rattle.series_lines.specs.Grammar.{feed, spaces, decimal, count_bytes, TermLine, term_bytes, lines_bytes, Block, blocks_bytes}
use Rattle.printer_promises.specs.Plain.{Spaced, PlainText}

pub record PlainLine (l : TermLine) : Type 0 where
  pub lead : l.lead ≡ 0
  pub after_a : l.after_a ≡ 0
  pub after_b : l.after_b ≡ 0

unfoldable pub PlainLines : List TermLine → Type 0
PlainLines [] = Unit {0}
PlainLines (l ∷ ls) = PlainLine l × PlainLines ls

unfoldable pub Plain : List Block → Type 0
Plain [] = Unit {0}
Plain (k ∷ ks) = PlainLines k.lines × Plain ks

-- The front of a spaced list, and what follows it.
record After (xs : List ℕ) : Type 0 where
  before : ℕ
  is : Spaced before xs

front : (p : ℕ) (xs ys : List ℕ) → Spaced p (xs ++ ys) → Spaced p xs
unfolding Spaced
front p [] ys h = tt
front p (x ∷ xs) ys h = (h.0, front x xs ys h.1)

past : (p : ℕ) (xs ys : List ℕ) → Spaced p (xs ++ ys) → After ys
unfolding Spaced
past p [] ys h = record { before = p; is = h }
past p (x ∷ xs) ys h = past x xs ys h.1

-- No spaces after a line feed or a space.
none_leading : (n : ℕ) (ys : List ℕ) → Spaced feed (spaces n ++ ys) → n ≡ 0
unfolding Spaced spaces
none_leading zero ys h = refl
none_leading (suc n) ys h = absurd ((h.0 refl).1 refl)

no_more : (p n : ℕ) (ys : List ℕ) → Spaced p ((32 ∷ spaces n) ++ ys) → n ≡ 0
unfolding Spaced spaces
no_more p zero ys h = refl
no_more p (suc n) ys h = absurd ((h.1.0 refl).0 refl)

line_plain : (l : TermLine) → Spaced feed (term_bytes l) → PlainLine l
unfolding term_bytes
line_plain l h =
    let e = decimal l.c in
    let d = (32 ∷ spaces l.after_b) ++ e in
    let b = (32 ∷ spaces l.after_a) ++ (decimal l.b ++ d) in
    let at_a = past feed (spaces l.lead) (decimal l.a ++ b) h in
    let past_a = past at_a.before (decimal l.a) b at_a.is in
    let at_b = past past_a.before (32 ∷ spaces l.after_a) (decimal l.b ++ d) past_a.is in
    let past_b = past at_b.before (decimal l.b) d at_b.is in
    record {
      lead = none_leading l.lead (decimal l.a ++ b) h;
      after_a = no_more past_a.before l.after_a (decimal l.b ++ d) past_a.is;
      after_b = no_more past_b.before l.after_b e past_b.is;
    }

-- What follows a line feed.
fed : (p : ℕ) (xs ys : List ℕ) → Spaced p (xs ++ (feed ∷ ys)) → Spaced feed ys
unfolding Spaced
fed p xs ys h = (past p xs (feed ∷ ys) h).is.1

lines_plain : (ls : List TermLine) (ys : List ℕ) → Spaced feed (lines_bytes ls ++ ys) → PlainLines ls × Spaced feed ys
unfolding lines_bytes PlainLines
lines_plain [] ys h = (tt, h)
lines_plain (l ∷ ls) ys h =
    let k : Spaced feed (term_bytes l ++ (feed ∷ (lines_bytes ls ++ ys))) = rw (append_assoc (term_bytes l) (feed ∷ lines_bytes ls) ys) at h in
    let r = lines_plain ls ys (fed feed (term_bytes l) (lines_bytes ls ++ ys) k) in
    ((line_plain l (front feed (term_bytes l) (feed ∷ (lines_bytes ls ++ ys)) k), r.0), r.1)

pub text_plain : (ks : List Block) → PlainText (blocks_bytes ks) → Plain ks
unfolding blocks_bytes Plain
text_plain [] h = tt
text_plain (k ∷ ks) h =
    let r = lines_plain k.lines (blocks_bytes ks) (fed feed (count_bytes k.head) (lines_bytes k.lines ++ blocks_bytes ks) h) in
    (r.0, text_plain ks r.1)
