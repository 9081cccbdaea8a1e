-- What the judgement of a line that follows the grammar says, and that a good judgement is of such a line. Assumes nothing.
use mathlib.Core.Path.{◌≡◌, refl, sym, ap, ◌∙◌}
use mathlib.Core.Bool.{Bool, true, false, cond}
use mathlib.Core.List.{List, [], ◌∷◌}
use mathlib.Core.Logic.{◌⊎◌, inl, inr}
use Prim.Native.Nat.{ℕ, ◌+◌, ◌-◌, ◌≤◌, ◌<◌}
use native.Mathlib.Omega.{arith}
use borrow.Author.Tests.{lt-ltb}
use lib.Dec.{ltb, eqb}
use lib.ListN.{length}
use Rattle.integers.specs.Signs.{sgn}
use Rattle.packed_numbers.specs.Numbers.{encode}
use Rattle.units.specs.Units.{block_count}
use Rattle.units.specs.Refusals.{over_limit, total_over_limit, too_coarse, no_room, byte_after_end}
use Rattle.limits.specs.declared.Tally.{Tally}
use Rattle.limits.specs.declared.Term.{Term}
use Rattle.limits.specs.Limits.{opened, added, factor, count_fits, term_refusal}
use Rattle.limits.proofs.Passing.{Passes, refused_not, not_refused, refusal_among}
use Rattle.packed.specs.Series.{pack_term}
use Rattle.series_lines.specs.declared.Line.{Line}
use Rattle.series_lines.specs.declared.Reader.{Reader}
use Rattle.series_lines.specs.Lexer.{spot_done, spot_bad, fresh, lex, lexes, whole_count, whole_term}
use Rattle.series_lines.specs.Judge.{Verdict, signed, term_on_line, count_refusal, term_line_refusal}
use Rattle.text.specs.Reader.{verdict}
use Rattle.series_lines.specs.Reader.{next_spot, after_line, fits, wrote}
use Rattle.series_lines.specs.Grammar.{size, value, CountLine, count, GoodCount, TermLine, term_of_line, TermInLimits}
use Rattle.series_lines.proofs.Digits.{early}
use Rattle.integers.proofs.Tests.{by_cases}
use Rattle.text.proofs.Branches.{verdict_count, verdict_term, verdict_early}
use Rattle.text_promises.proofs.GoodLines.{put, flag, line_of_term}
use Rattle.text_promises.proofs.OneByte.{Lexed, none, digit, pointed, spaced, kept, negated, view, term_of, Count, count_of}
use Rattle.text_promises.proofs.TakenTerms.{no_digit}
use Rattle.text_promises.proofs.Lines.{moved}

-- A reader at the beginning of a line.
abbrev pub sp : ℕ → ℕ → ℕ → ℕ → ℕ → Tally → Reader
sp spot at w k n s =
    record {
      line = fresh spot;
      at = at;
      written = w;
      blocks = k;
      left = n;
      terms = s.terms;
      total = s.total;
      coarse = s.coarse;
      status = 0;
      place = 0;
    }

abbrev pub st : ℕ → ℕ → ℕ → ℕ → Tally → Reader
st at w k n s = sp (next_spot k n) at w k n s

signed_flag : (m : Bool) (v : ℕ) → signed (flag m) v ≡ sgn m v
unfolding signed flag
signed_flag true v = refl
signed_flag false v = refl

pub term_is : (t : TermLine) → term_on_line (line_of_term t) ≡ term_of_line t
unfolding value
term_is t = rw (signed_flag t.a.minus (size t.a), signed_flag t.c.minus (size t.c))

-- After a count and after a term.
module _ (spot at w k m : ℕ) (s : Tally) where
  pub count_verdict : (n : ℕ) (L : Line) → whole_count L ≡ true → L.value ≡ n
      → ((verdict (moved (sp spot at w k 0 s) L m)).refusal ≡ count_refusal k s n)
      × ((verdict (moved (sp spot at w k 0 s) L m)).bytes ≡ encode n)
      × (after_line (moved (sp spot at w k 0 s) L m) (verdict (moved (sp spot at w k 0 s) L m))
      ≡ st (at + m + 1) (w + length (encode n)) (k + 1) n (opened k n s))
  count_verdict n L h e =
      let q = verdict_count (moved (sp spot at w k 0 s) L m) h in (rw (q, e), rw (q, e), rw (q, e))

  pub term_verdict : (n : ℕ) (t : TermLine)
      → ((verdict (moved (sp spot at w k n s) (line_of_term t) m)).refusal ≡ term_line_refusal (factor (k - 1)) s (flag t.b.minus) (term_of_line t))
      × ((verdict (moved (sp spot at w k n s) (line_of_term t) m)).bytes ≡ pack_term (term_of_line t))
      × (after_line (moved (sp spot at w k n s) (line_of_term t) m) (verdict (moved (sp spot at w k n s) (line_of_term t) m))
      ≡ st (at + m + 1) (w + length (pack_term (term_of_line t))) k (n - 1) (added (factor (k - 1)) s (term_of_line t)))
  unfolding whole_count whole_term
  term_verdict n t =
      let q = verdict_term (moved (sp spot at w k n s) (line_of_term t) m) refl refl in
      let e = term_is t in (rw (q, e), rw (q, e), rw (q, e))

-- A count and a term without refusal.
pub count_zero : (k : ℕ) (s : Tally) (n : ℕ) → k < block_count → count_fits s n ≡ true → count_refusal k s n ≡ 0
unfolding count_refusal
count_zero k s n h e = rw (lt-ltb k block_count h, e)

-- The limits of a term line are the tests that its term passes, and b without a minus.
pub within_passes : (f : ℕ) (s : Tally) (t : TermLine) → TermInLimits f s t → Passes f s (term_of_line t)
within_passes f s t l = record { a = l.a; total = l.total; b = l.b; c = l.c; coarse = l.coarse }

pub passes_within : (f : ℕ) (s : Tally) (t : TermLine) → t.b.minus ≡ false → Passes f s (term_of_line t) → TermInLimits f s t
passes_within f s t e p = record { from_zero = e; a = p.a; b = p.b; c = p.c; total = p.total; coarse = p.coarse }

pub term_zero : (f : ℕ) (s : Tally) (t : TermLine) → TermInLimits f s t → term_line_refusal f s (flag t.b.minus) (term_of_line t) ≡ 0
unfolding term_line_refusal flag
term_zero f s t l =
    ap (λ (m : Bool). cond (eqb (flag m) 0) (term_refusal f s (term_of_line t)) over_limit) l.from_zero
    ∙ refused_not f s (term_of_line t) (within_passes f s t l)

pub term_limits : (f : ℕ) (s : Tally) (t : TermLine) → term_line_refusal f s (flag t.b.minus) (term_of_line t) ≡ 0 → TermInLimits f s t
unfolding term_line_refusal flag
term_limits f s t = go t.b.minus refl
  where
    go : (m : Bool) → t.b.minus ≡ m → ◌≡◌ {A = ℕ} (cond (eqb (flag m) 0) (term_refusal f s (term_of_line t)) over_limit) 0 → TermInLimits f s t
    go true e h = absurd (omega arith)
    go false e h = passes_within f s t e (not_refused f s (term_of_line t) h)

-- A line keeps its kind.
count_kind : (xs : List ℕ) (l : Line) → 20 ≤ l.spot → 20 ≤ (lexes l xs).spot
unfolding lexes
count_kind [] l h = h
count_kind (x ∷ xs) l h = count_kind xs (lex l x) (go (lex l x) (view l x))
  where
    go : (m : Line) → Lexed l x m → 20 ≤ m.spot
    go _ none = omega arith
    go _ (digit d i k t) = omega arith
    go _ (pointed i k j) = absurd (omega arith)
    go _ (spaced i k j) = h
    go _ (kept i k j) = absurd (omega arith)
    go _ (negated i k j) = absurd (omega arith)

term_kind : (xs : List ℕ) (l : Line) → (l.spot ≤ spot_done) ⊎ (l.spot ≡ spot_bad) → ((lexes l xs).spot ≤ spot_done) ⊎ ((lexes l xs).spot ≡ spot_bad)
unfolding lexes
term_kind [] l h = h
term_kind (x ∷ xs) l h = term_kind xs (lex l x) (go (lex l x) (view l x))
  where
    one : (s m v d : ℕ) → ((s ≤ spot_done) ⊎ (s ≡ spot_bad)) → s < 24 → (s ≡ spot_done → ⊥) → s + 1 ≤ spot_done
    one s m v d (inl a) b c = omega arith
    one s m v d (inr a) b c = absurd (omega arith)

    go : (m : Line) → Lexed l x m → (m.spot ≤ spot_done) ⊎ (m.spot ≡ spot_bad)
    go _ none = inr refl
    go _ (digit d i k t) = inl (one l.spot l.minus l.value d h (early _ _ _ _ t) (λ e. no_digit l.minus l.value d (rw e at t)))
    go _ (pointed i k j) = inl (omega arith)
    go _ (spaced i k j) = h
    go _ (kept i k j) = inl (omega arith)
    go _ (negated i k j) = inl (omega arith)

pub early_never : {P : Type 0} (r : Reader) → whole_count r.line ≡ false → whole_term r.line ≡ false → (verdict r).refusal ≡ 0 → P
early_never r p q g = let e = sym (verdict_early r p q) ∙ g in absurd (omega (arith, e))

-- No line that begins as a term is a count, and none that begins as a count is a term.
pub not_count : (xs : List ℕ) → whole_count (lexes (fresh 0) xs) ≡ false
not_count xs = by_cases (whole_count (lexes (fresh 0) xs)) (λ q. absurd (go (count_of _ q) (term_kind xs (fresh 0) (inl (omega arith))))) (λ q. q)
  where
    go : Count (lexes (fresh 0) xs) → ((lexes (fresh 0) xs).spot ≤ spot_done) ⊎ ((lexes (fresh 0) xs).spot ≡ spot_bad) → ⊥
    go c (inl h) = omega (arith, c.low)
    go c (inr h) = omega (arith, c.high)

pub not_term : (xs : List ℕ) → whole_term (lexes (fresh 20) xs) ≡ false
not_term xs =
    by_cases (whole_term (lexes (fresh 20) xs))
    (λ q. let t = term_of _ q in absurd (omega (arith, t.spot, count_kind xs (fresh 20) (omega arith))))
    (λ q. q)

-- So a line feed that is not refused ends a count after counts, and a term after terms.
pub ends_count : (r : Reader) (xs : List ℕ) → r.line ≡ lexes (fresh 20) xs → (verdict r).refusal ≡ 0 → whole_count (lexes (fresh 20) xs) ≡ true
ends_count r xs e g = by_cases (whole_count (lexes (fresh 20) xs)) (λ p. p) (λ p. early_never r (rw e p) (rw e (not_term xs)) g)

pub ends_term : (r : Reader) (xs : List ℕ) → r.line ≡ lexes (fresh 0) xs → (verdict r).refusal ≡ 0 → whole_term (lexes (fresh 0) xs) ≡ true
ends_term r xs e g = by_cases (whole_term (lexes (fresh 0) xs)) (λ p. p) (λ p. early_never r (rw e (not_count xs)) (rw e p) g)

pub is_whole : (c : CountLine) → GoodCount c → whole_count (put (fresh 20) (21 + length c.more) 0 (count c)) ≡ true
unfolding whole_count
is_whole c g = rw (lt-ltb 20 (21 + length c.more) (omega arith), lt-ltb (21 + length c.more) 25 (omega (arith, g.few)))

-- The refusals that a count and a term can have, and the status after them.
pub count_among : (P : ℕ → Type 0) → P 0 → P over_limit → P byte_after_end → (k : ℕ) (s : Tally) (n : ℕ) → P (count_refusal k s n)
unfolding count_refusal
count_among P passes over after k s n = go (ltb k block_count) (count_fits s n)
  where
    go : (t u : Bool) → P (cond t (cond u 0 over_limit) byte_after_end)
    go true true = passes
    go true false = over
    go false u = after

pub term_among : (P : ℕ → Type 0) → P 0 → P over_limit → P total_over_limit → P too_coarse
    → (f : ℕ) (s : Tally) (m : ℕ) (t : Term) → P (term_line_refusal f s m t)
unfolding term_line_refusal
term_among P passes over total coarse f s m t = go (eqb m 0)
  where
    go : (b : Bool) → P (cond b (term_refusal f s t) over_limit)
    go true = refusal_among P passes over total coarse f s t
    go false = over

pub wrote_status : (n : ℕ) → (0 ≡ n → ⊥) → (no_room ≡ n → ⊥)
    → (r : Reader) (out : List ℕ) (v : Verdict) → (v.refusal ≡ n → ⊥) → (wrote r out v).status ≡ n → ⊥
unfolding wrote
wrote_status n a b r out v h =
    by_cases (eqb v.refusal 0)
    (λ p. by_cases (fits v.bytes r.written out) (λ q. rw (p, q) a) (λ q. rw (p, q) b))
    (λ p. rw p h)
