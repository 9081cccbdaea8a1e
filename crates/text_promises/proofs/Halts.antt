-- Where the reader stops, over the grammar and the limits: each refusal of the definition is the reader's. Assumes nothing.
use mathlib.Core.Path.{◌≡◌, refl, sym, ap, ◌∙◌, subst}
use mathlib.Core.Bool.{Bool, true, false, cond, ◌&&◌}
use mathlib.Core.List.{List, [], ◌∷◌, ◌++◌, append-nil}
use Prim.Native.Nat.{ℕ, zero, suc, ◌+◌, ◌-◌, ◌≤◌, ◌<◌}
use native.Mathlib.Omega.{arith}
use borrow.Author.Tests.{eqb-true, eqb-false, eq-eqb, ne_eqb, lt-ltb, lt-leb}
use lib.Dec.{eqb}
use lib.ListN.{length, length-append}
use Rattle.packed_numbers.specs.Numbers.{encode}
use Rattle.packed.specs.Series.{pack_term}
use Rattle.units.specs.Units.{block_count}
use Rattle.units.specs.declared.Refusal.{Refusal}
use Rattle.units.specs.declared.Refusal.TheVariants.{BadByte, OverLimit, NoRoom, EndedEarly, ByteAfterEnd}
use Rattle.units.specs.Refusals.{over_limit, total_over_limit, no_room, byte_after_end, of_number}
use Rattle.units.specs.Refusals as numbers
use Rattle.limits.specs.declared.Tally.{Tally}
use Rattle.limits.specs.Limits.{factor, count_fits, a_fits, b_fits, c_fits, total_fits, coarse_fits, numbers_fit, term_refusal}
use Rattle.series_lines.specs.declared.Line.{Line}
use Rattle.series_lines.specs.declared.Reader.{Reader}
use Rattle.series_lines.specs.declared.Outcome.TheVariants.{More, Refused}
use Rattle.series_lines.specs.Lexer.{fresh, lex, lexes, whole_count, whole_term}
use Rattle.series_lines.specs.Judge.{count_refusal, term_line_refusal}
use Rattle.series_lines.specs.Reader.{last_offset, stopped, fits, put_bytes, wrote, wrote_out, uncounted, told}
use Rattle.text.specs.Reader.{verdict, step, step_out, Run, run, ended}
use Rattle.series_lines.specs.Grammar.{size, value, CountLine, count, count_bytes, GoodCount, TermLine, term_bytes, GoodTerm, term_of_line, TermInLimits}
use Rattle.series_lines.specs.Grammar.{line_packed}
use Rattle.text_promises.specs.Decided.{Awaits, BeginsCount, BeginsTerm, CanBegin, IsCount, IsTerm, IsLine, NumbersInLimits, Refuses}
use Rattle.text_promises.specs.Decided.{after_end, bad_byte, early_feed, count_over, number_over, total_over, too_coarse, no_room_count, no_room_term}
use Rattle.integers.proofs.Tests.{by_cases}
use Rattle.text.proofs.Branches.{verdict_early}
use Rattle.text_promises.proofs.GoodLines.{flag, lexes_append, count_run, term_run}
use Rattle.text_promises.proofs.TakenTerms.{term_in}
use Rattle.text_promises.proofs.TakenCounts.{count_in}
use Rattle.text_promises.proofs.Lines.{moved, Going, step_bad, step_feed, not_after, line_run, stays}
use Rattle.text_promises.proofs.Verdicts.{sp, st, count_verdict, term_verdict, count_zero, term_zero, is_whole, not_count, not_term}
use Rattle.text_promises.proofs.TakenTexts.{spot_term, spot_count, spot_after}
use Rattle.text_promises.proofs.Prefixes.{term_begins, term_goes_on, count_begins, count_goes_on}

-- The reader r refuses the bytes xs, and nothing is written.
pub record Halts (r : Reader) (o xs : List ℕ) (f : Refusal) : Type 0 where
  pub answer : told (run r o xs).reader ≡ Refused f
  pub last : told (ended (run r o xs).reader) ≡ Refused f
  pub same : (run r o xs).out ≡ o

halts : (r : Reader) (o xs : List ℕ) (f : Refusal) (q : Reader) (c : ℕ) → run r o xs ≡ record { reader = stopped q c; out = o }
    → eqb c 0 ≡ false → eqb c 1 ≡ false → of_number c q.at ≡ f → Halts r o xs f
halts r o xs f q c e y z i =
    record {
      answer = ap (λ (x : Run). told x.reader) e ∙ plain q c y z ∙ ap (λ (x : Refusal). Refused x) i;
      last = ap (λ (x : Run). told (ended x.reader)) e ∙ ap told (same_end q c y) ∙ plain q c y z ∙ ap (λ (x : Refusal). Refused x) i;
      same = ap (λ (x : Run). x.out) e;
    }
  where
    plain : (q : Reader) (c : ℕ) → eqb c 0 ≡ false → eqb c 1 ≡ false → told (stopped q c) ≡ Refused (of_number c q.at)
    plain q c y z = unfold told in rw (y, z)

    same_end : (q : Reader) (c : ℕ) → eqb c 0 ≡ false → ended (stopped q c) ≡ stopped q c
    same_end q c y = unfold ended in rw y

never_after : (xs : List ℕ) (l : Line) → (l.spot ≡ 30 → ⊥) → (lexes l xs).spot ≡ 30 → ⊥
unfolding lexes
never_after [] l h = h
never_after (x ∷ xs) l h = never_after xs (lex l x) (not_after l x h)

-- Within a line, whose bytes so far are xs.
module _ (spot at w k n : ℕ) (s : Tally) (o xs : List ℕ) where
  abbrev here : Reader
  here = moved (sp spot at w k n s) (lexes (fresh spot) xs) (length xs)

  module _ (live : (lexes (fresh spot) xs).spot ≡ 31 → ⊥) (inside : spot ≡ 30 → ⊥) where
    -- The text goes on.
    pub open_run : at + length xs ≤ last_offset → run (sp spot at w k n s) o xs ≡ record { reader = here; out = o }
    unfolding run
    open_run c =
        ap (λ (t : List ℕ). run (sp spot at w k n s) o t) (sym (append-nil xs)) ∙ line_run xs (sp spot at w k n s) o [] refl refl c live

    module _ (counts : at + length xs < last_offset) where
      going : Going here
      going = record { status = refl; counts = λ e. omega (arith, e); inside = never_after xs (fresh spot) inside }

      stop_run : (b : ℕ) (more : List ℕ) (c : ℕ) → (c ≡ 0 → ⊥) → step here o b ≡ stopped here c → step_out here o b ≡ o
          → run (sp spot at w k n s) o (xs ++ (b ∷ more)) ≡ record { reader = stopped here c; out = o }
      unfolding run
      stop_run b more c h e f =
          line_run xs (sp spot at w k n s) o (b ∷ more) refl refl (omega arith) live
          ∙ ap (λ (y : List ℕ). run (step here o b) y more) f
          ∙ ap (λ (q : Reader). run q o more) e
          ∙ stays more (stopped here c) o h

      other_out : (b : ℕ) → (b ≡ 10 → ⊥) → step_out here o b ≡ o
      unfolding step_out uncounted
      other_out b h = rw (ne_eqb (at + length xs) last_offset going.counts, ne_eqb (lexes (fresh spot) xs).spot 30 going.inside, ne_eqb b 10 h)

      bad_halts : (b : ℕ) (more : List ℕ) → (b ≡ 10 → ⊥) → (lex (lexes (fresh spot) xs) b).spot ≡ 31
          → Halts (sp spot at w k n s) o (xs ++ (b ∷ more)) (BadByte (at + length xs))
      unfolding of_number
      bad_halts b more h e =
          halts (sp spot at w k n s) o (xs ++ (b ∷ more)) (BadByte (at + length xs)) here numbers.bad_byte
          (stop_run b more numbers.bad_byte (λ q. omega (arith, q)) (step_bad here o b going h e) (other_out b h)) refl refl refl

      -- A line feed after a line that is refused with the number c.
      feed_halts : (c : ℕ) (more : List ℕ) (f : Refusal) → (verdict here).refusal ≡ c → eqb c 0 ≡ false → eqb c 1 ≡ false
          → of_number c (at + length xs) ≡ f → Halts (sp spot at w k n s) o (xs ++ (10 ∷ more)) f
      unfolding wrote wrote_out
      feed_halts c more f e y z i =
          let t = step_feed here o going in
          halts (sp spot at w k n s) o (xs ++ (10 ∷ more)) f here c
          (stop_run 10 more c (eqb-false c 0 y) (t.0 ∙ (rw (e, y))) (t.1 ∙ (rw (e, y)))) y z i

      -- A line feed after a line whose bytes have no room.
      full_halts : (more : List ℕ) → (verdict here).refusal ≡ 0 → length o < w + length (verdict here).bytes
          → Halts (sp spot at w k n s) o (xs ++ (10 ∷ more)) (NoRoom (at + length xs))
      unfolding wrote wrote_out put_bytes fits of_number
      full_halts more e h =
          let t = step_feed here o going in
          let g = lt-leb (w + length (verdict here).bytes) (length o) h in
          halts (sp spot at w k n s) o (xs ++ (10 ∷ more)) (NoRoom (at + length xs)) here no_room
          (stop_run 10 more no_room (λ q. omega (arith, q)) (t.0 ∙ (rw (e, g))) (t.1 ∙ (rw (e, g)))) refl refl refl

-- ---- By the kind of the line.

pub one_more : (l : Line) (xs : List ℕ) (b : ℕ) → lexes l (xs ++ (b ∷ [])) ≡ lex (lexes l xs) b
one_more l xs b = lexes_append l xs (b ∷ []) ∙ last_one (lexes l xs) b
  where
    last_one : (l : Line) (b : ℕ) → lexes l (b ∷ []) ≡ lex l b
    last_one l b = unfold lexes in refl

-- The line with b is bad where it cannot begin a line.
bad_by : (spot : ℕ) (xs : List ℕ) (b : ℕ) (P : Type 0) → (P → ⊥) → (((lexes (fresh spot) (xs ++ (b ∷ []))).spot ≡ 31 → ⊥) → P)
    → (lex (lexes (fresh spot) xs) b).spot ≡ 31
bad_by spot xs b P h f =
    let e = ap (λ (l : Line). l.spot) (one_more (fresh spot) xs b) in
    by_cases (eqb (lex (lexes (fresh spot) xs) b).spot 31)
    (λ z. eqb-true _ _ z)
    (λ z. absurd (h (f (λ q. eqb-false _ _ z (sym e ∙ q)))))

-- A whole line is taken for no other.
no_count : (xs : List ℕ) → (IsCount xs → ⊥) → whole_count (lexes (fresh 20) xs) ≡ false
no_count xs h =
    by_cases (whole_count (lexes (fresh 20) xs))
    (λ p. let t = count_in xs (lexes (fresh 20) xs) p refl in absurd (h (record { c = t.k; good = t.good; is = t.is })))
    (λ p. p)

no_term : (xs : List ℕ) → (IsTerm xs → ⊥) → whole_term (lexes (fresh 0) xs) ≡ false
no_term xs h =
    by_cases (whole_term (lexes (fresh 0) xs))
    (λ p. let t = term_in xs (lexes (fresh 0) xs) p refl in absurd (h (record { t = t.t; good = t.good; is = t.is })))
    (λ p. p)

-- What the judgement of a count line and of a term line says.
module _ (at w k : ℕ) (s : Tally) where
  count_says : (l : CountLine) → GoodCount l
      → ((verdict (moved (sp 20 at w k 0 s) (lexes (fresh 20) (count_bytes l)) (length (count_bytes l)))).refusal ≡ count_refusal k s (count l))
      × ((verdict (moved (sp 20 at w k 0 s) (lexes (fresh 20) (count_bytes l)) (length (count_bytes l)))).bytes ≡ encode (count l))
  count_says l g =
      let e = count_run l g in
      let v = count_verdict 20 at w k (length (count_bytes l)) s (count l) (lexes (fresh 20) (count_bytes l))
      (ap (λ (x : Line). whole_count x) e ∙ is_whole l g) (ap (λ (x : Line). x.value) e) in
      (v.0, v.1)

  term_says : (n : ℕ) (l : TermLine) → GoodTerm l
      → ((verdict (moved (sp 0 at w k n s) (lexes (fresh 0) (term_bytes l)) (length (term_bytes l)))).refusal
      ≡ term_line_refusal (factor (k - 1)) s (flag l.b.minus) (term_of_line l))
      × ((verdict (moved (sp 0 at w k n s) (lexes (fresh 0) (term_bytes l)) (length (term_bytes l)))).bytes ≡ pack_term (term_of_line l))
  term_says n l g =
      let e = term_run l g in
      let v = term_verdict 0 at w k (length (term_bytes l)) s n l in (
        ap (λ (x : Line). (verdict (moved (sp 0 at w k n s) x (length (term_bytes l)))).refusal) e ∙ v.0,
        ap (λ (x : Line). (verdict (moved (sp 0 at w k n s) x (length (term_bytes l)))).bytes) e ∙ v.1,
      )

-- The numbers of the refusals.
count_refused : (k : ℕ) (s : Tally) (n : ℕ) → k < block_count → count_fits s n ≡ false → count_refusal k s n ≡ over_limit
unfolding count_refusal
count_refused k s n h e = rw (lt-ltb k block_count h, e)

module _ (f : ℕ) (s : Tally) (l : TermLine) where
  pub number_refused : (NumbersInLimits l → ⊥) → term_line_refusal f s (flag l.b.minus) (term_of_line l) ≡ over_limit
  unfolding term_line_refusal term_refusal numbers_fit flag
  number_refused h = go l.b.minus refl (a_fits (value l.a)) refl (b_fits (size l.b)) refl (c_fits (value l.c)) refl
    where
      go : (m : Bool) → l.b.minus ≡ m → (a : Bool) → a_fits (value l.a) ≡ a → (b : Bool) → b_fits (size l.b) ≡ b
          → (c : Bool) → c_fits (value l.c) ≡ c
          → ◌≡◌ {A = ℕ} (cond (eqb (flag m) 0) (cond (a && (b && c)) (cond (total_fits s (value l.a))
          (cond (coarse_fits f s (value l.a) (size l.b) (value l.c)) 0 numbers.too_coarse)
          total_over_limit) over_limit) over_limit) over_limit
      go true pm a pa b pb c pc = refl
      go false pm true pa true pb true pc = absurd (h (record { from_zero = pm; a = pa; b = pb; c = pc }))
      go false pm true pa true pb false pc = refl
      go false pm true pa false pb c pc = refl
      go false pm false pa b pb c pc = refl

  from_zero : l.b.minus ≡ false → term_line_refusal f s (flag l.b.minus) (term_of_line l) ≡ term_refusal f s (term_of_line l)
  unfolding term_line_refusal flag
  from_zero e = ap (λ (m : Bool). cond (eqb (flag m) 0) (term_refusal f s (term_of_line l)) over_limit) e

  pub total_refused : NumbersInLimits l → total_fits s (value l.a) ≡ false
      → term_line_refusal f s (flag l.b.minus) (term_of_line l) ≡ total_over_limit
  total_refused p e = from_zero p.from_zero ∙ go p.a p.b p.c e
    where
      go : a_fits (value l.a) ≡ true → b_fits (size l.b) ≡ true → c_fits (value l.c) ≡ true → total_fits s (value l.a) ≡ false
          → term_refusal f s (term_of_line l) ≡ total_over_limit
      go a b c e = unfold term_refusal numbers_fit in rw (a, b, c, e)

  pub coarse_refused : NumbersInLimits l → total_fits s (value l.a) ≡ true → coarse_fits f s (value l.a) (size l.b) (value l.c) ≡ false
      → term_line_refusal f s (flag l.b.minus) (term_of_line l) ≡ numbers.too_coarse
  coarse_refused p u e = from_zero p.from_zero ∙ go p.a p.b p.c u e
    where
      go : a_fits (value l.a) ≡ true → b_fits (size l.b) ≡ true → c_fits (value l.c) ≡ true → total_fits s (value l.a) ≡ true
          → coarse_fits f s (value l.a) (size l.b) (value l.c) ≡ false → term_refusal f s (term_of_line l) ≡ numbers.too_coarse
      go a b c u e = unfold term_refusal numbers_fit in rw (a, b, c, u, e)

-- ---- Every refusal.

good_count : (l : CountLine) → GoodCount l → BeginsCount (count_bytes l)
good_count l g = record { rest = []; c = l; good = g; is = append-nil (count_bytes l) }

good_term : (l : TermLine) → GoodTerm l → BeginsTerm (term_bytes l)
good_term l g = record { rest = []; t = l; good = g; is = append-nil (term_bytes l) }

inside_line : (at : ℕ) (xs : List ℕ) (b : ℕ) (more : List ℕ) → at + length (xs ++ (b ∷ more)) ≤ last_offset → at + length xs < last_offset
inside_line at xs b more h = omega (arith, length-append xs (b ∷ more))

at_zero : ◌≡◌ {A = ℕ} 0 30 → ⊥
at_zero e = omega (arith, e)

at_twenty : ◌≡◌ {A = ℕ} 20 30 → ⊥
at_twenty e = omega (arith, e)

module _ (at w k : ℕ) (s : Tally) (o : List ℕ) where
  to_count : (xs : List ℕ) (f : Refusal) → k < block_count → Halts (sp 20 at w k 0 s) o xs f → Halts (st at w k 0 s) o xs f
  to_count xs f h e = subst (λ (i : ℕ). Halts (sp i at w k 0 s) o xs f) (sym (spot_count k (λ q. omega (arith, q)))) e

  to_term : (n : ℕ) (xs : List ℕ) (f : Refusal) → Halts (sp 0 at w k (suc n) s) o xs f → Halts (st at w k (suc n) s) o xs f
  to_term n xs f e = subst (λ (i : ℕ). Halts (sp i at w k (suc n) s) o xs f) (sym (spot_term k n)) e

  bad_byte_halts : (n : ℕ) (xs : List ℕ) (b : ℕ) (more : List ℕ) → Awaits k n → CanBegin n xs → (b ≡ 10 → ⊥) → (CanBegin n (xs ++ (b ∷ [])) → ⊥)
      → at + length (xs ++ (b ∷ more)) ≤ last_offset → Halts (st at w k n s) o (xs ++ (b ∷ more)) (BadByte (at + length xs))
  unfolding CanBegin
  bad_byte_halts zero xs b more a c h x m =
      to_count _ _ (a refl) (bad_halts 20 at w k 0 s o xs (count_goes_on xs c) at_twenty (inside_line at xs b more m) b more h
      (bad_by 20 xs b (BeginsCount (xs ++ (b ∷ []))) x (count_begins (xs ++ (b ∷ [])))))
  bad_byte_halts (suc n) xs b more a c h x m =
      to_term n _ _ (bad_halts 0 at w k (suc n) s o xs (term_goes_on xs c) at_zero (inside_line at xs b more m) b more h
      (bad_by 0 xs b (BeginsTerm (xs ++ (b ∷ []))) x (term_begins (xs ++ (b ∷ [])))))

  early_feed_halts : (n : ℕ) (xs more : List ℕ) → Awaits k n → CanBegin n xs → (IsLine n xs → ⊥)
      → at + length (xs ++ (10 ∷ more)) ≤ last_offset → Halts (st at w k n s) o (xs ++ (10 ∷ more)) (BadByte (at + length xs))
  unfolding CanBegin IsLine of_number
  early_feed_halts zero xs more a c x m =
      to_count _ _ (a refl) (feed_halts 20 at w k 0 s o xs (count_goes_on xs c) at_twenty (inside_line at xs 10 more m) numbers.bad_byte more _
      (verdict_early (moved (sp 20 at w k 0 s) (lexes (fresh 20) xs) (length xs)) (no_count xs x) (not_term xs)) refl refl refl)
  early_feed_halts (suc n) xs more a c x m =
      to_term n _ _ (feed_halts 0 at w k (suc n) s o xs (term_goes_on xs c) at_zero (inside_line at xs 10 more m) numbers.bad_byte more _
      (verdict_early (moved (sp 0 at w k (suc n) s) (lexes (fresh 0) xs) (length xs)) (not_count xs) (no_term xs x)) refl refl refl)

  module _ (l : CountLine) (more : List ℕ) (h : k < block_count) (g : GoodCount l) (m : at + length (count_bytes l ++ (10 ∷ more)) ≤ last_offset) where
    count_over_halts : count_fits s (count l) ≡ false → Halts (st at w k 0 s) o (count_bytes l ++ (10 ∷ more)) (OverLimit (at + length (count_bytes l)))
    unfolding of_number
    count_over_halts e =
        to_count _ _ h (feed_halts 20 at w k 0 s o (count_bytes l) (count_goes_on (count_bytes l) (good_count l g)) at_twenty
        (inside_line at (count_bytes l) 10 more m) over_limit more _ ((count_says at w k s l g).0 ∙ count_refused k s (count l) h e) refl refl refl)

    count_full_halts : count_fits s (count l) ≡ true → length o < w + length (encode (count l))
        → Halts (st at w k 0 s) o (count_bytes l ++ (10 ∷ more)) (NoRoom (at + length (count_bytes l)))
    count_full_halts e u =
        let v = count_says at w k s l g in
        to_count _ _ h (full_halts 20 at w k 0 s o (count_bytes l) (count_goes_on (count_bytes l) (good_count l g)) at_twenty
        (inside_line at (count_bytes l) 10 more m) more (v.0 ∙ count_zero k s (count l) h e) (rw v.1 u))

  module _ (n : ℕ) (l : TermLine) (more : List ℕ) (g : GoodTerm l) (m : at + length (term_bytes l ++ (10 ∷ more)) ≤ last_offset) where
    term_halts : (c : ℕ) (f : Refusal) → term_line_refusal (factor (k - 1)) s (flag l.b.minus) (term_of_line l) ≡ c → eqb c 0 ≡ false → eqb c 1 ≡ false
        → of_number c (at + length (term_bytes l)) ≡ f → Halts (st at w k (suc n) s) o (term_bytes l ++ (10 ∷ more)) f
    term_halts c f e y z i =
        to_term n _ _ (feed_halts 0 at w k (suc n) s o (term_bytes l) (term_goes_on (term_bytes l) (good_term l g)) at_zero
        (inside_line at (term_bytes l) 10 more m) c more f ((term_says at w k s (suc n) l g).0 ∙ e) y z i)

    term_full_halts : TermInLimits (factor (k - 1)) s l → length o < w + length (pack_term (term_of_line l))
        → Halts (st at w k (suc n) s) o (term_bytes l ++ (10 ∷ more)) (NoRoom (at + length (term_bytes l)))
    term_full_halts e u =
        let v = term_says at w k s (suc n) l g in
        to_term n _ _ (full_halts 0 at w k (suc n) s o (term_bytes l) (term_goes_on (term_bytes l) (good_term l g)) at_zero
        (inside_line at (term_bytes l) 10 more m) more (v.0 ∙ term_zero (factor (k - 1)) s l e) (rw v.1 u))

-- A byte after block 18.
after_halts : (at w : ℕ) (s : Tally) (o : List ℕ) (b : ℕ) (more : List ℕ) → at < last_offset → Halts (st at w block_count 0 s) o (b ∷ more) (ByteAfterEnd at)
unfolding run of_number
after_halts at w s o b more h =
    let r = sp 30 at w block_count 0 s in
    let t = by_after (λ e. omega (arith, e)) in
    subst (λ (i : ℕ). Halts (sp i at w block_count 0 s) o (b ∷ more) (ByteAfterEnd at)) (sym spot_after)
    (halts r o (b ∷ more) (ByteAfterEnd at) r byte_after_end
    (ap (λ (y : List ℕ). run (step r o b) y more) t.1 ∙ ap (λ (q : Reader). run q o more) t.0
    ∙ stays more (stopped r byte_after_end) o (λ q. omega (arith, q)))
    refl refl refl)
  where
    by_after : (at ≡ last_offset → ⊥)
        → (step (sp 30 at w block_count 0 s) o b ≡ stopped (sp 30 at w block_count 0 s) byte_after_end) × (step_out (sp 30 at w block_count 0 s) o b ≡ o)
    by_after n = let t = ne_eqb at last_offset n in unfold step step_out uncounted in (rw t, rw t)

pub refusals : {at : ℕ} {s : Tally} {room k n : ℕ} {rest : List ℕ} {f : Refusal} → Refuses at s room k n rest f → (w : ℕ) (o : List ℕ)
    → at + length rest ≤ last_offset → w + room ≡ length o → Halts (st at w k n s) o rest f
unfolding of_number line_packed
refusals {at} {s} {room} (after_end b more) w o m e = after_halts at w s o b more (omega arith)
refusals {at} {s} {room} (bad_byte {k} {n} xs b more a c h x) w o m e = bad_byte_halts at w k s o n xs b more a c h x m
refusals {at} {s} {room} (early_feed {k} {n} xs more a c x) w o m e = early_feed_halts at w k s o n xs more a c x m
refusals {at} {s} {room} (count_over {k} l more h g x) w o m e = count_over_halts at w k s o l more h g m x
refusals {at} {s} {room} (number_over {k} {n} l more g x) w o m e =
    term_halts at w k s o n l more g m over_limit _ (number_refused (factor (k - 1)) s l x) refl refl refl
refusals {at} {s} {room} (total_over {k} {n} l more g p x) w o m e =
    term_halts at w k s o n l more g m total_over_limit _ (total_refused (factor (k - 1)) s l p x) refl refl refl
refusals {at} {s} {room} (too_coarse {k} {n} l more g p u x) w o m e =
    term_halts at w k s o n l more g m numbers.too_coarse _ (coarse_refused (factor (k - 1)) s l p u x) refl refl refl
refusals {at} {s} {room} (no_room_count {k} l more h g x u) w o m e = count_full_halts at w k s o l more h g m x (omega arith)
refusals {at} {s} {room} (no_room_term {k} {n} l more g x u) w o m e = term_full_halts at w k s o n l more g m x (omega arith)

-- ---- A text that goes on.

-- The reader r reads on after the bytes xs.
pub record Open (r : Reader) (o xs : List ℕ) (w to : ℕ) : Type 0 where
  pub answer : told (run r o xs).reader ≡ More w
  pub last : told (ended (run r o xs).reader) ≡ Refused (EndedEarly to)
  pub same : (run r o xs).out ≡ o

opens : (r : Reader) (o xs : List ℕ) (q : Reader) → run r o xs ≡ record { reader = q; out = o } → q.status ≡ 0 → (q.line.spot ≡ 30 → ⊥)
    → Open r o xs q.written q.at
opens r o xs q e s n =
    record {
      answer = ap (λ (x : Run). told x.reader) e ∙ reads q s;
      last = ap (λ (x : Run). told (ended x.reader)) e ∙ early q s n;
      same = ap (λ (x : Run). x.out) e;
    }
  where
    reads : (q : Reader) → q.status ≡ 0 → told q ≡ More q.written
    reads q s = unfold told in rw (eq-eqb q.status 0 s)

    early : (q : Reader) → q.status ≡ 0 → (q.line.spot ≡ 30 → ⊥) → told (ended q) ≡ Refused (EndedEarly q.at)
    early q s n = unfold told ended of_number in rw (eq-eqb q.status 0 s, ne_eqb q.line.spot 30 n)

pub goes : (at w k n : ℕ) (s : Tally) (o xs : List ℕ) → Awaits k n → CanBegin n xs → at + length xs ≤ last_offset
    → Open (st at w k n s) o xs w (at + length xs)
unfolding CanBegin
goes at w k zero s o xs a c m =
    subst (λ (i : ℕ). Open (sp i at w k 0 s) o xs w (at + length xs)) (sym (spot_count k (λ q. omega (arith, q, a refl))))
    (opens (sp 20 at w k 0 s) o xs (moved (sp 20 at w k 0 s) (lexes (fresh 20) xs) (length xs))
    (open_run 20 at w k 0 s o xs (count_goes_on xs c) at_twenty m) refl (never_after xs (fresh 20) at_twenty))
goes at w k (suc n) s o xs a c m =
    subst (λ (i : ℕ). Open (sp i at w k (suc n) s) o xs w (at + length xs)) (sym (spot_term k n))
    (opens (sp 0 at w k (suc n) s) o xs (moved (sp 0 at w k (suc n) s) (lexes (fresh 0) xs) (length xs))
    (open_run 0 at w k (suc n) s o xs (term_goes_on xs c) at_zero m) refl (never_after xs (fresh 0) at_zero))
