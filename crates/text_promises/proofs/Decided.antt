-- Every text is decided over the grammar and the limits: its answer, the answer's figure, and what the output holds. Assumes nothing.
use mathlib.Core.Path.{◌≡◌, refl, sym, ap, ◌∙◌, subst}
use mathlib.Core.Bool.{Bool, true, false}
use mathlib.Core.List.{List, [], ◌∷◌, ◌++◌}
use mathlib.Core.Logic.{◌⊎◌, inl, inr}
use Prim.Native.Nat.{ℕ, zero, suc, ◌+◌, ◌-◌, ◌≤◌, ◌<◌}
use native.Mathlib.Omega.{arith}
use borrow.Author.Tests.{leb-true, leb-false, eqb-true, eqb-false}
use lib.Dec.{leb, eqb}
use lib.ListN.{length, length-append}
use lib.Seq.{sets, length-sets}
use Rattle.units.specs.Units.{block_count}
use Rattle.units.specs.declared.Refusal.{Refusal}
use Rattle.limits.specs.declared.Tally.{Tally}
use Rattle.limits.specs.Limits.{factor, no_tally, opened, added, count_fits, a_fits, b_fits, c_fits, total_fits, coarse_fits}
use Rattle.series_lines.specs.declared.Line.{Line}
use Rattle.series_lines.specs.declared.Outcome.{Outcome}
use Rattle.series_lines.specs.declared.Outcome.TheVariants.{More, Accepted}
use Rattle.series_lines.specs.Lexer.{fresh, lex, lexes, whole_count, whole_term}
use Rattle.series_lines.specs.Reader.{last_offset, told}
use Rattle.text.specs.Reader.{begun, Run, run, ended, whole}
use Rattle.series_lines.specs.Grammar.{size, value, CountLine, count, count_bytes, GoodCount, TermLine, term_bytes, GoodTerm, term_of_line, TermInLimits}
use Rattle.series_lines.specs.Grammar.{AnyLine, a_count, a_term, line_bytes, line_packed, any_bytes, any_packed}
use Rattle.text_promises.specs.Decided.{Beginning, empty, with_count, with_term, Stands, Awaits, CanBegin, IsCount, IsTerm, IsLine}
use Rattle.text_promises.specs.Decided.{NumbersInLimits, Refuses, after_end, bad_byte, early_feed, count_over, number_over, total_over, too_coarse}
use Rattle.text_promises.specs.Decided.{no_room_count, no_room_term, Answers, accepts, refuses, ends_early, AnswersSoFar, complete, refused, goes_on}
use Rattle.integers.proofs.Tests.{by_cases}
use Rattle.text_promises.proofs.GoodLines.{count_run, line_of_term, term_run}
use Rattle.text_promises.proofs.OneByte.{never}
use Rattle.text_promises.proofs.TakenTerms.{term_in}
use Rattle.text_promises.proofs.TakenCounts.{count_in}
use Rattle.text_promises.proofs.Verdicts.{sp, is_whole}
use Rattle.text_promises.proofs.TakenTexts.{spot_after}
use Rattle.text_promises.proofs.Prefixes.{term_begins, term_goes_on, count_begins, count_goes_on}
use Rattle.text_promises.proofs.Beginnings.{bytes_more, packed_length, after, runs, few}
use Rattle.text_promises.proofs.Halts.{one_more, Halts, refusals, Open, goes}

-- ---- The reader gives the answers of the definition.

module _ (text out : List ℕ) (c : length text ≤ last_offset) where
  module _ {ls : List AnyLine} {k n : ℕ} {s : Tally} {rest : List ℕ} {room : ℕ} (h : Stands text out ls k n s rest room) where
    long : length text ≡ length (any_bytes ls) + length rest
    long = ap length h.is ∙ length-append (any_bytes ls) rest

    reads_to : run begun out text ≡ run (after ls k n s) (sets out 0 (any_packed ls)) rest
    reads_to = ap (λ (t : List ℕ). run begun out t) h.is ∙ runs h.beginning out rest (omega (arith, long)) (omega (arith, h.fits))

    stops : {f : Refusal} → Refuses (length (any_bytes ls)) s room k n rest f → Halts (after ls k n s) (sets out 0 (any_packed ls)) rest f
    stops r =
        refusals r (length (any_packed ls)) (sets out 0 (any_packed ls)) (omega (arith, long))
        (h.fits ∙ sym (length-sets out 0 (any_packed ls)))

    open_to : Awaits k n → CanBegin n rest → Open (after ls k n s) (sets out 0 (any_packed ls)) rest (length (any_packed ls)) (length text)
    open_to a b =
        subst (λ (i : ℕ). Open (after ls k n s) (sets out 0 (any_packed ls)) rest (length (any_packed ls)) i) (sym long)
        (goes (length (any_bytes ls)) (length (any_packed ls)) k n s (sets out 0 (any_packed ls)) rest a b (omega (arith, long)))

  module _ {ls : List AnyLine} {s : Tally} {room : ℕ} (h : Stands text out ls block_count 0 s [] room) where
    to_end : run begun out text
        ≡ record { reader = sp 30 (length (any_bytes ls)) (length (any_packed ls)) block_count 0 s; out = sets out 0 (any_packed ls) }
    unfolding run
    to_end =
        reads_to h
        ∙ ap (λ (i : ℕ). run (sp i (length (any_bytes ls)) (length (any_packed ls)) block_count 0 s) (sets out 0 (any_packed ls)) []) spot_after

  pub answers : {o : Outcome} {left : List ℕ} → Answers text out o left → (told (whole text out).reader ≡ o) × ((whole text out).out ≡ left)
  answers (accepts h) = (ap (λ (x : Run). told (ended x.reader)) (to_end h) ∙ accept _ _ _, ap (λ (x : Run). x.out) (to_end h))
    where
      accept : (at w : ℕ) (s : Tally) → told (ended (sp 30 at w block_count 0 s)) ≡ Accepted w
      accept at w s = unfold told ended in refl
  answers (refuses h r) =
      let q = stops h r in
      (ap (λ (x : Run). told (ended x.reader)) (reads_to h) ∙ q.last, ap (λ (x : Run). x.out) (reads_to h) ∙ q.same)
  answers (ends_early h a b) =
      let q = open_to h a b in
      (ap (λ (x : Run). told (ended x.reader)) (reads_to h) ∙ q.last, ap (λ (x : Run). x.out) (reads_to h) ∙ q.same)

  pub answers_so_far : {o : Outcome} {left : List ℕ} → AnswersSoFar text out o left
      → (told (run begun out text).reader ≡ o) × ((run begun out text).out ≡ left)
  answers_so_far (complete h) = (ap (λ (x : Run). told x.reader) (to_end h) ∙ reads _ _ _, ap (λ (x : Run). x.out) (to_end h))
    where
      reads : (at w : ℕ) (s : Tally) → told (sp 30 at w block_count 0 s) ≡ More w
      reads at w s = unfold told in refl
  answers_so_far (refused h r) =
      let q = stops h r in
      (ap (λ (x : Run). told x.reader) (reads_to h) ∙ q.answer, ap (λ (x : Run). x.out) (reads_to h) ∙ q.same)
  answers_so_far (goes_on h a b) =
      let q = open_to h a b in
      (ap (λ (x : Run). told x.reader) (reads_to h) ∙ q.answer, ap (λ (x : Run). x.out) (reads_to h) ∙ q.same)

-- ---- And every text has one.

-- Bytes from the beginning of a line, up to the first with which the line is bad.
data Scan (l : Line) : List ℕ → Type 0 where
  clear : {xs : List ℕ} → ((lexes l xs).spot ≡ 31 → ⊥) → Scan l xs
  stops_at : (xs : List ℕ) (b : ℕ) (more : List ℕ) → ((lexes l xs).spot ≡ 31 → ⊥) → (lex (lexes l xs) b).spot ≡ 31 → Scan l (xs ++ (b ∷ more))

further : (l : Line) (x : ℕ) (xs : List ℕ) → Scan (lex l x) xs → Scan l (x ∷ xs)
unfolding lexes
further l x xs (clear h) = clear h
further l x _ (stops_at ys b more h e) = stops_at (x ∷ ys) b more h e

scan : (xs : List ℕ) (l : Line) → (l.spot ≡ 31 → ⊥) → Scan l xs
unfolding lexes
scan [] l h = clear h
scan (x ∷ xs) l h =
    by_cases (eqb (lex l x).spot 31)
    (λ z. stops_at [] x xs h (eqb-true (lex l x).spot 31 z))
    (λ z. further l x xs (scan xs (lex l x) (eqb-false (lex l x).spot 31 z)))

-- How far a text comes.
data Comes (text out : List ℕ) : Type 0 where
  to_end_of_series : {ls : List AnyLine} {s : Tally} {room : ℕ} → Stands text out ls block_count 0 s [] room → Comes text out
  to_refusal : {ls : List AnyLine} {k n : ℕ} {s : Tally} {rest : List ℕ} {room : ℕ} {f : Refusal}
      → Stands text out ls k n s rest room → Refuses (length (any_bytes ls)) s room k n rest f → Comes text out
  to_open_line : {ls : List AnyLine} {k n : ℕ} {s : Tally} {rest : List ℕ} {room : ℕ}
      → Stands text out ls k n s rest room → Awaits k n → CanBegin n rest → Comes text out

-- Each number of a term line is within its limit, or one is not.
pub numbers : (l : TermLine) → NumbersInLimits l ⊎ (NumbersInLimits l → ⊥)
numbers l = go l.b.minus refl (a_fits (value l.a)) refl (b_fits (size l.b)) refl (c_fits (value l.c)) refl
  where
    go : (m : Bool) → l.b.minus ≡ m → (a : Bool) → a_fits (value l.a) ≡ a → (b : Bool) → b_fits (size l.b) ≡ b
        → (c : Bool) → c_fits (value l.c) ≡ c → NumbersInLimits l ⊎ (NumbersInLimits l → ⊥)
    go true pm a pa b pb c pc = inr (λ p. never (sym p.from_zero ∙ pm))
    go false pm true pa true pb true pc = inl (record { from_zero = pm; a = pa; b = pb; c = pc })
    go false pm true pa true pb false pc = inr (λ p. never (sym pc ∙ p.c))
    go false pm true pa false pb c pc = inr (λ p. never (sym pb ∙ p.b))
    go false pm false pa b pb c pc = inr (λ p. never (sym pa ∙ p.a))

-- With a rest that is shorter than N bytes.
abbrev Shorter : List ℕ → List ℕ → ℕ → Type 0
Shorter text out N =
    (ls : List AnyLine) (k n : ℕ) (s : Tally) (rest : List ℕ) (room : ℕ) → length rest < N → Stands text out ls k n s rest room → Comes text out

module _ (text out : List ℕ) (N : ℕ) (rec : Shorter text out N) (ls : List AnyLine) (k : ℕ) (s : Tally) (room : ℕ) where
  put_rest : (n : ℕ) (xs ys : List ℕ) → xs ≡ ys → Stands text out ls k n s xs room → Stands text out ls k n s ys room
  put_rest n xs ys e h = record { beginning = h.beginning; is = h.is ∙ ap (λ (t : List ℕ). any_bytes ls ++ t) e; fits = h.fits }

  -- With a line more, that was written.
  with_line : (n : ℕ) (l : AnyLine) (more : List ℕ) (m j : ℕ) (t : Tally) → length (line_bytes l ++ (10 ∷ more)) ≤ N
      → Stands text out ls k n s (line_bytes l ++ (10 ∷ more)) room → length (line_packed l) ≤ room → Beginning (ls ++ (l ∷ [])) m j t → Comes text out
  with_line n l more m j t c h r b =
      rec (ls ++ (l ∷ [])) m j t more (room - length (line_packed l)) (omega (arith, length-append (line_bytes l) (10 ∷ more)))
      (record { beginning = b; is = h.is ∙ sym (bytes_more ls l more); fits = omega (arith, packed_length ls l, h.fits) })

  module _ (fewer : k < block_count) where
    count_whole : (l : CountLine) (more : List ℕ) → GoodCount l → length (count_bytes l ++ (10 ∷ more)) ≤ N
        → Stands text out ls k 0 s (count_bytes l ++ (10 ∷ more)) room → Comes text out
    unfolding line_bytes
    count_whole l more g c h =
        by_cases (count_fits s (count l))
        (λ e. by_cases (leb (length (line_packed (a_count l))) room)
        (λ z. with_line 0 (a_count l) more (k + 1) (count l) (opened k (count l) s) c h (leb-true _ _ z) (with_count l h.beginning fewer g e))
        (λ z. to_refusal h (no_room_count l more fewer g e (leb-false _ _ z))))
        (λ e. to_refusal h (count_over l more fewer g e))

    count_feed : (xs more : List ℕ) → ((lexes (fresh 20) xs).spot ≡ 31 → ⊥) → length (xs ++ (10 ∷ more)) ≤ N
        → Stands text out ls k 0 s (xs ++ (10 ∷ more)) room → Comes text out
    unfolding CanBegin IsLine
    count_feed xs more live c h =
        by_cases (whole_count (lexes (fresh 20) xs))
        (λ p. let t = count_in xs (lexes (fresh 20) xs) p refl in
        let e = ap (λ (y : List ℕ). y ++ (10 ∷ more)) t.is in
        count_whole t.k more t.good (omega (arith, ap length e)) (put_rest 0 _ _ e h))
        (λ p. to_refusal h (early_feed xs more (λ z. fewer) (count_begins xs live) (λ i. not_whole i p)))
      where
        not_whole : IsCount xs → whole_count (lexes (fresh 20) xs) ≡ false → ⊥
        not_whole i p =
            let l = ap (λ (ys : List ℕ). lexes (fresh 20) ys) i.is ∙ count_run i.c i.good in
            never (sym p ∙ ap (λ (x : Line). whole_count x) l ∙ is_whole i.c i.good)

    count_comes : (rest : List ℕ) → Scan (fresh 20) rest → length rest ≤ N → Stands text out ls k 0 s rest room → Comes text out
    unfolding CanBegin
    count_comes rest (clear live) c h = to_open_line h (λ z. fewer) (count_begins rest live)
    count_comes _ (stops_at xs b more live bad) c h =
        by_cases (eqb b 10)
        (λ z. let e = ap (λ (y : ℕ). xs ++ (y ∷ more)) (eqb-true b 10 z) in
        count_feed xs more live (omega (arith, ap length e)) (put_rest 0 _ _ e h))
        (λ z. to_refusal h (bad_byte xs b more (λ y. fewer) (count_begins xs live) (eqb-false b 10 z)
        (λ i. count_goes_on (xs ++ (b ∷ [])) i (ap (λ (x : Line). x.spot) (one_more (fresh 20) xs b) ∙ bad))))

  term_whole : (n : ℕ) (l : TermLine) (more : List ℕ) → GoodTerm l → length (term_bytes l ++ (10 ∷ more)) ≤ N
      → Stands text out ls k (suc n) s (term_bytes l ++ (10 ∷ more)) room → Comes text out
  unfolding line_bytes
  term_whole n l more g c h = go (numbers l)
    where
      go : NumbersInLimits l ⊎ (NumbersInLimits l → ⊥) → Comes text out
      go (inr x) = to_refusal h (number_over l more g x)
      go (inl p) =
          by_cases (total_fits s (value l.a))
          (λ u. by_cases (coarse_fits (factor (k - 1)) s (value l.a) (size l.b) (value l.c))
          (λ v. let i : TermInLimits (factor (k - 1)) s l =
          record { from_zero = p.from_zero; a = p.a; b = p.b; c = p.c; total = u; coarse = v } in
          by_cases (leb (length (line_packed (a_term l))) room)
          (λ z. with_line (suc n) (a_term l) more k n (added (factor (k - 1)) s (term_of_line l)) c h (leb-true _ _ z) (with_term l h.beginning g i))
          (λ z. to_refusal h (no_room_term l more g i (leb-false _ _ z))))
          (λ v. to_refusal h (too_coarse l more g p u v)))
          (λ u. to_refusal h (total_over l more g p u))

  term_feed : (n : ℕ) (xs more : List ℕ) → ((lexes (fresh 0) xs).spot ≡ 31 → ⊥) → length (xs ++ (10 ∷ more)) ≤ N
      → Stands text out ls k (suc n) s (xs ++ (10 ∷ more)) room → Comes text out
  unfolding CanBegin IsLine
  term_feed n xs more live c h =
      by_cases (whole_term (lexes (fresh 0) xs))
      (λ p. let t = term_in xs (lexes (fresh 0) xs) p refl in
      let e = ap (λ (y : List ℕ). y ++ (10 ∷ more)) t.is in
      term_whole n t.t more t.good (omega (arith, ap length e)) (put_rest (suc n) _ _ e h))
      (λ p. to_refusal h (early_feed xs more (λ z. absurd (omega (arith, z))) (term_begins xs live) (λ i. not_whole i p)))
    where
      whole_line : (l : TermLine) → whole_term (line_of_term l) ≡ true
      whole_line l = unfold whole_term in refl

      not_whole : IsTerm xs → whole_term (lexes (fresh 0) xs) ≡ false → ⊥
      not_whole i p =
          let l = ap (λ (ys : List ℕ). lexes (fresh 0) ys) i.is ∙ term_run i.t i.good in
          never (sym p ∙ ap (λ (x : Line). whole_term x) l ∙ whole_line i.t)

  term_comes : (n : ℕ) (rest : List ℕ) → Scan (fresh 0) rest → length rest ≤ N → Stands text out ls k (suc n) s rest room → Comes text out
  unfolding CanBegin
  term_comes n rest (clear live) c h = to_open_line h (λ z. absurd (omega (arith, z))) (term_begins rest live)
  term_comes n _ (stops_at xs b more live bad) c h =
      by_cases (eqb b 10)
      (λ z. let e = ap (λ (y : ℕ). xs ++ (y ∷ more)) (eqb-true b 10 z) in
      term_feed n xs more live (omega (arith, ap length e)) (put_rest (suc n) _ _ e h))
      (λ z. to_refusal h (bad_byte xs b more (λ y. absurd (omega (arith, y))) (term_begins xs live) (eqb-false b 10 z)
      (λ i. term_goes_on (xs ++ (b ∷ [])) i (ap (λ (x : Line). x.spot) (one_more (fresh 0) xs b) ∙ bad))))

finished : (text out : List ℕ) (ls : List AnyLine) (s : Tally) (rest : List ℕ) (room : ℕ) → Stands text out ls block_count 0 s rest room → Comes text out
finished text out ls s [] room h = to_end_of_series h
finished text out ls s (b ∷ more) room h = to_refusal h (after_end b more)

comes_by : (text out : List ℕ) (N : ℕ) → Shorter text out N → (ls : List AnyLine) (k n : ℕ) (s : Tally) (rest : List ℕ) (room : ℕ)
    → length rest ≤ N → Stands text out ls k n s rest room → Comes text out
comes_by text out N rec ls k zero s rest room c h =
    by_cases (eqb k block_count)
    (λ z. finished text out ls s rest room (subst (λ (i : ℕ). Stands text out ls i 0 s rest room) (eqb-true k block_count z) h))
    (λ z. count_comes text out N rec ls k s room (not_all (eqb-false k block_count z) (few h.beginning)) rest
    (scan rest (fresh 20) (λ e. omega (arith, e))) c h)
  where
    not_all : (k ≡ block_count → ⊥) → k ≤ block_count → k < block_count
    not_all a b = omega arith
comes_by text out N rec ls k (suc n) s rest room c h =
    term_comes text out N rec ls k s room n rest (scan rest (fresh 0) (λ e. omega (arith, e))) c h

comes_of : (text out : List ℕ) (N : ℕ) → Shorter text out N
comes_of text out zero = λ ls k n s rest room i h. absurd (omega (arith, i))
comes_of text out (suc N) = λ ls k n s rest room i h. comes_by text out N (comes_of text out N) ls k n s rest room (omega (arith, i)) h

comes : (text out : List ℕ) → Comes text out
comes text out = comes_of text out (suc (length text)) [] 0 0 no_tally text (length out) (omega arith) start_here
  where
    start_here : Stands text out [] 0 0 no_tally text (length out)
    start_here = unfold any_bytes any_packed in record { beginning = empty; is = refl; fits = omega arith }

-- ---- The promise.

module _ (text out : List ℕ) (c : length text ≤ last_offset) where
  -- The answer to a text is the one that the definition gives it, and so is what the output holds.
  pub decided : Answers text out (told (whole text out).reader) (whole text out).out
  decided = go (comes text out)
    where
      given : {o : Outcome} {left : List ℕ} → Answers text out o left → Answers text out (told (whole text out).reader) (whole text out).out
      given a = let e = answers text out c a in rw (e.0, e.1) a

      go : Comes text out → Answers text out (told (whole text out).reader) (whole text out).out
      go (to_end_of_series h) = given (accepts h)
      go (to_refusal h r) = given (refuses h r)
      go (to_open_line h a b) = given (ends_early h a b)

  -- So has a text that has not ended.
  pub decided_so_far : AnswersSoFar text out (told (run begun out text).reader) (run begun out text).out
  decided_so_far = go (comes text out)
    where
      given : {o : Outcome} {left : List ℕ} → AnswersSoFar text out o left
          → AnswersSoFar text out (told (run begun out text).reader) (run begun out text).out
      given a = let e = answers_so_far text out c a in rw (e.0, e.1) a

      go : Comes text out → AnswersSoFar text out (told (run begun out text).reader) (run begun out text).out
      go (to_end_of_series h) = given (complete h)
      go (to_refusal h r) = given (refused h r)
      go (to_open_line h a b) = given (goes_on h a b)

  -- The definition gives one answer.
  pub one_answer : {o p : Outcome} {left other : List ℕ} → Answers text out o left → Answers text out p other → (o ≡ p) × (left ≡ other)
  one_answer a b =
      let e = answers text out c a in
      let f = answers text out c b in
      (sym e.0 ∙ f.0, sym e.1 ∙ f.1)
